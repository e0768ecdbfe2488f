-- What a size number stands for is a row of the table of sizes, and an accepted store says it. Assumes nothing.
use mathlib.Core.Path.{◌≡◌, refl, sym, subst, ◌∙◌}
use mathlib.Core.Bool.{Bool, true, false}
use mathlib.Core.List.{List}
use mathlib.Core.Logic.{inl, inr, ⊎_elim}
use Prim.Native.Nat.{ℕ, ◌<◌}
use native.Mathlib.Omega.{arith}
use lib.Dec.{T, eqb, eqb→eq}
use Rattle.ground.proofs.Sides.{same}
use Rattle.words.specs.Le.{le32}
use Rattle.partition.specs.Sizes.{S4096, S16384, shape_at, either, shape_for, number_of_size, shape_of}
use Rattle.store.specs.Pages.{S1024}
use Rattle.store.specs.Accepted.{Page0, Accepted}
use Rattle.store.specs.Tables.{PageSize}
use Rattle.store.proofs.Accepted.OwnSize.{size_is_said}
pub use Rattle.store.proofs.Accepted.OwnSize.{short}
use Rattle.any_size.specs.OwnSizes.{SizeNumber}

row_by : (a b : Bool) → (k : ℕ) × (k < 3) × (either a S4096 (either b S16384 S1024) ≡ shape_at k)
unfolding shape_at
row_by true b = (1, omega arith, refl)
row_by false true = (2, omega arith, refl)
row_by false false = (0, omega arith, refl)

row_for : (n : ℕ) → (k : ℕ) × (k < 3) × (shape_for n ≡ shape_at k)
unfolding shape_for
row_for n = row_by (eqb n 4096) (eqb n 16384)

pub said_for : (h : List ℕ → ℕ) (n : ℕ) (t : List ℕ) → Accepted (shape_for n) h t → shape_of t ≡ shape_for n
said_for h n t a = let r = row_for n in size_is_said r.0 r.1 h t (subst (λ S. Accepted S h t) r.2 a) ∙ sym r.2

pub number_at : (s : List ℕ) → shape_of s ≡ shape_for (le32 s 20)
unfolding shape_of
number_at s = refl

pub said_of : (h : List ℕ → ℕ) (s t : List ℕ) → Accepted (shape_of s) h t → shape_of t ≡ shape_of s
said_of h s t a = subst (λ S. Accepted S h t → shape_of t ≡ S) (sym (number_at s)) (said_for h (le32 s 20) t) a

-- ---- the three page sizes, and their numbers

pub size_or_not : (n : ℕ) → Dec (PageSize n)
size_or_not n =
    ⊎_elim (λ e. yes (inl e))
    (λ a. ⊎_elim (λ e. yes (inr (inl e)))
    (λ b. ⊎_elim (λ e. yes (inr (inr e))) (λ c. no (λ w. ⊎_elim a (λ v. ⊎_elim b c v) w)) (same n 16384))
    (same n 4096)) (same n 1024)

number_by : (a b : Bool) → SizeNumber (number_of_size (either a S4096 (either b S16384 S1024)))
unfolding number_of_size
number_by true b = inr (inl refl)
number_by false true = inr (inr refl)
number_by false false = inl refl

number_for : (n : ℕ) → SizeNumber (number_of_size (shape_for n))
unfolding shape_for
number_for n = number_by (eqb n 4096) (eqb n 16384)

other_by : (n : ℕ) (a b : Bool) → eqb n 4096 ≡ a → eqb n 16384 ≡ b → (SizeNumber n → ⊥) → either a S4096 (either b S16384 S1024) ≡ S1024
other_by n false false e f o = refl
other_by n true b e f o = absurd (o (inr (inl (eqb→eq n 4096 (subst (λ x. T x) (sym e) tt)))))
other_by n false true e f o = absurd (o (inr (inr (eqb→eq n 16384 (subst (λ x. T x) (sym f) tt)))))

pub bad_number : (s : List ℕ) → (SizeNumber (le32 s 20) → ⊥) → (shape_of s ≡ S1024) × ((n : ℕ) → Page0 (shape_for n) s → ⊥)
unfolding shape_of shape_for
bad_number s b = (
  other_by (le32 s 20) (eqb (le32 s 20) 4096) (eqb (le32 s 20) 16384) refl refl b,
  (λ n p. b (subst (λ k. SizeNumber k) (sym p.size_number) (number_for n))),
)
