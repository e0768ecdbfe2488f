-- The table of page sizes, by one computed test. Assumes nothing.
use mathlib.Core.Path.{◌≡◌, refl}
use mathlib.Core.Bool.{Bool, true, false}
use mathlib.Core.List.{List, [], ◌∷◌}
use mathlib.Core.Logic.{⊎_elim}
use Prim.Native.Nat.{ℕ, zero, suc, ◌*◌, ◌^◌, ◌≤◌, ◌<◌}
use native.Mathlib.Omega.{arith}
use native.Mathlib.Nat.{le_of_suc-le-suc, not-suc-le-zero}
use lib.Dec.{T, eqb, leb, eqb→eq, leb→le}
use lib.ListN.{length, get_or}
use lib.Pow.{pow_mono}
use Rattle.words.specs.Le.{le32}
use Rattle.ground.proofs.Sides.{side}
use Rattle.partition.specs.declared.Shape.{Shape}
use Rattle.partition.specs.Partition.{S1024}
use Rattle.partition.specs.Sizes.{size, Sized, sizes, shape_at, either, shape_for, number_of_size, shape_of}
use Rattle.partition.proofs.Table.{both, both_left, both_right}

-- the rule as a test
abbrev keeps : Shape → Bool
keeps S = both (eqb (4 * S.entries) (size S)) (both (eqb (2 ^ S.deepest) S.entries) (both (leb 76 S.capacity) (leb (size S) 16384)))

kept : (S : Shape) → T (keeps S) → Sized S
kept S t =
    let t₁ = both_right (eqb (4 * S.entries) (size S)) _ t in
    let t₂ = both_right (eqb (2 ^ S.deepest) S.entries) _ t₁ in
    record {
      whole = eqb→eq _ _ (both_left (eqb (4 * S.entries) (size S)) _ t);
      deep = eqb→eq _ _ (both_left (eqb (2 ^ S.deepest) S.entries) _ t₁);
      least = leb→le _ _ (both_left (leb 76 S.capacity) _ t₂);
      most = leb→le _ _ (both_right (leb 76 S.capacity) _ t₂);
    }

abbrev all : List Shape → Bool
all [] = true
all (S ∷ Ss) = both (keeps S) (all Ss)

at : (Ss : List Shape) → T (all Ss) → (k : ℕ) → k < length Ss → Sized (get_or Ss k S1024)
at [] t k h = absurd (not-suc-le-zero h)
at (S ∷ Ss) t zero h = kept S (both_left (keeps S) (all Ss) t)
at (S ∷ Ss) t (suc k) h = at Ss (both_right (keeps S) (all Ss) t) k (le_of_suc-le-suc h)

-- each row of the table
pub sized_at : (k : ℕ) → k < 3 → Sized (shape_at k)
unfolding shape_at
sized_at k h = at sizes tt k h

either_all : {A : Type 0} (P : A → Type 0) (b : Bool) {x y : A} → P x → P y → P (either b x y)
either_all P true p q = p
either_all P false p q = q

-- and so what any number at 20 stands for
pub sized_for : (n : ℕ) → Sized (shape_for n)
unfolding shape_for shape_at
sized_for n = either_all Sized (eqb n 4096) (sized_at 1 (omega arith)) (either_all Sized (eqb n 16384) (sized_at 2 (omega arith)) (sized_at 0 (omega arith)))

pub sized_of : (s : List ℕ) → Sized (shape_of s)
unfolding shape_of
sized_of s = sized_for (le32 s 20)

-- each row of the table is what its own number stands for
pub number_back : (k : ℕ) → k < 3 → shape_for (number_of_size (shape_at k)) ≡ shape_at k
unfolding shape_for number_of_size shape_at
number_back zero h = refl
number_back (suc zero) h = refl
number_back (suc (suc zero)) h = refl
number_back (suc (suc (suc k))) h = absurd (omega arith)

pub number_1024 : number_of_size S1024 ≡ 0
unfolding number_of_size
number_1024 = refl

pub number_small : (S : Shape) → Sized S → number_of_size S ≤ 16384
unfolding number_of_size
number_small S z = either_all (λ n. n ≤ 16384) (eqb (size S) 1024) (omega arith) z.most

-- every size's depth is at most 12
pub twelve : (S : Shape) → Sized S → S.deepest ≤ 12
twelve S z = ⊎_elim (λ h. let m : 2 ^ 13 ≤ 2 ^ S.deepest = pow_mono h in absurd (omega (arith, z.deep, z.whole, z.most))) (λ h. omega arith) (side 12 S.deepest)
