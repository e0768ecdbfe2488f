-- The number at 20 in page 0: an accepted store says its own size, under 24 bytes none has a good length, and pages of 1,024 bytes keep the rule that they
-- had before there were sizes. The three page sizes are the numbers that stand for themselves.
-- Assumes nothing.
use mathlib.Core.Path.{◌≡◌, refl, sym, ap, subst, ◌∙◌}
use mathlib.Core.Bool.{Bool, true, false}
use mathlib.Core.List.{List}
use mathlib.Core.Logic.{inl, inr, ⊎_elim}
use Prim.Native.Nat.{ℕ, ◌+◌, ◌≤◌, ◌<◌}
use native.Mathlib.Omega.{arith}
use lib.Dec.{eqb}
use lib.ListN.{length}
use Rattle.ground.specs.Lists.{byte}
use Rattle.ground.proofs.Sides.{side, same}
use Rattle.words.specs.Le.{le16, le32}
use Rattle.partition.specs.Sizes.{size, S4096, S16384, shape_at, either, shape_for, shape_of}
use Rattle.partition.proofs.Sizes.{sized_of, number_back, number_1024}
use Rattle.store.specs.Pages.{S1024}
use Rattle.store.specs.Tables.{Refusal1, PageSize}
use Rattle.store.specs.Demands.{SizeIsSaid, SmallAsBefore}
use Rattle.store.proofs.Accepted.Rules.{opened}
use Rattle.store.proofs.Accepted.Unique.{within}

pub size_is_said : SizeIsSaid
unfolding shape_of
size_is_said k l h s a = ap shape_for (opened (shape_at k) h s a).page0.size_number ∙ number_back k l

-- under 24 bytes the length is refused at every size
pub short : (s : List ℕ) → length s < 24 → Refusal1 (shape_of s) s
short s l g = omega (arith, l, within (shape_of s) s 2 g.least, (sized_of s).least)

size_by : (n : ℕ) (a b : Bool) → n ≡ size (either a S4096 (either b S16384 S1024)) → PageSize n
size_by n true b e = inr (inl e)
size_by n false true e = inr (inr e)
size_by n false false e = inl e

pub size_is : (n : ℕ) → n ≡ size (shape_for n) → PageSize n
unfolding shape_for
size_is n e = size_by n (eqb n 4096) (eqb n 16384) e

pub is_size : (n : ℕ) → PageSize n → n ≡ size (shape_for n)
unfolding shape_for
is_size n (inl e) = subst (λ m. m ≡ size (shape_for m)) (sym e) refl
is_size n (inr (inl e)) = subst (λ m. m ≡ size (shape_for m)) (sym e) refl
is_size n (inr (inr e)) = subst (λ m. m ≡ size (shape_for m)) (sym e) refl

-- a number of four bytes is 0 exactly where they are
four_zeros : (s : List ℕ) (a : ℕ) → le32 s a ≡ 0 → (k : ℕ) → a ≤ k → k < a + 4 → byte s k ≡ 0
unfolding le32 le16
four_zeros s a z k lo hi =
    ⊎_elim (λ e. let q : byte s k ≡ byte s a = ap (byte s) e in omega arith)
    (λ n. ⊎_elim (λ e. let q : byte s k ≡ byte s (a + 1) = ap (byte s) e in omega arith)
    (λ m. ⊎_elim (λ e. let q : byte s k ≡ byte s (a + 2) = ap (byte s) e in omega arith)
    (λ l. let e : k ≡ a + 2 + 1 = omega (arith, n, m, l) in let q : byte s k ≡ byte s (a + 2 + 1) = ap (byte s) e in omega arith)
    (same k (a + 2))) (same k (a + 1))) (same k a)

zeros_four : (s : List ℕ) (a : ℕ) → ((k : ℕ) → a ≤ k → k < a + 4 → byte s k ≡ 0) → le32 s a ≡ 0
unfolding le32 le16
zeros_four s a z = omega (arith, z a (omega arith) (omega arith), z (a + 1) (omega arith) (omega arith), z (a + 2) (omega arith) (omega arith), z (a + 2 + 1) (omega arith) (omega arith))

pub small_as_before : SmallAsBefore
small_as_before s = (
  (λ p. record {
    number = p.number;
    directory = p.directory;
    entries = p.entries;
    first = p.first;
    depth = p.depth;
    rest = λ k lo hi. ⊎_elim (λ l. four_zeros s 20 (p.size_number ∙ number_1024) k lo l) (λ g. p.rest k g hi) (side k 24);
  }),
  (λ p. record {
    number = p.number;
    directory = p.directory;
    entries = p.entries;
    first = p.first;
    depth = p.depth;
    size_number = zeros_four s 20 (λ k lo hi. p.rest k lo (omega arith)) ∙ sym number_1024;
    rest = λ k lo hi. p.rest k (omega arith) hi;
  }),
)
