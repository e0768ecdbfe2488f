-- The counts of a store whose pages all stand, against those in page 0. Assumes nothing.
use mathlib.Core.Path.{sym, ap, ◌∙◌}
use mathlib.Core.List.{List}
use Prim.Native.Nat.{ℕ, ◌*◌, ◌≤◌, ◌<◌}
use native.Mathlib.Omega.{arith}
use native.Mathlib.Nat.{mul-le-mul_right}
use lib.ListN.{length}
use Rattle.hash.specs.Fnv.{fnv}
use Rattle.partition.specs.declared.Shape.{Shape}
use Rattle.partition.proofs.Sizes.{twelve}
use Rattle.store.specs.Pages.{size, page, read, depth_on}
use Rattle.store.specs.Accepted.{Stands, unused, used}
use Rattle.store.specs.Counts.{Counts}
use Rattle.store.proofs.Accepted.Unique.{read_zero, read_bucket}
use Rattle.store.proofs.Counts.Words.{counts_word, word_counts}
use Rattle.counts.specs.Tallies.{Tallied, SameCounts}
use Rattle.store_check.specs.Begun.{AllStand}

-- no page is deeper than 12
pub all_shallow : (S : Shape) (s : List ℕ) (n : ℕ) → AllStand S s n → (p : ℕ) → 2 ≤ p → p < n → depth_on (read (page S s p)) ≤ 12
all_shallow S s n A p a b = go (A.each p a b)
  where
    go : Stands S fnv s p → depth_on (read (page S s p)) ≤ 12
    go (unused z _) = omega (arith, ap depth_on (read_zero (page S s p) z))
    go (used u l _) = omega (arith, ap depth_on (read_bucket fnv (page S s p) u), l, A.deep, twelve S A.sized)

-- page 0 has room for its counts, and there are not too many pages
pub room_counts : (S : Shape) (s : List ℕ) (n : ℕ) → AllStand S s n → 80 ≤ length s
room_counts S s n A =
    let m : 3 * size S ≤ n * size S = mul-le-mul_right (size S) A.least in
    omega (arith, m, A.long, A.sized.least)

pub few_pages : (S : Shape) (s : List ℕ) (n : ℕ) → AllStand S s n → n ≤ 4098
few_pages S s n A = omega (arith, A.most, A.sized.whole, A.sized.most)

-- the counts are true exactly where they are those worked out
pub same_true : (S : Shape) (s tallies : List ℕ) → Tallied S s tallies → SameCounts s tallies → Counts S s
same_true S s tallies t e = word_counts S s (λ j l. e j l ∙ t.each j l)

pub true_same : (S : Shape) (s tallies : List ℕ) → Tallied S s tallies → Counts S s → SameCounts s tallies
true_same S s tallies t c = λ j l. counts_word S s c j l ∙ sym (t.each j l)
