-- The depth that the counts tell is the largest bucket depth. Assumes nothing.
use mathlib.Core.Path.{◌≡◌, sym, ◌∙◌}
use mathlib.Core.List.{List}
use mathlib.Core.Logic.{◌⊎◌, inl, inr, ⊎_elim}
use Prim.Native.Nat.{ℕ, ◌+◌, ◌*◌, ◌≤◌, ◌<◌}
use native.Mathlib.Omega.{arith}
use Rattle.ground.proofs.Sides.{side}
use Rattle.words.specs.Le.{le32}
use Rattle.partition.specs.declared.Shape.{Shape}
use Rattle.store.specs.Pages.{Page, contents, deepest_in}
use Rattle.store.specs.Counts.{buckets_at, Counts}
use Rattle.store.proofs.Counts.Counted.{counted_low, deepest_counted, deepest_by_counts}
use Rattle.counts.specs.Tallies.{DeepestCounted}

-- no depth over d is counted: none is deeper
pub deepest_low : (gs : List Page) (d : ℕ) → ((k : ℕ) → d < k → buckets_at k gs ≡ 0) → deepest_in gs ≤ d
deepest_low gs d f = ⊎_elim
    (λ l. ⊎_elim (λ e. absurd (omega (arith, e, l))) (λ m. absurd (omega (arith, m, f (deepest_in gs) l))) (deepest_counted gs))
    (λ l. l)
    (side d (deepest_in gs))

-- and one that none is deeper than is not counted
pub none_above : (gs : List Page) (d : ℕ) → deepest_in gs ≤ d → (k : ℕ) → d < k → buckets_at k gs ≡ 0
none_above gs d low k l = ⊎_elim (λ m. absurd (omega (arith, low, counted_low k gs m))) (λ m. omega arith) (side 0 (buckets_at k gs))

pub told_deepest : (S : Shape) (s : List ℕ) (most d : ℕ) → Counts S s → most ≤ 12 → deepest_in (contents S s) ≤ most → DeepestCounted s most d → deepest_in (contents S s) ≡ d
told_deepest S s most d C few low D = deepest_by_counts (contents S s) d (at D.there) above
  where
    at : (d ≡ 0) ⊎ (0 < le32 s (28 + 4 * d)) → (d ≡ 0) ⊎ (0 < buckets_at d (contents S s))
    at (inl e) = inl e
    at (inr l) = inr (omega (arith, l, C.buckets d (omega (arith, D.low, few))))

    above : (k : ℕ) → d < k → buckets_at k (contents S s) ≡ 0
    above k l = ⊎_elim (λ h. none_above (contents S s) most low k h) (λ m. sym (C.buckets k (omega (arith, m, few))) ∙ D.above k l m) (side most k)
