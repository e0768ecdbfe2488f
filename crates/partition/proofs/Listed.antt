-- The rows of a prefix are those of the buckets at or below it, each once; so the listing has every row once.
-- Assumes nothing.
use mathlib.Core.Path.{◌≡◌, subst}
use mathlib.Core.List.{List, flat_map}
use Prim.Native.Nat.{ℕ, ◌+◌, ◌-◌, ◌^◌, ◌≤◌, ◌<◌}
use native.Mathlib.Nat.{zero-add}
use native.Mathlib.Omega.{arith}
use lib.ListN.{length}
use Rattle.partition.specs.declared.Shape.{Shape}
use Rattle.partition.specs.Partition.{Row, Prefix, rows_of, Fine, Reordered, grade, buckets}
use Rattle.partition.specs.Listing.{in_order, listing, Once}
use Rattle.partition.proofs.Reorders.{turned, length_same}
use Rattle.partition.proofs.Rows.{mean_of, rows_all}
use Rattle.partition.proofs.Splice.{at_below}
use Rattle.partition.proofs.Sum.{spread}
use Rattle.partition.proofs.Sorted.{same_map, in_order_reordered}

module _ (S : Shape) (h : List ℕ → ℕ) (rs : List Row) (fine : Fine S h rs) where
  -- f gives a bucket's rows in some order
  module _ (f : Prefix → List Row) (each : (p : Prefix) → Reordered (rows_of h rs p.bits p.value) (f p)) where
    pub prefix_spread : (k v : ℕ) → k ≤ S.deepest → Reordered (rows_of h rs k v) (flat_map f (at_below S h rs k v))
    prefix_spread k v l =
        let e : k + (S.deepest - k) ≡ S.deepest = omega arith in
        spread S.capacity h rs f each (S.deepest - k) (grade S.capacity (rows_of h rs k v)) k v (mean_of S.capacity (rows_of h rs k v)) (λ w c. rw e (fine w))

    pub rows_spread : ((c : List ℕ) → h c < 2 ^ 32) → Reordered rs (flat_map f (buckets S h rs))
    unfolding buckets
    rows_spread small =
        subst (λ l. Reordered l (flat_map f (buckets S h rs))) (rows_all h small rs)
        (spread S.capacity h rs f each S.deepest (grade S.capacity (rows_of h rs 0 0)) 0 0 (mean_of S.capacity (rows_of h rs 0 0)) (λ w c. rw zero-add (fine w)))

  -- each row is listed once
  pub listing_reordered : ((c : List ℕ) → h c < 2 ^ 32) → Reordered rs (listing S h rs)
  unfolding listing
  listing_reordered small = rows_spread (λ p. in_order (rows_of h rs p.bits p.value)) (λ p. turned (in_order_reordered (rows_of h rs p.bits p.value))) small

  -- so as many as there are, and no code twice
  pub listing_length : ((c : List ℕ) → h c < 2 ^ 32) → length (listing S h rs) ≡ length rs
  listing_length small = length_same (turned (listing_reordered small))

  pub listing_once : ((c : List ℕ) → h c < 2 ^ 32) → Once rs → Once (listing S h rs)
  listing_once small o = (same_map (listing_reordered small) o).0
