-- The listing has as many rows as the store. Assumes nothing.
use Prim.Native.Nat.{ℕ}
use mathlib.Core.Path.{◌≡◌}
use mathlib.Core.List.{List}
use lib.ListN.{length}
use Rattle.hash.specs.Fnv.{fnv, fnv_lt}
use Rattle.partition.specs.declared.Shape.{Shape}
use Rattle.partition.specs.Listing.{listing}
use Rattle.partition.proofs.Reorders.{length_same}
use Rattle.store.specs.Accepted.{Accepted}
use Rattle.store.specs.Demands.{Sized}
use Rattle.store.specs.Pages.{rows_held}
use Rattle.store.proofs.Showing.Walked.{listed_once}

pub listing_counts : (S : Shape) (s : List ℕ) → Sized S → Accepted S fnv s → length (rows_held S s) ≡ length (listing S fnv (rows_held S s))
listing_counts S s z a = length_same (listed_once S fnv z fnv_lt s a).1
