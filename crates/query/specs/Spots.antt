-- Where a row of an accepted store stands. Assumes nothing.
use Rattle.std.specs.Prelude.{◌≡◌, List, ℕ, ◌+◌, ◌*◌, ◌≤◌, ◌<◌, length, Option, Some, None}
use Rattle.std.proofs.Math.Option.{some, none}
use Rattle.std.proofs.Math.ListN.{get_elem?}
use Rattle.hash.specs.Fnv.{fnv}
use Rattle.ground.specs.Lists.{byte}
use Rattle.page.specs.Page.{BucketPage, count, place, code, row_at}
use Rattle.partition.specs.declared.Shape.{Shape}
use Rattle.partition.specs.Listing.{listing, place_of}
use Rattle.store.specs.Pages.{size, page, as_row, rows_held}
use Rattle.store.specs.Demands.{Sized}
use Rattle.query.specs.declared.Spot.{Spot}

-- the store is long enough for a directory, and d is a depth that there is
pub record DirectoryOf (S : Shape) (s : List ℕ) (d : ℕ) : Type 0 where
  pub sized : Sized S
  pub long : 2 * size S ≤ length s
  pub deep : d ≤ S.deepest

-- the page at offset a is not deeper than d, and d is no more than the deepest depth of all sizes
pub record ShallowAt (s : List ℕ) (a d : ℕ) : Type 0 where
  pub there : a + 2 ≤ length s
  pub low : byte s (a + 1) ≤ d
  pub deep : d ≤ 12

-- slot i of the bucket page p
pub record OnPage (S : Shape) (s : List ℕ) (p i : ℕ) : Type 0 where
  pub from : 2 ≤ p
  pub within : p * size S + size S ≤ length s
  pub rules : BucketPage (page S s p)
  pub slot : i < count (page S s p)

-- the row of the code c stands there, or there is none
abbrev pub StandsAt : Shape → List ℕ → List ℕ → Option Spot → Type 0
StandsAt S s c (Some a) = OnPage S s a.page a.slot × (code (page S s a.page) a.slot ≡ c) × (place_of (rows_held S s) c ≡ some (place (page S s a.page) a.slot))
StandsAt S s c None = place_of (rows_held S s) c ≡ none

-- the row at place n of the listing stands there, or there is none
abbrev pub Listed : Shape → List ℕ → ℕ → Option Spot → Type 0
Listed S s n (Some a) = OnPage S s a.page a.slot × (get_elem? (listing S fnv (rows_held S s)) n ≡ some (as_row (row_at (page S s a.page) a.slot)))
Listed S s n None = get_elem? (listing S fnv (rows_held S s)) n ≡ none
