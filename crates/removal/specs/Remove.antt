-- A row that leaves an accepted store. Over any page size. Assumes nothing.
use Rattle.std.specs.Prelude.{◌≡◌, List, ℕ, suc, ◌≤◌, ◌<◌}
use Rattle.std.proofs.Math.Option.{some}
use Rattle.page.specs.Page.{BucketPage, count, code, place}
use Rattle.partition.specs.declared.Shape.{Shape}
use Rattle.partition.specs.Partition.{Row}
use Rattle.partition.specs.Listing.{without, place_of}
use Rattle.store.specs.Pages.{pages, page, rows_held}
use Rattle.store.specs.Accepted.{Accepted}
use Rattle.store.specs.Demands.{Sized}
use Rattle.joining.specs.Prefix.{needs_of}

-- the row of the code c is that of slot i of page p of an accepted store
pub record Leaving (S : Shape) (h : List ℕ → ℕ) (s : List ℕ) (p i : ℕ) (c : List ℕ) : Type 0 where
  pub sized : Sized S
  pub accepted : Accepted S h s
  pub from : 2 ≤ p
  pub to : p < pages S s
  pub rules : BucketPage (page S s p)
  pub slot : i < count (page S s p)
  pub coded : code (page S s p) i ≡ c
  pub known : place_of (rows_held S s) c ≡ some (place (page S s p) i)

-- the rows left
abbrev pub rows_left : Shape → List ℕ → List ℕ → List Row
rows_left S s c = without (λ q. q.code) c (rows_held S s)

-- of the rows left, those of the prefix of j bits of the code's hash fit, and those of the prefix one bit shorter do not
pub record Fits (S : Shape) (h : List ℕ → ℕ) (s c : List ℕ) (j : ℕ) : Type 0 where
  pub fit : needs_of h (rows_left S s c) (h c) j ≤ S.capacity
  pub over : (i : ℕ) → j ≡ suc i → S.capacity < needs_of h (rows_left S s c) (h c) i
