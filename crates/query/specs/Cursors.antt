-- Where a cursor stands in the listing of an accepted store, and what a step gives. Assumes nothing.
use Rattle.std.specs.Prelude.{◌≡◌, ℕ, ◌+◌, ◌^◌, ◌≤◌, ◌<◌, leb, Option, Some, None}
use mathlib.Core.List.{List, [], ◌∷◌, flat_map, Memᴰ}
use Rattle.std.proofs.Math.Option.{some}
use Rattle.std.proofs.Math.ListN.{get_elem?}
use Rattle.hash.specs.Fnv.{fnv}
use Rattle.page.specs.Page.{count, row_at}
use Rattle.partition.specs.declared.Shape.{Shape}
use Rattle.partition.specs.Partition.{Row, Prefix, rows_of, buckets, first, after}
use Rattle.partition.specs.Listing.{in_order, listing}
use Rattle.store.specs.Moves.{pick}
use Rattle.store.specs.Pages.{page, as_row, rows_held, dir_depth}
use Rattle.store.specs.Accepted.{Accepted}
use Rattle.store.specs.Demands.{Sized}
use Rattle.query.specs.Spots.{Listed}
use Rattle.query.specs.declared.Cursor.{Cursor}
use Rattle.query.specs.declared.Spot.{Spot}

-- the buckets that begin at entry i or later
unfoldable pub later : ℕ → ℕ → List Prefix → List Prefix
unfolding first
later d i [] = []
later d i (p ∷ l) = pick (leb i (first d p)) (p ∷ later d i l) (later d i l)

-- their rows, as they are listed
unfoldable pub listed_from : Shape → List ℕ → ℕ → List Row
unfolding flat_map later
listed_from S s i = flat_map (λ (p : Prefix). in_order (rows_of fnv (rows_held S s) p.bits p.value)) (later (dir_depth s) i (buckets S fnv (rows_held S s)))

-- The cursor stands before place n: the rows from there on are those from its slot on of the buckets that begin at its entry or later, and none that began earlier has that entry.
pub record At (S : Shape) (s : List ℕ) (n : ℕ) (c : Cursor) : Type 0 where
  pub rest : (j : ℕ) → get_elem? (listing S fnv (rows_held S s)) (n + j) ≡ get_elem? (listed_from S s c.entry) (c.slot + j)
  pub whole : (p : Prefix) → Memᴰ p (buckets S fnv (rows_held S s)) → first (dir_depth s) p < c.entry → after (dir_depth s) p ≤ c.entry
  pub most : c.entry ≤ 2 ^ dir_depth s

-- the cursor stands before some place of an accepted store's listing
pub record Steppable (S : Shape) (s : List ℕ) (c : Cursor) : Type 0 where
  pub sized : Sized S
  pub accepted : Accepted S fnv s
  pub place : ℕ
  pub at : At S s place c

-- the slots from i on of the page p have the rows of the listing from place n on
abbrev pub Along : Shape → List ℕ → ℕ → ℕ → ℕ → Type 0
Along S s n p i = (j : ℕ) → i + j < count (page S s p) → get_elem? (listing S fnv (rows_held S s)) (n + j) ≡ some (as_row (row_at (page S s p) (i + j)))

-- a step from before place n: the row at place n, those behind it on its page, and a cursor one slot on, before the next; or there is no such row
abbrev pub Stepped : Shape → List ℕ → ℕ → Option (Spot × Cursor) → Type 0
Stepped S s n (Some (a, c)) = Listed S s n (Some a) × At S s (n + 1) c × Along S s n a.page a.slot × (c.slot ≡ a.slot + 1)
Stepped S s n None = Listed S s n None
