-- A store's pages as they are read: free, or a bucket of records. Assumes nothing.
use mathlib.Core.List.{List, [], ◌∷◌, map, flat_map}
use Rattle.std.specs.Prelude.{ℕ, zero, suc, ◌+◌, ◌-◌, ◌*◌, ◌/◌, max, length}
use Rattle.ground.specs.Lists.{byte, part, splice, tab}
use Rattle.words.specs.Le.{le32}
use Rattle.page.specs.Page.{Record, depth, rows}
use Rattle.partition.specs.declared.Shape.{Shape}
use Rattle.partition.specs.Partition.{Row}
-- pages of 1,024 bytes
pub use Rattle.partition.specs.Partition.{S1024}
pub use Rattle.partition.specs.Sizes.{size}

abbrev pub pages : Shape → List ℕ → ℕ
pages S s = length s / size S

unfoldable pub page : Shape → List ℕ → ℕ → List ℕ
page S s p = part s (p * size S) (size S)

-- the store with ys for page p
unfoldable pub set_page : Shape → List ℕ → ℕ → List ℕ → List ℕ
set_page S s p ys = splice s (p * size S) (size S) ys

-- page 0: at 16 the depth
abbrev pub dir_depth : List ℕ → ℕ
dir_depth s = le32 s 16

-- page 1: entries of 32 bits
abbrev pub entry_at : Shape → List ℕ → ℕ → ℕ
entry_at S s i = le32 s (size S + 4 * i)

-- page 2 on: free, or a bucket of a local depth and of records in slot order
pub data Page : Type 0 where
  free : Page
  bucket : ℕ → List Record → Page

-- a bucket's byte 0 is 1, a free page's 0
abbrev pub reading : ℕ → List ℕ → Page
reading zero g = free
reading (suc b) g = bucket (depth g) (rows g)

unfoldable pub read : List ℕ → Page
read g = reading (byte g 0) g

-- what page 2, page 3, .. hold
unfoldable pub contents : Shape → List ℕ → List Page
unfolding page read
contents S s = tab (λ i. read (page S s (i + 2))) (pages S s - 2)

-- a row is a code with its place
abbrev pub as_row : Record → Row
as_row r = record { code = r.code; place = r.place }

abbrev pub rows_on : Page → List Row
rows_on free = []
rows_on (bucket k rs) = map as_row rs

abbrev pub depth_on : Page → ℕ
depth_on free = 0
depth_on (bucket k rs) = k

unfoldable pub rows_in : List Page → List Row
unfolding flat_map
rows_in gs = flat_map rows_on gs

-- the largest bucket depth, 0 for no rows
unfoldable pub deepest_in : List Page → ℕ
deepest_in [] = 0
deepest_in (g ∷ gs) = max (depth_on g) (deepest_in gs)

-- the rows of a store
abbrev pub rows_held : Shape → List ℕ → List Row
rows_held S s = rows_in (contents S s)
