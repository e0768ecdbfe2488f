-- Pages that show rows: a page for each bucket worked out afresh from the rows, with its rows in code order. What the calls keep.
-- Assumes nothing.
use mathlib.Core.Path.{◌≡◌}
use mathlib.Core.List.{List, [], ◌∷◌, map}
use Prim.Native.Nat.{ℕ, ◌<◌}
use lib.ListN.{length, get_or}
use Rattle.page.specs.Page.{Record}
use Rattle.partition.specs.Bits.{top}
use Rattle.partition.specs.declared.Shape.{Shape}
use Rattle.partition.specs.Partition.{Row, IsBucket, Fine, Reordered, rows_of}
use Rattle.partition.specs.Listing.{in_order, Once}
use Rattle.store.specs.Pages.{Page, free, bucket, as_row, rows_in}

-- the code in slot 0
abbrev pub first_code : List Record → List ℕ
first_code [] = []
first_code (r ∷ rs) = r.code

-- the prefix of a bucket of depth k is that of its first code
abbrev pub prefix_on : (List ℕ → ℕ) → ℕ → List Record → ℕ
prefix_on h k rs = top k (h (first_code rs))

-- the page of depth k and records rs is a bucket of the rows, with all rows of its prefix in code order
pub record OnPage (S : Shape) (h : List ℕ → ℕ) (rows : List Row) (k : ℕ) (rs : List Record) : Type 0 where
  pub some : 0 < length rs
  pub is : IsBucket S h rows k (prefix_on h k rs)
  pub ordered : map as_row rs ≡ in_order (rows_of h rows k (prefix_on h k rs))

-- page i of the pages is a bucket of depth k and records rs
abbrev pub Holding : List Page → ℕ → ℕ → List Record → Type 0
Holding gs i k rs = get_or gs i free ≡ bucket k rs

pub record Shows (S : Shape) (h : List ℕ → ℕ) (rows : List Row) (gs : List Page) : Type 0 where
  pub same : Reordered (rows_in gs) rows
  pub once : Once rows
  pub fine : Fine S h rows
  pub page : (i k : ℕ) (rs : List Record) → Holding gs i k rs → OnPage S h rows k rs
  pub apart : (i j k : ℕ) (rs qs : List Record) → Holding gs i k rs → Holding gs j k qs → prefix_on h k rs ≡ prefix_on h k qs → i ≡ j
