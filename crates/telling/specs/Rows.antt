-- Rows as the lines that list writes. Assumes nothing.
use Rattle.std.specs.Prelude.{ℕ, zero, suc, ◌+◌, ◌-◌, ◌≤◌, ◌<◌, ◌≡◌, List, [], ◌∷◌, ◌++◌, length, take, drop, Option, IfSome}
use Rattle.commands.specs.Answers.{rowed}
use Rattle.hash.specs.Fnv.{fnv}
use Rattle.page.specs.Page.{BucketPage, count, row_at}
use Rattle.page.specs.Places as Places
use Rattle.partition.specs.declared.Shape.{Shape}
use Rattle.partition.specs.Partition.{Row}
use Rattle.partition.specs.Listing.{listing}
use Rattle.query.specs.Spots.{OnPage}
use Rattle.query.specs.Cursors.{Along}
use Rattle.store.specs.Pages.{as_row, rows_held}
use Rattle.telling.specs.declared.Lined.{Lined}

-- a row as a line
abbrev pub line_of : Row → List ℕ
line_of r = rowed r.code (Places.place_from r.place) ++ (10 ∷ [])

-- rows as lines, one after the other
unfoldable pub lines_of : List Row → List ℕ
lines_of [] = []
lines_of (r ∷ l) = line_of r ++ lines_of l

-- w is the lines of k rows from place n of the listing on
abbrev pub LinesFrom : Shape → List ℕ → ℕ → ℕ → List ℕ → Type 0
LinesFrom S s n k w = w ≡ lines_of (take k (drop n (listing S fnv (rows_held S s))))

-- the rows in k slots of a page from slot i on, as lines
unfoldable pub slot_lines : List ℕ → ℕ → ℕ → List ℕ
slot_lines P i zero = []
slot_lines P i (suc k) = slot_lines P i k ++ line_of (as_row (row_at P (i + k)))

-- slot i of a bucket page, and a buffer for lines
pub record Fillable (P : List ℕ) (i : ℕ) (out : List ℕ) : Type 0 where
  pub rules : BucketPage P
  pub slot : i < count P
  pub room : 4096 ≤ length out

-- the buffer p is q then, which begins with the lines of the rows from slot i on, of one at least
pub record Filling (P : List ℕ) (i : ℕ) (p q : List ℕ) (f : Lined) : Type 0 where
  pub some : i < f.slot
  pub within : f.slot ≤ count P
  pub room : f.len ≤ length q
  pub lines : take f.len q ≡ slot_lines P i (f.slot - i)
  pub long : length q ≡ length p

-- the rows from place n of the listing on stand from slot i of the page p on, and there is a buffer for their lines
pub record RunFrom (S : Shape) (s : List ℕ) (n p i : ℕ) (out : List ℕ) : Type 0 where
  pub here : OnPage S s p i
  pub along : Along S s n p i
  pub room : 4096 ≤ length out

-- the slot behind a run from slot i on, or none; the buffer is as long as it was
pub record RunTo (P : List ℕ) (i : ℕ) (p q : List ℕ) (r : Option ℕ) : Type 0 where
  pub some : IfSome r (λ k. i < k)
  pub within : IfSome r (λ k. k ≤ count P)
  pub long : length q ≡ length p
