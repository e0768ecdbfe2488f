-- What a row's mark says: no code names the row, one does, or more than one. Assumes nothing.
use Rattle.std.specs.Prelude.{◌≡◌, List, ℕ, ◌+◌, ◌*◌, ◌/◌, ◌%◌, ◌≤◌, ℤ, pos, length, get_or, Result}
use Rattle.hash.specs.Fnv.{fnv}
use Rattle.page.specs.declared.Place.{Place}
use Rattle.partition.specs.declared.Shape.{Shape}
use Rattle.partition.specs.Listing.{listing}
use Rattle.partition.specs.Partition.{Row}
use Rattle.store.specs.Accepted.{Accepted}
use Rattle.store.specs.Demands.{Sized}
use Rattle.store.specs.Pages.{rows_held}
use Rattle.report.specs.declared.Counted.{Counted}
use Rattle.report.specs.declared.NamedRow.{NamedRow}
use Rattle.report.specs.declared.NamedRow.TheVariants.{Hidden, Once, Doubled}
use Rattle.report.specs.declared.SheetRow.{SheetRow}
use Rattle.report.specs.Report.{limit, place_in, times_named}
use Rattle.report.specs.Numbers.{Ends, Lowered, SoundSheet, ranks_of, raised_of}

-- n rows stand in fl, and keep the sheet's rules
pub record LaidSheet (fl : List ℕ) (n : ℕ) : Type 0 where
  pub room : length fl ≡ 2 * limit
  pub most : n ≤ limit
  pub sheet : SoundSheet (ranks_of fl n) (raised_of fl n)

-- an accepted store beside them
pub record Markable (S : Shape) (s fl : List ℕ) (n : ℕ) : Type 0 where
  pub sized : Sized S
  pub accepted : Accepted S fnv s
  pub laid : LaidSheet fl n

-- the tally of the store's listing over the n rows, from the marks cs
abbrev pub Marks : Shape → List ℕ → List ℕ → List ℕ → Result Counted Place → List ℕ → Type 0
Marks S s fl cs r cs' = Ends (ranks_of fl (length cs)) (raised_of fl (length cs)) (listing S fnv (rows_held S s)) cs r cs'

-- the place that a rank is of
abbrev pub ranked_place : ℕ → Place
ranked_place w = record { page = pos (w / 4294967296 % 2147483648); slot = pos (w / 65536 % 32768); volume = pos (w % 32768) }

-- the place and the amount of row i of a laid-out sheet
abbrev pub AmountAt : List ℕ → ℕ → Place → ℤ → Type 0
AmountAt fl i p z = (p ≡ ranked_place (get_or fl i 0)) × Lowered (get_or fl (limit + i) 0) 1 z

-- row i as its mark tells it
abbrev pub TellsMark : List ℕ → List ℕ → ℕ → NamedRow → Type 0
TellsMark fl cs i (Hidden p z) = (get_or {A = ℕ} cs i 0 ≡ 0) × AmountAt fl i p z
TellsMark fl cs i (Doubled p z) = (2 ≤ get_or {A = ℕ} cs i 0) × AmountAt fl i p z
TellsMark fl cs i Once = get_or {A = ℕ} cs i 0 ≡ 1

-- a sheet row as it is told of a listing: hidden where no code names it, doubled where more than one does
abbrev pub TellsSheetRow : List Row → SheetRow → NamedRow → Type 0
TellsSheetRow rs x (Hidden p z) = (times_named rs x ≡ 0) × ((p ≡ place_in x) × (z ≡ x.cents))
TellsSheetRow rs x (Doubled p z) = (2 ≤ times_named rs x) × ((p ≡ place_in x) × (z ≡ x.cents))
TellsSheetRow rs x Once = times_named rs x ≡ 1
