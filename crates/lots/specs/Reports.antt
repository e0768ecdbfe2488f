-- What a line report is given to tell. Its sheet is the rows of some file's lines, laid out in fl as numbers. Assumes nothing.
use Rattle.std.specs.Prelude.{◌≡◌, ℕ, ◌+◌, ◌*◌, ◌<◌, ◌≤◌, List, length, replicate, None}
use Rattle.commands.specs.declared.SheetLine.{SheetLine}
use Rattle.ground.specs.Ladder.{Answers}
use Rattle.hash.specs.Fnv.{fnv}
use Rattle.partition.specs.declared.Shape.{Shape}
use Rattle.partition.specs.Listing.{listing}
use Rattle.partition.specs.Sizes.{shape_of}
use Rattle.report.specs.declared.NamedRow.{NamedRow}
use Rattle.report.specs.declared.Sums.{Sums}
use Rattle.report.specs.Named.{Markable, TellsSheetRow}
use Rattle.report.specs.Numbers.{ranks_of, raised_of, spread_from, SumsOf}
use Rattle.report.specs.Report.{limit, sheet_row, Reported, other, report_table}
use Rattle.sheets.specs.declared.Sheet.{Sheet}
use Rattle.sheets.specs.Files.{LinesSay, sheet_rows, other_line, BadLine}
use Rattle.sheets.specs.Laying.{blank_sheet, BytesRead, LinesRead, SheetRoom}
use Rattle.store.specs.Pages.{rows_held}
use Rattle.store.specs.Tables.{refused}
use Rattle.text_lines.specs.Ends.{input_lines}

-- ---- the file

-- some bytes are read so far, with room for n lines more
pub record FileBegun (z : Sheet) (line fl : List ℕ) (n : ℕ) : Type 0 where
  pub room : SheetRoom z line fl n
  pub bytes : List ℕ
  pub read : BytesRead bytes z line fl

-- one piece more of them
pub record PieceRead (z z' : Sheet) (line' fl' : List ℕ) : Type 0 where
  pub fill : z'.fill ≤ 4096
  pub number : z'.number ≤ z.number + 4096
  pub bytes : List ℕ
  pub read : BytesRead bytes z' line' fl'

-- some file is read to its end
pub record FileRead (z : Sheet) (fl : List ℕ) : Type 0 where
  pub file : List ℕ
  pub read : LinesRead (input_lines file) z fl

-- no line of it is of another form
pub record FileFormed (z : Sheet) (fl : List ℕ) : Type 0 where
  pub room : length fl ≡ 2 * limit
  pub file : FileRead z fl
  pub formed : z.wrong ≡ None

-- ---- what is told of it

-- the rows of a file's lines are laid out
pub record FileLaid (fl : List ℕ) : Type 0 where
  pub file : List ℕ
  pub said : List SheetLine
  pub says : LinesSay (input_lines file) said
  pub laid : fl ≡ spread_from 0 (sheet_rows said) blank_sheet

-- its first line of another form is line l
pub record OtherForm (fl : List ℕ) (l : ℕ) : Type 0 where
  pub sheet : FileLaid fl
  pub first : l ≡ other_line 1 sheet.said
  pub some : 1 ≤ l

-- it has no such line, and n rows
pub record FileRows (fl : List ℕ) (n : ℕ) : Type 0 where
  pub sheet : FileLaid fl
  pub formed : other_line 1 sheet.said ≡ 0
  pub rows : n ≡ length (sheet_rows sheet.said)

-- the report's answer on them
pub record Reports (s fl : List ℕ) (n : ℕ) (x : Reported) : Type 0 where
  pub over : FileRows fl n
  pub answers : Answers (report_table (shape_of s) fnv s (sheet_rows over.sheet.said)) x

-- refusal 10: line l has the first row that breaks a rule
pub record RowRefused (s fl : List ℕ) (l : ℕ) : Type 0 where
  pub sheet : FileLaid fl
  pub formed : other_line 1 sheet.said ≡ 0
  pub bad : BadLine sheet.said l
  pub some : 1 ≤ l
  pub answers : Answers (report_table (shape_of s) fnv s (sheet_rows sheet.said)) (other (refused 10))

-- the sums over the store's listing, which go with a mark for each row
abbrev pub ListedSums : Shape → List ℕ → List ℕ → ℕ → Sums → Type 0
ListedSums S s fl n = SumsOf (ranks_of fl n) (raised_of fl n) (listing S fnv (rows_held S s)) (replicate n 0)

-- rows that can be marked, and were summed
pub record Summable (S : Shape) (s fl : List ℕ) (n : ℕ) : Type 0 where
  pub over : FileRows fl n
  pub markable : Markable S s fl n
  pub sums : Sums
  pub summed : ListedSums S s fl n sums

-- cs are their marks
pub record MarkedRows (S : Shape) (s fl : List ℕ) (n : ℕ) (cs : List ℕ) : Type 0 where
  pub over : Summable S s fl n
  pub long : length cs ≡ n
  pub are : cs ≡ over.summed.marks

-- row i of the file, as the listing names it
pub record RowGiven (S : Shape) (s fl : List ℕ) (n i : ℕ) (r : NamedRow) : Type 0 where
  pub over : FileRows fl n
  pub below : i < n
  pub tells : TellsSheetRow (listing S fnv (rows_held S s)) (sheet_row (sheet_rows over.sheet.said) i) r
