-- A sheet that is read from its file byte by byte, as far as it is laid out. Assumes nothing.
use Rattle.std.specs.Prelude.{ℕ, suc, ◌+◌, ◌*◌, ◌≤◌, ◌<◌, ◌^◌, ◌≡◌, Bool, true, false, List, [], ◌∷◌, ◌++◌, length, get_or, take, replicate, Option, Some, None, IsSome}
use Rattle.commands.specs.declared.SheetLine.{SheetLine}
use Rattle.commands.specs.declared.SheetLine.TheVariants.{Passed, Amount, Other}
use Rattle.commands.specs.SheetLines.{FitsRow, LineSays}
use Rattle.report.specs.declared.SheetRow.{SheetRow}
use Rattle.report.specs.Numbers.{outside, rank, spread_from}
use Rattle.report.specs.Report.{limit, place_in}
use Rattle.text_lines.specs.Ends.{ended, unended}
use Rattle.sheets.specs.declared.Sheet.{Sheet}
use Rattle.sheets.specs.Files.{LinesSay, sheet_rows, other_line, BadLine}

-- no row laid out yet
unfoldable pub blank_sheet : List ℕ
blank_sheet = replicate (2 * limit) outside

-- one more than the rank of the last row, from k on
abbrev pub low_after : ℕ → List SheetRow → ℕ
low_after k [] = k
low_after k (r ∷ rs) = low_after (suc (rank (place_in r))) rs

-- row i, as it is laid out, keeps the rules after rows whose ranks are below low
pub record NumbersKeep (fl : List ℕ) (i low : ℕ) : Type 0 where
  pub most : i < limit
  pub amount : get_or {A = ℕ} fl (limit + i) 0 ≤ 2000000000000
  pub place : get_or {A = ℕ} fl i 0 < outside
  pub after : low ≤ get_or {A = ℕ} fl i 0

-- r is one more than its rank, or nothing where it does not
pub record LowSays (fl : List ℕ) (i low : ℕ) (r : Option ℕ) : Type 0 where
  pub keeps : NumbersKeep fl i low → r ≡ Some (get_or {A = ℕ} fl i 0 + 1)
  pub kept : IsSome r → NumbersKeep fl i low

-- the first line of another form, if there is one
abbrev pub WrongAt : List SheetLine → Option ℕ → Type 0
WrongAt xs None = other_line 1 xs ≡ 0
WrongAt xs (Some l) = (l ≡ other_line 1 xs) × (1 ≤ l)

-- the line of the first row that breaks a rule, if one does
abbrev pub BadAt : List SheetLine → Option ℕ → Type 0
BadAt xs None = BadLine xs 0
BadAt xs (Some l) = BadLine xs l × (1 ≤ l)

-- lines that say xs are laid out in fl; of rows that are too many only the first is counted
pub record LaidOut (xs : List SheetLine) (z : Sheet) (fl : List ℕ) : Type 0 where
  pub wrong : WrongAt xs z.wrong
  pub laid : fl ≡ spread_from 0 (sheet_rows xs) blank_sheet
  pub few : length (sheet_rows xs) ≤ limit → z.rows ≡ length (sheet_rows xs)
  pub many : limit < length (sheet_rows xs) → z.rows ≡ limit + 1
  pub bad : BadAt xs z.bad
  pub low : z.bad ≡ None → z.low ≡ low_after 0 (sheet_rows xs)

-- a line that says x, with the number l, is laid out behind them
abbrev pub LaidBehind : SheetLine → ℕ → Sheet → List ℕ → Sheet → List ℕ → Type 0
LaidBehind x l z fl z' fl' = (xs : List SheetLine) → l ≡ length xs + 1 → LaidOut xs z fl → LaidOut (xs ++ (x ∷ [])) z' fl'

-- a row's numbers fit their fields
abbrev pub FitsFields : SheetLine → Type 0
FitsFields Passed = Unit {0}
FitsFields (Amount p z) = FitsRow p z
FitsFields Other = Unit {0}

-- the lines ls are read
pub record LinesRead (ls : List (List ℕ)) (z : Sheet) (fl : List ℕ) : Type 0 where
  pub said : List SheetLine
  pub says : LinesSay ls said
  pub number : z.number ≡ length said
  pub laid : LaidOut said z fl

-- the line l is held, or there was no room for it
pub record LineHeld (over : Bool) (held l : List ℕ) : Type 0 where
  pub is : over ≡ false → held ≡ l
  pub long : over ≡ true → 4096 < length l

-- what is held says x
abbrev pub HeldSays : Bool → List ℕ → SheetLine → Type 0
HeldSays false held x = LineSays held x
HeldSays true held x = x ≡ Other

-- a line is laid out behind the lines that were read
pub record LineTaken (z : Sheet) (held fl : List ℕ) (z' : Sheet) (fl' : List ℕ) : Type 0 where
  pub number : z'.number ≡ z.number + 1
  pub fill : z'.fill ≡ 0
  pub over : z'.over ≡ false
  pub read : (ls : List (List ℕ)) (l : List ℕ) → LineHeld z.over held l → LinesRead ls z fl → LinesRead (ls ++ (l ∷ [])) z' fl'

-- room for a line and its number
pub record LineRoom (z : Sheet) (held fl : List ℕ) : Type 0 where
  pub flat : length fl ≡ 2 * limit
  pub short : length held ≤ 4096
  pub number : z.number + 1 < 2 ^ 64

-- the bytes bs are read: their lines, and what is behind the last line feed is held
pub record BytesRead (bs : List ℕ) (z : Sheet) (line fl : List ℕ) : Type 0 where
  pub lines : LinesRead (ended bs) z fl
  pub held : LineHeld z.over (take z.fill line) (unended bs)

-- room for a line and for the numbers of n lines more
pub record SheetRoom (z : Sheet) (line fl : List ℕ) (n : ℕ) : Type 0 where
  pub flat : length fl ≡ 2 * limit
  pub long : length line ≡ 4096
  pub fill : z.fill ≤ 4096
  pub number : z.number + n < 2 ^ 64

-- the bytes cs are read behind any that were
pub record BytesTaken (cs : List ℕ) (z : Sheet) (line fl : List ℕ) (z' : Sheet) (line' fl' : List ℕ) : Type 0 where
  pub fill : z'.fill ≤ 4096
  pub number : z'.number ≤ z.number + length cs
  pub read : (bs : List ℕ) → BytesRead bs z line fl → BytesRead (bs ++ cs) z' line' fl'

-- no byte is read
pub record NoneRead (z : Sheet) : Type 0 where
  pub fill : z.fill ≡ 0
  pub number : z.number ≡ 0
  pub read : (line : List ℕ) → BytesRead [] z line blank_sheet
