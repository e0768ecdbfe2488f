-- What a sheet's file says: its lines, the rows among them, the first line of another form and the first row that breaks a rule. Assumes nothing.
use Rattle.std.specs.Prelude.{ℕ, zero, suc, ◌+◌, ◌≤◌, ◌<◌, ◌≡◌, List, [], ◌∷◌, ℤ, neg_ℤ, ◌≤ℤ◌, length, get_or}
use Rattle.commands.specs.declared.SheetLine.{SheetLine}
use Rattle.commands.specs.declared.SheetLine.TheVariants.{Passed, Amount, Other}
use Rattle.commands.specs.SheetLines.{PassedOver, RowLine, FitsRow, LineSays}
use Rattle.page.specs.declared.Place.{Place}
use Rattle.report.specs.declared.SheetRow.{SheetRow}
use Rattle.report.specs.Report.{place_in, limit, highest, sheet_row, RowPlace, Precedes}

-- ---- lines

-- what a line is: passed over, a row, or of another form, as one over 4,096 bytes is
abbrev pub LineIs : List ℕ → SheetLine → Type 0
LineIs l Passed = (length l ≤ 4096) × PassedOver l
LineIs l (Amount p z) = (length l ≤ 4096) × (RowLine p z l × FitsRow p z)
LineIs l Other = length l ≤ 4096 → LineSays l Other

-- what each of the lines is
abbrev pub LinesSay : List (List ℕ) → List SheetLine → Type 0
LinesSay [] [] = Unit {0}
LinesSay [] (x ∷ xs) = ⊥
LinesSay (l ∷ ls) [] = ⊥
LinesSay (l ∷ ls) (x ∷ xs) = LineIs l x × LinesSay ls xs

-- ---- rows

abbrev pub amount_row : Place → ℤ → SheetRow
amount_row p z = record { page = p.page; slot = p.slot; volume = p.volume; cents = z }

-- the rows among the lines
unfoldable pub sheet_rows : List SheetLine → List SheetRow
sheet_rows [] = []
sheet_rows (Passed ∷ xs) = sheet_rows xs
sheet_rows (Amount p z ∷ xs) = amount_row p z ∷ sheet_rows xs
sheet_rows (Other ∷ xs) = sheet_rows xs

-- the numbers of their lines, where the first line has the number k
unfoldable pub row_lines : ℕ → List SheetLine → List ℕ
row_lines k [] = []
row_lines k (Passed ∷ xs) = row_lines (suc k) xs
row_lines k (Amount p z ∷ xs) = k ∷ row_lines (suc k) xs
row_lines k (Other ∷ xs) = row_lines (suc k) xs

-- the number of the first line of another form, or 0
unfoldable pub other_line : ℕ → List SheetLine → ℕ
other_line k [] = 0
other_line k (Passed ∷ xs) = other_line (suc k) xs
other_line k (Amount p z ∷ xs) = other_line (suc k) xs
other_line k (Other ∷ xs) = k

-- ---- the first row that breaks a rule

-- row i is not one too many, its place has no negative part, its cents are in range, and its place is after the row's before it
pub record RowKeeps (rs : List SheetRow) (i : ℕ) : Type 0 where
  pub most : i < limit
  pub place : RowPlace (place_in (sheet_row rs i))
  pub amount : (neg_ℤ highest ≤ℤ (sheet_row rs i).cents) × ((sheet_row rs i).cents ≤ℤ highest)
  pub after : (j : ℕ) → j + 1 ≡ i → Precedes (place_in (sheet_row rs j)) (place_in (sheet_row rs i))

-- every row keeps the rules
pub record AllKeep (rs : List SheetRow) : Type 0 where
  pub keep : (i : ℕ) → i < length rs → RowKeeps rs i

-- row i is the first that does not, on line l
pub record FirstBreak (xs : List SheetLine) (i l : ℕ) : Type 0 where
  pub there : i < length (sheet_rows xs)
  pub breaks : RowKeeps (sheet_rows xs) i → ⊥
  pub before : (j : ℕ) → j < i → RowKeeps (sheet_rows xs) j
  pub on : l ≡ get_or {A = ℕ} (row_lines 1 xs) i 0

-- the line of the first row that breaks a rule, or 0 where none does
abbrev pub BadLine : List SheetLine → ℕ → Type 0
BadLine xs zero = AllKeep (sheet_rows xs)
BadLine xs (suc l) = (i : ℕ) × FirstBreak xs i (suc l)
