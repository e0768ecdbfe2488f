-- Lines behind lines: their rows, the rows' lines, the first line of another form, and the rows laid out. Assumes nothing.
use Prim.Native.Nat.{ℕ, zero, suc, ◌+◌, ◌≤◌}
use mathlib.Core.Path.{◌≡◌, refl, sym, ap, ◌∙◌}
use mathlib.Core.List.{List, [], ◌∷◌, ◌++◌}
use native.Mathlib.Omega.{arith}
use lib.ListN.{length}
use Rattle.commands.specs.declared.SheetLine.{SheetLine}
use Rattle.commands.specs.declared.SheetLine.TheVariants.{Passed, Amount, Other}
use Rattle.report.specs.declared.SheetRow.{SheetRow}
use Rattle.report.specs.Numbers.{rank, laid, spread_from}
use Rattle.report.specs.Report.{place_in, sheet_row}
use Rattle.sheets.specs.Files.{amount_row, sheet_rows, row_lines, other_line}
use Rattle.sheets.specs.Laying.{low_after}

pub rows_behind : (xs ys : List SheetLine) → sheet_rows (xs ++ ys) ≡ sheet_rows xs ++ sheet_rows ys
unfolding sheet_rows
rows_behind [] ys = refl
rows_behind (Passed ∷ xs) ys = rows_behind xs ys
rows_behind (Amount p z ∷ xs) ys = ap (λ (rs : List SheetRow). amount_row p z ∷ rs) (rows_behind xs ys)
rows_behind (Other ∷ xs) ys = rows_behind xs ys

next : (k : ℕ) (xs : List SheetLine) → suc k + length xs ≡ k + suc (length xs)
next k xs = omega arith

pub row_lines_behind : (k : ℕ) (xs ys : List SheetLine) → row_lines k (xs ++ ys) ≡ row_lines k xs ++ row_lines (k + length xs) ys
unfolding row_lines
row_lines_behind k [] ys = let e : k ≡ k + 0 = omega arith in ap (λ (n : ℕ). row_lines n ys) e
row_lines_behind k (Passed ∷ xs) ys = row_lines_behind (suc k) xs ys ∙ ap (λ (n : ℕ). row_lines (suc k) xs ++ row_lines n ys) (next k xs)
row_lines_behind k (Amount p z ∷ xs) ys = ap (λ (ns : List ℕ). k ∷ ns) (row_lines_behind (suc k) xs ys ∙ ap (λ (n : ℕ). row_lines (suc k) xs ++ row_lines n ys) (next k xs))
row_lines_behind k (Other ∷ xs) ys = row_lines_behind (suc k) xs ys ∙ ap (λ (n : ℕ). row_lines (suc k) xs ++ row_lines n ys) (next k xs)

-- as many lines as rows
pub row_lines_long : (k : ℕ) (xs : List SheetLine) → length (row_lines k xs) ≡ length (sheet_rows xs)
unfolding row_lines sheet_rows
row_lines_long k [] = refl
row_lines_long k (Passed ∷ xs) = row_lines_long (suc k) xs
row_lines_long k (Amount p z ∷ xs) = ap suc (row_lines_long (suc k) xs)
row_lines_long k (Other ∷ xs) = row_lines_long (suc k) xs

-- a first line of another form stays the first
pub other_stays : (k : ℕ) (xs ys : List SheetLine) → 1 ≤ other_line k xs → other_line k xs ≡ other_line k (xs ++ ys)
unfolding other_line
other_stays k [] ys l = absurd (omega (arith, l))
other_stays k (Passed ∷ xs) ys l = other_stays (suc k) xs ys l
other_stays k (Amount p z ∷ xs) ys l = other_stays (suc k) xs ys l
other_stays k (Other ∷ xs) ys l = refl

-- where there is none, that of the lines behind is the first
pub other_behind : (k : ℕ) (xs ys : List SheetLine) → other_line (suc k) xs ≡ 0 → other_line (suc k + length xs) ys ≡ other_line (suc k) (xs ++ ys)
unfolding other_line
other_behind k [] ys e = let f : suc k + 0 ≡ suc k = omega arith in ap (λ (n : ℕ). other_line n ys) f
other_behind k (Passed ∷ xs) ys e = ap (λ (n : ℕ). other_line n ys) (sym (next (suc k) xs)) ∙ other_behind (suc k) xs ys e
other_behind k (Amount p z ∷ xs) ys e = ap (λ (n : ℕ). other_line n ys) (sym (next (suc k) xs)) ∙ other_behind (suc k) xs ys e
other_behind k (Other ∷ xs) ys e = absurd (let f : suc k ≡ 0 = e in omega (arith, f))

-- one row more is laid out
pub spread_behind : (k : ℕ) (rs : List SheetRow) (r : SheetRow) (fl : List ℕ) → laid (spread_from k rs fl) (k + length rs) r ≡ spread_from k (rs ++ (r ∷ [])) fl
spread_behind k [] r fl = let e : k + 0 ≡ k = omega arith in ap (λ (n : ℕ). laid fl n r) e
spread_behind k (q ∷ rs) r fl = let e : k + suc (length rs) ≡ suc k + length rs = omega arith in
    ap (λ (n : ℕ). laid (spread_from (suc k) rs (laid fl k q)) n r) e ∙ spread_behind (suc k) rs r (laid fl k q)

pub low_behind : (k : ℕ) (rs : List SheetRow) (r : SheetRow) → low_after k (rs ++ (r ∷ [])) ≡ suc (rank (place_in r))
low_behind k [] r = refl
low_behind k (q ∷ rs) r = low_behind (suc (rank (place_in q))) rs r

-- that of the last row
pub low_last : (k : ℕ) (rs : List SheetRow) (j : ℕ) → j + 1 ≡ length rs → low_after k rs ≡ suc (rank (place_in (sheet_row rs j)))
low_last k [] j e = absurd (let f : j + 1 ≡ 0 = e in omega (arith, f))
low_last k (q ∷ []) zero e = refl
low_last k (q ∷ []) (suc j) e = absurd (let f : suc j + 1 ≡ 1 = e in omega (arith, f))
low_last k (q ∷ (p ∷ rs)) zero e = absurd (let f : 1 ≡ suc (suc (length rs)) = e in omega (arith, f))
low_last k (q ∷ (p ∷ rs)) (suc j) e = low_last (suc (rank (place_in q))) (p ∷ rs) j (let f : suc j + 1 ≡ suc (suc (length rs)) = e in omega (arith, f))
