-- The report over the numbers of a sheet that was read is the report over the rows of its file. Assumes nothing.
use Prim.Native.Nat.{ℕ, zero, suc, ◌≤◌, ◌<◌}
use mathlib.Core.Path.{◌≡◌, subst}
use mathlib.Core.List.{List}
use mathlib.Core.Logic.{inl, inr, ⊎_elim}
use native.Mathlib.Omega.{arith}
use lib.ListN.{length}
use Rattle.ground.specs.Ladder.{Answers}
use Rattle.ground.proofs.Sides.{side}
use Rattle.commands.specs.declared.SheetLine.{SheetLine}
use Rattle.partition.specs.declared.Shape.{Shape}
use Rattle.report.specs.declared.SheetRow.{SheetRow}
use Rattle.report.specs.Numbers.{numbers_table}
use Rattle.report.specs.Report.{limit, GoodSheet, Reported, other, missing, summed, report_table}
use Rattle.report.proofs.Refines.{refines}
use Rattle.store.specs.Tables.{refused}
use Rattle.sheets.specs.declared.Sheet.{Sheet}
use Rattle.sheets.specs.Files.{sheet_rows, BadLine}
use Rattle.sheets.specs.Laying.{blank_sheet, LaidOut}
use Rattle.sheets.proofs.Breaks.{keep_good}

-- an answer that is no refusal by its number
abbrev pub IsTold : Reported → Type 0
IsTold (other o) = ⊥
IsTold (missing p) = Unit {0}
IsTold (summed x) = Unit {0}

module _ (S : Shape) (h : List ℕ → ℕ) (s : List ℕ) where
  -- what is told is about so many rows at most
  told_most : (fl : List ℕ) (n : ℕ) (r : Reported) → IsTold r → Answers (numbers_table S h s fl n) r → n ≤ limit
  unfolding numbers_table
  told_most fl n r t (inl (u, (b, q))) = absurd (subst IsTold q t)
  told_most fl n r t (inr (n1, inl (u, (b, q)))) = absurd (subst IsTold q t)
  told_most fl n r t (inr (n1, inr (n10, (good, x)))) = good.0

  -- too many rows are refused, however many
  too_many : (fl : List ℕ) (n : ℕ) (rs : List SheetRow) (r : Reported) → limit < n → limit < length rs → Answers (numbers_table S h s fl n) r → Answers (report_table S h s rs) r
  unfolding numbers_table report_table
  too_many fl n rs r l m (inl a) = inl a
  too_many fl n rs r l m (inr (n1, inl (u, (b, q)))) = inr (n1, inl (u, ((λ g. omega (arith, m, g.most)), q)))
  too_many fl n rs r l m (inr (n1, inr (n10, (good, x)))) = absurd (omega (arith, l, good.0))

  module _ (xs : List SheetLine) (z : Sheet) (fl : List ℕ) (L : LaidOut xs z fl) where
    abbrev rs : List SheetRow
    rs = sheet_rows xs

    few_rows : length rs ≤ limit → (r : Reported) → Answers (numbers_table S h s fl z.rows) r → Answers (report_table S h s rs) r
    unfolding blank_sheet
    few_rows l r a = refines S h s rs r (subst (λ (ws : List ℕ). Answers (numbers_table S h s ws (length rs)) r) L.laid (subst (λ (n : ℕ). Answers (numbers_table S h s fl n) r) (L.few l) a))

    -- THE ANSWER OVER THE NUMBERS IS THE ANSWER OVER THE FILE'S ROWS
    pub answered : (r : Reported) → Answers (numbers_table S h s fl z.rows) r → Answers (report_table S h s rs) r
    answered r a = ⊎_elim (λ (l : limit < length rs). too_many fl z.rows rs r (let e = L.many l in omega (arith, e)) l a) (λ (l : length rs ≤ limit). few_rows l r a) (side limit (length rs))

    -- where it is told, every row is counted
    pub counted_all : (r : Reported) → IsTold r → Answers (numbers_table S h s fl z.rows) r → z.rows ≡ length rs
    counted_all r t a = ⊎_elim (λ (l : limit < length rs). absurd (let e = L.many l in omega (arith, e, told_most fl z.rows r t a))) (λ (l : length rs ≤ limit). L.few l) (side limit (length rs))

  -- refusal 10 is for a sheet that is not good
  ten_bad : (rs : List SheetRow) → Answers (report_table S h s rs) (other (refused 10)) → GoodSheet rs → ⊥
  unfolding report_table
  ten_bad rs (inl (u, (b, q))) g = let e : ◌≡◌ {A = ℕ} 10 1 = cc in omega (arith, e)
  ten_bad rs (inr (n1, inl (u, (b, q)))) g = b g
  ten_bad rs (inr (n1, inr (n10, (good, inl (p, (b, q)))))) g = let e : ◌≡◌ {A = ℕ} 10 2 = cc in omega (arith, e)
  ten_bad rs (inr (n1, inr (n10, (good, inr (n2, (acc, inl (p, (b, q)))))))) g = let e : ◌≡◌ {A = ℕ} 0 1 = cc in omega (arith, e)
  ten_bad rs (inr (n1, inr (n10, (good, inr (n2, (acc, inr (n3, q))))))) g = let e : ◌≡◌ {A = ℕ} 0 1 = cc in omega (arith, e)

  -- REFUSAL 10 HAS A LINE TO NAME
  pub ten_named : (xs : List SheetLine) (l : ℕ) → BadLine xs l → Answers (report_table S h s (sheet_rows xs)) (other (refused 10)) → 1 ≤ l
  ten_named xs zero b a = absurd (ten_bad (sheet_rows xs) a (keep_good (sheet_rows xs) b))
  ten_named xs (suc l) b a = omega arith
