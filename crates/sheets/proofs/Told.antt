-- A row that is told by its mark is the file's row, as the listing names it. Assumes nothing.
use Prim.Native.Nat.{ℕ, ◌+◌, ◌*◌, ◌≤◌, ◌<◌}
use mathlib.Core.Path.{◌≡◌, sym, ap, subst, ◌∙◌}
use mathlib.Core.List.{List, map}
use native.Mathlib.Omega.{arith}
use lib.ListN.{length, get_or, replicate, length-replicate}
use Rattle.partition.specs.Partition.{Row}
use Rattle.report.specs.declared.NamedRow.{NamedRow}
use Rattle.report.specs.declared.NamedRow.TheVariants.{Hidden, Once, Doubled}
use Rattle.report.specs.declared.SheetRow.{SheetRow}
use Rattle.report.specs.declared.Sums.{Sums}
use Rattle.report.specs.Named.{LaidSheet, ranked_place, TellsMark, TellsSheetRow}
use Rattle.report.specs.Numbers.{outside, rank, raise_cents, rank_on, ranks_of, raised_of, spread_from, tallied, unmarked, unmarked_sum, Lowered, Sound, SumsOf}
use Rattle.report.specs.Report.{limit, place_in, sheet_row, GoodSheet}
use Rattle.report.proofs.Laid.{words_are, ranks_are, raised_are}
use Rattle.report.proofs.Sheets.{ranks, raised, sound_good}
use Rattle.report.proofs.Told.{row_told}
use Rattle.sheets.specs.Laying.{blank_sheet}

-- a mark tells of a row by its two numbers
told_same : (fl fl' cs : List ℕ) (i : ℕ) (r : NamedRow) → get_or {A = ℕ} fl i 0 ≡ get_or {A = ℕ} fl' i 0 → get_or {A = ℕ} fl (limit + i) 0 ≡ get_or {A = ℕ} fl' (limit + i) 0 → TellsMark fl cs i r → TellsMark fl' cs i r
told_same fl fl' cs i (Hidden p z) e f (m, (a, b)) = (m, (a ∙ ap ranked_place e, subst (λ (k : ℕ). Lowered k 1 z) f b))
told_same fl fl' cs i (Doubled p z) e f (m, (a, b)) = (m, (a ∙ ap ranked_place e, subst (λ (k : ℕ). Lowered k 1 z) f b))
told_same fl fl' cs i Once e f m = m

module _ (rs : List SheetRow) (few : length rs ≤ limit) (ls : List Row) where
  abbrev filled : ℕ → List ℕ
  filled v = spread_from 0 rs (replicate (2 * limit) v)

  abbrev fl : List ℕ
  fl = filled outside

  abbrev n : ℕ
  n = length rs

  words : (v i : ℕ) → i < n → (get_or {A = ℕ} (filled v) (0 + i) 0 ≡ rank (place_in (sheet_row rs i))) × (get_or {A = ℕ} (filled v) (limit + (0 + i)) 0 ≡ raise_cents (sheet_row rs i).cents)
  words v i l = words_are rs 0 (replicate (2 * limit) v) i (length-replicate {A = ℕ} (2 * limit) v) (omega (arith, few)) l

  -- whatever stood there before
  same_words : (i : ℕ) → i < n → (get_or {A = ℕ} fl i 0 ≡ get_or {A = ℕ} (filled 0) i 0) × (get_or {A = ℕ} fl (limit + i) 0 ≡ get_or {A = ℕ} (filled 0) (limit + i) 0)
  same_words i l =
      let e : i ≡ 0 + i = omega arith in
      let at : (v : ℕ) → get_or {A = ℕ} (filled v) i 0 ≡ get_or {A = ℕ} (filled v) (0 + i) 0 = λ v. ap (λ (k : ℕ). get_or {A = ℕ} (filled v) k 0) e in
      let up : (v : ℕ) → get_or {A = ℕ} (filled v) (limit + i) 0 ≡ get_or {A = ℕ} (filled v) (limit + (0 + i)) 0 = λ v. ap (λ (k : ℕ). get_or {A = ℕ} (filled v) (limit + k) 0) e in
      (at outside ∙ (words outside i l).0 ∙ sym (words 0 i l).0 ∙ sym (at 0), up outside ∙ (words outside i l).1 ∙ sym (words 0 i l).1 ∙ sym (up 0))

  good : Sound (ranks_of fl n) (raised_of fl n) → GoodSheet rs
  good s = sound_good rs few (subst (λ (q : List ℕ). Sound q (raised rs)) (ranks_are rs few) (subst (λ (q : List ℕ). Sound (ranks_of fl n) q) (raised_are rs few) s))

  over_rows : (x : Sums) → SumsOf (ranks_of fl n) (raised_of fl n) ls (replicate n 0) x → SumsOf (ranks rs) (raised rs) ls (replicate n 0) x
  over_rows x t = record {
    sum = t.sum;
    marks = t.marks;
    all = t.all ∙ (λ i. tallied (ranks_are rs few i) (raised_are rs few i) (map rank_on ls) 0 0 (replicate n 0));
    total = t.total;
    hidden = t.hidden;
    cents = subst (λ (q : List ℕ). Lowered (unmarked_sum q t.marks) (unmarked t.marks) x.cents) (raised_are rs few) t.cents;
    doubled = t.doubled;
  }

  told_row : (i : ℕ) → i < n → Sound (ranks_of fl n) (raised_of fl n) → (x : Sums) (t : SumsOf (ranks_of fl n) (raised_of fl n) ls (replicate n 0) x) (r : NamedRow) → TellsMark fl t.marks i r → TellsSheetRow ls (sheet_row rs i) r
  unfolding over_rows
  told_row i l s x t r m = let w = same_words i l in row_told rs (good s) ls i l x (over_rows x t) r (told_same fl (filled 0) t.marks i r w.0 w.1 m)

module _ (rs : List SheetRow) (ls : List Row) (i : ℕ) (x : Sums) (r : NamedRow) where
  abbrev Tells : List ℕ → ℕ → Type 0
  Tells fl n = i < n → LaidSheet fl n → (t : SumsOf (ranks_of fl n) (raised_of fl n) ls (replicate n 0) x) → TellsMark fl t.marks i r → TellsSheetRow ls (sheet_row rs i) r

  -- A ROW TOLD BY ITS MARK IS THAT ROW OF THE FILE
  pub file_row_told : (fl : List ℕ) (n : ℕ) → fl ≡ spread_from 0 rs blank_sheet → n ≡ length rs → Tells fl n
  unfolding blank_sheet
  file_row_told fl n e f = subst (Tells fl) (sym f) (subst (λ (ws : List ℕ). Tells ws (length rs)) (sym e) (λ l w t m. told_row rs w.most ls i l w.sheet.sound x t r m))
