-- A report on one file tells one thing, but for an answer that could not be written. Assumes nothing.
use Rattle.std.proofs.Common.{◌≡◌, ℕ, ◌<◌, ◌≤◌, ◌⊎◌, List, length, sym, refl, ap, ◌∙◌, subst, inl, inr, ⊎_elim, arith}
use Rattle.ground.specs.Ladder.{Answers}
use Rattle.ground.proofs.Sides.{side}
use Rattle.commands.specs.declared.SheetLine.{SheetLine}
use Rattle.hash.specs.Fnv.{fnv}
use Rattle.partition.specs.Sizes.{shape_of}
use Rattle.report.specs.declared.SheetRow.{SheetRow}
use Rattle.report.specs.Report.{Reported, other, missing, summed, report_table}
use Rattle.report.proofs.Theorems.{report_settled}
use Rattle.sheets.specs.Files.{LinesSay, sheet_rows, other_line}
use Rattle.sheets.proofs.Read.{says_one}
use Rattle.text_lines.specs.Ends.{input_lines}
use Rattle.lots.specs.declared.Outcome.{Outcome}
use Rattle.lots.specs.declared.Outcome.TheVariants.{Silent, Unknown as NotKnown, Told, Changed, Listed, Format as Formats, Stopped}
use Rattle.lots.specs.Obeys.{Passes, TellsNumber, ReportTold, FileReported}

-- the same, unless an answer could not be written
abbrev AsTold : Outcome → Outcome → Type 0
AsTold o p = (o ≡ Stopped) ⊎ ((p ≡ Stopped) ⊎ (o ≡ p))

passes_one : (o p : Outcome) → Passes o → Passes p → AsTold o p
passes_one Stopped p a b = inl refl
passes_one NotKnown Stopped a b = inr (inl refl)
passes_one NotKnown NotKnown a b = inr (inr refl)
passes_one NotKnown Silent a b = absurd b
passes_one NotKnown (Told x) a b = absurd b
passes_one NotKnown (Listed m) a b = absurd b
passes_one NotKnown (Changed x) a b = absurd b
passes_one NotKnown (Formats m size) a b = absurd b
passes_one Silent p a b = absurd a
passes_one (Told x) p a b = absurd a
passes_one (Listed m) p a b = absurd a
passes_one (Changed x) p a b = absurd a
passes_one (Formats m size) p a b = absurd a

numbers_one : (n : ℕ) (o p : Outcome) → TellsNumber n o → TellsNumber n p → AsTold o p
numbers_one n Stopped p a b = inl refl
numbers_one n (Listed m) Stopped a b = inr (inl refl)
numbers_one n (Listed m) (Listed k) a b = inr (inr (ap Listed (a ∙ sym b)))
numbers_one n (Listed m) NotKnown a b = absurd b
numbers_one n (Listed m) Silent a b = absurd b
numbers_one n (Listed m) (Told x) a b = absurd b
numbers_one n (Listed m) (Changed x) a b = absurd b
numbers_one n (Listed m) (Formats k size) a b = absurd b
numbers_one n NotKnown p a b = absurd a
numbers_one n Silent p a b = absurd a
numbers_one n (Told x) p a b = absurd a
numbers_one n (Changed x) p a b = absurd a
numbers_one n (Formats m size) p a b = absurd a

told_one : (n : ℕ) (r : Reported) (o p : Outcome) → ReportTold n r o → ReportTold n r p → AsTold o p
told_one n (summed x) o p a b = numbers_one n o p a b
told_one n (missing q) o p a b = passes_one o p a b
told_one n (other q) o p a b = passes_one o p a b

formed_one : (s : List ℕ) (rs : List SheetRow) (o p : Outcome) (x y : Reported) → Answers (report_table (shape_of s) fnv s rs) x → Answers (report_table (shape_of s) fnv s rs) y → ReportTold (length rs) x o → ReportTold (length rs) y p → AsTold o p
formed_one s rs o p x y a b t u = told_one (length rs) y o p (subst (λ (r : Reported). ReportTold (length rs) r o) (report_settled (shape_of s) fnv s rs x y a b) t) u

said_one : (s : List ℕ) (xs : List SheetLine) (o p : Outcome) → (1 ≤ other_line 1 xs → Passes o) → (1 ≤ other_line 1 xs → Passes p)
    → (other_line 1 xs ≡ 0 → (x : Reported) × (Answers (report_table (shape_of s) fnv s (sheet_rows xs)) x × ReportTold (length (sheet_rows xs)) x o))
    → (other_line 1 xs ≡ 0 → (x : Reported) × (Answers (report_table (shape_of s) fnv s (sheet_rows xs)) x × ReportTold (length (sheet_rows xs)) x p)) → AsTold o p
said_one s xs o p u v f g = ⊎_elim (λ (l : 0 < other_line 1 xs). passes_one o p (u (omega (arith, l))) (v (omega (arith, l))))
    (λ (l : other_line 1 xs ≤ 0). let e : other_line 1 xs ≡ 0 = omega (arith, l) in let x = f e in let y = g e in formed_one s (sheet_rows xs) o p x.0 y.0 x.1.0 y.1.0 x.1.1 y.1.1) (side 0 (other_line 1 xs))

-- A REPORT ON ONE FILE TELLS ONE THING
pub report_one : (s : List ℕ) (o p : Outcome) (a : FileReported s o) (b : FileReported s p) → a.file ≡ b.file → AsTold o p
report_one s o p a b e =
    let f : b.said ≡ a.said = says_one (input_lines a.file) b.said a.said (subst (λ (i : List ℕ). LinesSay (input_lines i) b.said) (sym e) b.says) a.says in
    said_one s a.said o p a.unformed (subst (λ (xs : List SheetLine). 1 ≤ other_line 1 xs → Passes p) f b.unformed) a.formed
    (subst (λ (xs : List SheetLine). other_line 1 xs ≡ 0 → (x : Reported) × (Answers (report_table (shape_of s) fnv s (sheet_rows xs)) x × ReportTold (length (sheet_rows xs)) x p)) f b.formed)
