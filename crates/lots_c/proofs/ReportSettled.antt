-- The words of a report are settled: two structs that the contract allows are equal. Assumes nothing.
use mathlib.Core.Path.{◌≡◌, sym, ap, ◌∙◌}
use mathlib.Core.List.{List}
use Prim.Native.Nat.{ℕ}
use Rattle.hash.specs.Fnv.{fnv}
use Rattle.partition.specs.Sizes.{shape_of}
use Rattle.report.specs.declared.SheetRow.{SheetRow}
use Rattle.report.specs.Report.{report_table}
use Rattle.report.proofs.Theorems.{report_settled}
use Rattle.lots_c.specs.declared.ReportAnswer.{ReportAnswer}
use Rattle.lots_c.specs.Words.{report_words, TellsReport}

pub report_words_lem : (s : List ℕ) (xs : List SheetRow) (r r' : ReportAnswer) → TellsReport (report_table (shape_of s) fnv s xs) r → TellsReport (report_table (shape_of s) fnv s xs) r' → r ≡ r'
report_words_lem s xs r r' a b = a.is ∙ ap report_words (report_settled (shape_of s) fnv s xs a.out b.out a.allowed b.allowed) ∙ sym b.is
