use Rattle.std.specs.Prelude.{Result, Err}
use Rattle.std.proofs.Common.{◌≡◌, length, sym, ap, ◌∙◌, subst, rules}
use Rattle.ground.specs.Ladder.{Answers}
use Rattle.hash.specs.Fnv.{fnv}
use Rattle.partition.specs.Sizes.{shape_of}
use Rattle.partition.proofs.Sizes.{sized_of}
use Rattle.report.specs.declared.ReportRefusal.{ReportRefusal}
use Rattle.report.specs.declared.Sums.{Sums}
use Rattle.report.specs.Numbers.{numbers_table}
use Rattle.report.specs.Report.{reported, missing, summed}
use Rattle.report.proofs.Told.{summed_over}
use Rattle.sheets.specs.Files.{sheet_rows}
use Rattle.sheets.proofs.Answered.{counted_all}
use Rattle.lots.specs.declared.Outcome.TheVariants.{Listed}
use Rattle.lots.specs.Obeys.{ReportTold}
use Rattle.lots.proofs.Reporting.{sums_of, reports, row_named, row_refused_at, file_reported}
use Rattle.lots.proofs.bid.tell.Goals as goal

pub unwrap-requires : goal.unwrap-requires
unwrap-requires g c =
    row_named c.args.z c.args.flat.now c.requires c.args.s.now
    (subst (λ (r : Result Sums ReportRefusal). Answers (numbers_table (shape_of c.args.s.now) fnv c.args.s.now c.args.flat.now c.args.z.rows) (reported r)) (c.in-Err-BadSheet.is ∙ ap Err c.in-Err-BadSheet.field-0-is) c.judge.ensures)

pub tell_bad_row-requires : goal.tell_bad_row-requires
tell_bad_row-requires g c =
    row_refused_at c.args.z c.args.flat.now c.requires c.args.s.now c.unwrap.result (search rules)
    (subst (λ (r : Result Sums ReportRefusal). Answers (numbers_table (shape_of c.args.s.now) fnv c.args.s.now c.args.flat.now c.args.z.rows) (reported r)) (c.in-Err-BadSheet.is ∙ ap Err c.in-Err-BadSheet.field-0-is) c.judge.ensures)

pub tell_not_there-requires : goal.tell_not_there-requires
tell_not_there-requires g c =
    reports c.args.z c.args.flat.now c.requires c.args.s.now (missing c.in-Err-NotInSheet.p) tt
    (subst (λ (r : Result Sums ReportRefusal). Answers (numbers_table (shape_of c.args.s.now) fnv c.args.s.now c.args.flat.now c.args.z.rows) (reported r)) (c.in-Err-NotInSheet.is ∙ ap Err c.in-Err-NotInSheet.field-0-is) c.judge.ensures)

pub tell_named-requires : goal.tell_named-requires
tell_named-requires g c =
    let x = c.in-Ok.x in
    let S = shape_of c.args.s.now in
    let a : Answers (numbers_table S fnv c.args.s.now c.args.flat.now c.args.z.rows) (summed x) = subst (λ (r : Result Sums ReportRefusal). Answers (numbers_table S fnv c.args.s.now c.args.flat.now c.args.z.rows) (reported r)) c.in-Ok.is c.judge.ensures in
    let o = summed_over S fnv c.args.s.now c.args.flat.now c.args.z.rows x c.requires.room a in
    record {
      over = (reports c.args.z c.args.flat.now c.requires c.args.s.now (summed x) tt a).over;
      markable = record { sized = sized_of c.args.s.now; accepted = o.0; laid = o.1 };
      sums = x;
      summed = sums_of S c.args.s.now c.args.flat.now c.args.z.rows x a;
    }

pub tell_sums-requires : goal.tell_sums-requires
tell_sums-requires g c =
    let x = c.in-Ok.x in
    let S = shape_of c.args.s.now in
    let a : Answers (numbers_table S fnv c.args.s.now c.args.flat.now c.args.z.rows) (summed x) = subst (λ (r : Result Sums ReportRefusal). Answers (numbers_table S fnv c.args.s.now c.args.flat.now c.args.z.rows) (reported r)) c.in-Ok.is c.judge.ensures in
    reports c.args.z c.args.flat.now c.requires c.args.s.now (summed x) tt a

pub returns-else-not-tell_sums : goal.returns-else-not-tell_sums
returns-else-not-tell_sums g c =
    let x = c.in-Ok.x in
    let S = shape_of c.args.s.now in
    let a : Answers (numbers_table S fnv c.args.s.now c.args.flat.now c.args.z.rows) (summed x) = subst (λ (r : Result Sums ReportRefusal). Answers (numbers_table S fnv c.args.s.now c.args.flat.now c.args.z.rows) (reported r)) c.in-Ok.is c.judge.ensures in
    let n : c.args.z.rows ≡ length (sheet_rows c.requires.file.read.said) = counted_all S fnv c.args.s.now c.requires.file.read.said c.args.z c.args.flat.now c.requires.file.read.laid (summed x) tt a in
    file_reported c.args.z c.args.flat.now c.requires c.args.s.now (reported c.judge.result) (Listed c.args.z.rows) c.judge.ensures
    (subst (λ (q : Result Sums ReportRefusal). ReportTold (length (sheet_rows c.requires.file.read.said)) (reported q) (Listed c.args.z.rows)) (sym c.in-Ok.is) n)
