-- What a report is given to tell, from its answer, the marks and the file that was read. Assumes nothing.
use Rattle.std.specs.Prelude.{Option, Some, None, IsSome, Result, Ok, Err}
use Rattle.std.proofs.Common.{◌≡◌, ℕ, ◌≤◌, List, refl, [], map, length, replicate, sym, ap, ◌∙◌, subst, inl, inr, arith}
use lib.ListN.{length-replicate}
use Rattle.ground.specs.Ladder.{Answers}
use Rattle.ground.proofs.Tests.{none_some}
use Rattle.hash.specs.Fnv.{fnv}
use Rattle.page.specs.declared.Place.{Place}
use Rattle.partition.specs.declared.Shape.{Shape}
use Rattle.partition.specs.Listing.{listing}
use Rattle.partition.specs.Partition.{Row}
use Rattle.partition.specs.Sizes.{shape_of}
use Rattle.report.specs.declared.Counted.{Counted}
use Rattle.report.specs.declared.Sums.{Sums}
use Rattle.report.specs.Named.{Marks}
use Rattle.report.specs.Numbers.{ranks_of, raised_of, rank_on, tallied, Ends, SumsOf, numbers_table}
use Rattle.report.specs.Report.{Reported, other, missing, summed, report_table}
use Rattle.sheets.specs.declared.Sheet.{Sheet}
use Rattle.sheets.specs.Files.{sheet_rows, other_line}
use Rattle.sheets.specs.Laying.{blank_sheet, WrongAt, BadAt, BytesRead, NoneRead}
use Rattle.sheets.proofs.Answered.{IsTold, answered, counted_all, ten_named}
use Rattle.store.specs.Pages.{rows_held}
use Rattle.store.specs.Tables.{refused}
use Rattle.store.proofs.Accepted.Reading.{row_none}
use Rattle.lots.specs.declared.Outcome.{Outcome}
use Rattle.lots.specs.Obeys.{Untouched, ReportTold, ReportAsked}
use Rattle.lots.specs.Reports.{FileFormed, FileLaid, ListedSums, Reports, RowRefused}
use Rattle.lots.proofs.Leaving.{passes_untouched, numbers_untouched}

abbrev IsSum : Reported → Type 0
IsSum (other o) = ⊥
IsSum (missing p) = ⊥
IsSum (summed x) = Unit {0}

no_sum : {r : Reported} (x : Sums) → summed x ≡ r → IsSum r
no_sum x e = subst IsSum e tt

-- sums that are answered are those of the listing
pub sums_of : (S : Shape) (s fl : List ℕ) (n : ℕ) (x : Sums) → Answers (numbers_table S fnv s fl n) (summed x) → ListedSums S s fl n x
unfolding numbers_table
sums_of S s fl n x (inl (u, (b, q))) = absurd (no_sum x q)
sums_of S s fl n x (inr (n1, inl (u, (b, q)))) = absurd (no_sum x q)
sums_of S s fl n x (inr (n1, inr (n10, (good, inl a)))) = absurd (no_sum x a.1.1)
sums_of S s fl n x (inr (n1, inr (n10, (good, inr (n2, (acc, t)))))) = t

-- a tally over what was summed is whole, with the same marks
ended : (ps ls : List ℕ) (rs : List Row) (cs cs' : List ℕ) (x : Sums) (t : SumsOf ps ls rs cs x) (r : Result Counted Place) → Ends ps ls rs cs r cs' → cs' ≡ t.marks
ended ps ls rs cs cs' x t (Err p) e =
    let k : (tallied ps ls (map rank_on rs) 0 0 cs).0 ≡ length rs = ap (λ v. v.0) (sym t.all) in
    absurd (none_some (row_none rs (tallied ps ls (map rank_on rs) 0 0 cs).0 (omega (arith, k))) e.there)
ended ps ls rs cs cs' x t (Ok c) e = ap (λ v. v.1.1) (e.all ∙ sym t.all)

pub marked_as : (S : Shape) (s fl : List ℕ) (n : ℕ) (x : Sums) (t : ListedSums S s fl n x) (cs cs' : List ℕ) (r : Result Counted Place) → cs ≡ replicate n 0 → Marks S s fl cs r cs' → cs' ≡ t.marks
marked_as S s fl n x t cs cs' r e m =
    let l : length cs ≡ n = ap length e ∙ length-replicate {A = ℕ} n 0 in
    let u : Ends (ranks_of fl n) (raised_of fl n) (listing S fnv (rows_held S s)) cs r cs' = subst (λ k. Ends (ranks_of fl k) (raised_of fl k) (listing S fnv (rows_held S s)) cs r cs') l m in
    ended (ranks_of fl n) (raised_of fl n) (listing S fnv (rows_held S s)) (replicate n 0) cs' x t r (subst (λ v. Ends (ranks_of fl n) (raised_of fl n) (listing S fnv (rows_held S s)) v r cs') e u)

-- ---- the rows of a file

pub none_begun : {z : Sheet} {line fl : List ℕ} → NoneRead z → fl ≡ blank_sheet → BytesRead [] z line fl
none_begun {z} {line} {fl} n e = subst (BytesRead [] z line) (sym e) (n.read line)

told_untouched : (n : ℕ) (r : Reported) (o : Outcome) → ReportTold n r o → Untouched o
told_untouched n (summed x) o t = numbers_untouched n o t
told_untouched n (missing p) o t = passes_untouched o t
told_untouched n (other a) o t = passes_untouched o t

module _ (z : Sheet) (fl : List ℕ) (w : FileFormed z fl) where
  abbrev file_laid : FileLaid fl
  file_laid = let r = w.file.read in record { file = w.file.file; said = r.said; says = r.says; laid = r.laid.laid }

  formed : other_line 1 w.file.read.said ≡ 0
  formed = subst (WrongAt w.file.read.said) w.formed w.file.read.laid.wrong

  module _ (s : List ℕ) where
    over_rows : (r : Reported) → Answers (numbers_table (shape_of s) fnv s fl z.rows) r → Answers (report_table (shape_of s) fnv s (sheet_rows w.file.read.said)) r
    over_rows = answered (shape_of s) fnv s w.file.read.said z fl w.file.read.laid

    -- an answer that is told is that over the file's rows
    pub reports : (r : Reported) → IsTold r → Answers (numbers_table (shape_of s) fnv s fl z.rows) r → Reports s fl z.rows r
    reports r t a = record { over = record { sheet = file_laid; formed = formed; rows = counted_all (shape_of s) fnv s w.file.read.said z fl w.file.read.laid r t a }; answers = over_rows r a }

    -- refusal 10 has a line to name, that of the first row that breaks a rule
    named : (b : Option ℕ) → BadAt w.file.read.said b → Answers (report_table (shape_of s) fnv s (sheet_rows w.file.read.said)) (other (refused 10)) → IsSome b
    named None b a = absurd (let l : 1 ≤ 0 = ten_named (shape_of s) fnv s w.file.read.said 0 b a in omega (arith, l))
    named (Some l) b a = refl

    pub row_named : Answers (numbers_table (shape_of s) fnv s fl z.rows) (other (refused 10)) → IsSome z.bad
    row_named a = named z.bad w.file.read.laid.bad (over_rows (other (refused 10)) a)

    pub row_refused_at : (l : ℕ) → z.bad ≡ Some l → Answers (numbers_table (shape_of s) fnv s fl z.rows) (other (refused 10)) → RowRefused s fl l
    row_refused_at l e a =
        let b : BadAt w.file.read.said (Some l) = subst (BadAt w.file.read.said) e w.file.read.laid.bad in
        record { sheet = file_laid; formed = formed; bad = b.0; some = b.1; answers = over_rows (other (refused 10)) a }

    row_at : (b : Option ℕ) → z.bad ≡ b → BadAt w.file.read.said b → Answers (report_table (shape_of s) fnv s (sheet_rows w.file.read.said)) (other (refused 10)) → (l : ℕ) × (z.bad ≡ Some l)
    row_at None e b a = absurd (let l : 1 ≤ 0 = ten_named (shape_of s) fnv s w.file.read.said 0 b a in omega (arith, l))
    row_at (Some l) e b a = (l, e)

    pub row_refused : Answers (numbers_table (shape_of s) fnv s fl z.rows) (other (refused 10)) → (l : ℕ) × (z.bad ≡ Some l) × RowRefused s fl l
    row_refused a =
        let r = row_at z.bad refl w.file.read.laid.bad (over_rows (other (refused 10)) a) in
        (r.0, r.1, row_refused_at r.0 r.1 a)

    -- a report over the file's rows
    pub file_reported : (r : Reported) (o : Outcome) → Answers (numbers_table (shape_of s) fnv s fl z.rows) r → ReportTold (length (sheet_rows w.file.read.said)) r o → ReportAsked s o
    file_reported r o a t = record {
      reads = told_untouched (length (sheet_rows w.file.read.said)) r o t;
      asked = inr (record { file = w.file.file; said = w.file.read.said; says = w.file.read.says; unformed = λ l. absurd (omega (arith, l, formed)); formed = λ _. (r, (over_rows r a, t)) });
    }
