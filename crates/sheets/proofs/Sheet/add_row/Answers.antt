-- `sheets::Sheet::add_row`: a row is laid behind the rows before it, and the first that breaks a rule is kept.
use Rattle.std.proofs.Common.{◌≡◌, refl, ap, ◌∙◌, rules}
use mir.Facts.{to_z-of_z}
use Rattle.report.specs.declared.SheetRow.{SheetRow}
use Rattle.report.specs.Numbers.{laid}
use Rattle.sheets.specs.Files.{amount_row}
use Rattle.sheets.proofs.Added.{none_is, row_uncounted, row_behind_bad, row_breaks, row_keeps}
use Rattle.sheets.proofs.Sheet.add_row.Goals as goal

pub returns-then-i-gt-LIMIT : goal.returns-then-i-gt-LIMIT
returns-then-i-gt-LIMIT c = (search rules, λ xs e L. row_uncounted xs c.args.self.now c.args.flat.now L c.args.p c.args.c c.if-i-gt-LIMIT.true)

pub returns-then-is_some : goal.returns-then-is_some
returns-then-is_some c =
    let z = c.args.self.now in
    let fl = c.args.flat.now in
    let row : c.row_with-row.result ≡ amount_row c.args.p c.args.c = c.row_with-row.ensures.0 ∙ ap (amount_row c.args.p) (to_z-of_z c.ranges.c) in
    let f = c.lay-self.ensures.1 ∙ ap (λ (r : SheetRow). laid fl z.rows r) row in
    (search rules, λ xs e L. row_behind_bad xs z fl L c.args.p c.args.c c.if-i-gt-LIMIT.false _ _ refl c.lay-self.ensures.0 f (search rules) refl)

pub returns-in-Some : goal.returns-in-Some
returns-in-Some c =
    let z = c.args.self.now in
    let fl = c.args.flat.now in
    let row : c.row_with-row.result ≡ amount_row c.args.p c.args.c = c.row_with-row.ensures.0 ∙ ap (amount_row c.args.p) (to_z-of_z c.ranges.c) in
    let f = c.lay-self.ensures.1 ∙ ap (λ (r : SheetRow). laid fl z.rows r) row in
    let good = none_is z.bad (search rules) in
    (search rules, λ xs e L. row_keeps xs z fl L c.args.p c.args.c c.if-i-gt-LIMIT.false _ _ refl c.lay-self.ensures.0 f good c.low_after.result c.low_after.ensures c.in-Some.low c.in-Some.is refl refl)

pub returns-in-None : goal.returns-in-None
returns-in-None c =
    let z = c.args.self.now in
    let fl = c.args.flat.now in
    let row : c.row_with-row.result ≡ amount_row c.args.p c.args.c = c.row_with-row.ensures.0 ∙ ap (amount_row c.args.p) (to_z-of_z c.ranges.c) in
    let f = c.lay-self.ensures.1 ∙ ap (λ (r : SheetRow). laid fl z.rows r) row in
    let good = none_is z.bad (search rules) in
    (search rules, λ xs e L. row_breaks xs z fl L c.args.p c.args.c c.if-i-gt-LIMIT.false _ _ refl c.lay-self.ensures.0 f good c.low_after.result c.low_after.ensures c.args.l e c.in-None.is refl)
