-- `sheets::Sheet::add_line`: a line that is passed over changes nothing.
use Rattle.std.proofs.Common.{sym, subst}
use Rattle.commands.specs.declared.SheetLine.{SheetLine}
use Rattle.sheets.specs.Laying.{FitsFields, LaidBehind}
use Rattle.sheets.proofs.Added.{passed}
use Rattle.sheets.proofs.Sheet.add_line.Goals as goal

pub returns-in-Passed : goal.returns-in-Passed
returns-in-Passed c =
    let z = c.args.self.now in
    let fl = c.args.flat.now in
    subst (λ (x : SheetLine). FitsFields x × LaidBehind x c.args.l z fl z fl) (sym c.in-Passed.is) (tt, λ xs e L. passed xs z fl L)
