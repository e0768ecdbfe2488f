use Rattle.std.specs.Prelude.{Some}
use Rattle.std.proofs.Common.{refl, subst}
use Rattle.sheets.specs.Laying.{blank_sheet, WrongAt}
use Rattle.lots.proofs.bid.ask.Goals as goal

pub load-requires : goal.load-requires
unfolding blank_sheet
load-requires g c = refl

pub tell_no_row-requires : goal.tell_no_row-requires
tell_no_row-requires g c =
    let f = c.in-Some.ensures in
    let w : WrongAt f.read.said (Some c.in-Some-wrong.l) = subst (WrongAt f.read.said) c.in-Some-wrong.is f.read.laid.wrong in
    record { sheet = record { file = f.file; said = f.read.said; says = f.read.says; laid = f.read.laid.laid }; first = w.0; some = w.1 }
