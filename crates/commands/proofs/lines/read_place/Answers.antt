use Rattle.commands.specs.Lines.{Parted}
use Rattle.commands.proofs.Unasked.{one_word, two_words, no_page, no_slot, no_volume}
use Rattle.commands.proofs.lines.read_place.Goals as goal

pub returns-in_err-page : goal.returns-in_err-page
returns-in_err-page c = rw c.from_residual.ensures (one_word c.args.w.now c.in_err-page.ensures)

pub returns-in_err-slot : goal.returns-in_err-slot
returns-in_err-slot c =
    let p : Parted c.args.w.now c.in_ok-page.page.now c.in_ok-page.rest.now = c.in_ok-page.ensures in
    rw c.from_residual-in_err-slot.ensures (two_words _ _ _ p.line p.first c.in_err-slot.ensures)

pub returns-in_err-p : goal.returns-in_err-p
returns-in_err-p c = rw c.from_residual-in_err-p.ensures (no_page _ _ _ _ _ c.in_ok-page.ensures c.in_ok-slot.ensures c.in_err-p.ensures)

pub returns-in_err-s : goal.returns-in_err-s
returns-in_err-s c = rw c.from_residual-in_err-s.ensures (no_slot _ _ _ _ _ c.in_ok-page.ensures c.in_ok-slot.ensures c.in_err-s.ensures)

pub returns-in_err-v : goal.returns-in_err-v
returns-in_err-v c = rw c.from_residual-in_err-v.ensures (no_volume _ _ _ _ _ c.in_ok-page.ensures c.in_ok-slot.ensures c.in_err-v.ensures)
