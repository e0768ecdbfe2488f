use Rattle.commands.specs.Lines.{Parted}
use Rattle.commands.proofs.Unasked.{put_alone, put_nowhere, put_wrong}
use Rattle.commands.proofs.lines.put.Goals as goal

pub returns-in_err-text : goal.returns-in_err-text
returns-in_err-text c = λ w q. rw c.from_residual.ensures (put_alone w _ q c.args.rest.now c.args.code.now c.in_err-text.ensures)

pub returns-in_err-place : goal.returns-in_err-place
returns-in_err-place c = λ w q.
    let p : Parted c.args.rest.now c.in_ok-text.text.now c.in_ok-text.behind.now = c.in_ok-text.ensures in
    rw c.from_residual-in_err-place.ensures (put_nowhere w _ q _ c.args.code.now _ _ p.line p.first c.in_err-place.ensures)

pub returns-in_err-decode : goal.returns-in_err-decode
returns-in_err-decode c = λ w q.
    let p : Parted c.args.rest.now c.in_ok-text.text.now c.in_ok-text.behind.now = c.in_ok-text.ensures in
    rw c.from_residual-in_err-decode.ensures (put_wrong w _ q _ c.decode.new.out _ _ p.line p.first c.in_err-decode.ensures)
