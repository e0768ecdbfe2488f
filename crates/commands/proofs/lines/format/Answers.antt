use Rattle.commands.proofs.Unasked.{format_alone, format_unpaged, format_unsized}
use Rattle.commands.proofs.lines.format.Goals as goal

pub returns-in_err-read_number-in-None : goal.returns-in_err-read_number-in-None
returns-in_err-read_number-in-None c = λ k. rw c.from_residual.ensures (format_alone c.args.rest.now k c.in-None.ensures c.in_err-read_number-in-None.ensures)

pub returns-in_err-read_number-in-Some : goal.returns-in_err-read_number-in-Some
returns-in_err-read_number-in-Some c = λ k.
    let p = c.in-Some.ensures in
    rw c.from_residual-in_err-read_number-in-Some.ensures (format_unpaged c.args.rest.now k _ _ p.line p.first c.in_err-read_number-in-Some.ensures)

pub returns-in_err-read_number-in-Some-2 : goal.returns-in_err-read_number-in-Some-2
returns-in_err-read_number-in-Some-2 c = λ k.
    let p = c.in-Some.ensures in
    rw c.from_residual-in_err-read_number-in-Some-2.ensures (format_unsized c.args.rest.now k _ _ p.line p.first c.in_err-read_number-in-Some-2.ensures)
