-- `commands::answer_line` meets its contract. Assumes nothing.
use native.Mathlib.Omega.{arith}
use borrow.Author.Rules.{rules}
use Rattle.commands.proofs.Adding.{ended}
use Rattle.commands.proofs.answers.answer_line.Statement.{statement}
use Rattle.commands.proofs.answers.answer_line.Tie as tie

answer-text-requires : tie.Need-answer_text-n-requires
answer-text-requires c κs = search rules

add-requires : tie.Need-add-requires
add-requires c κs = search rules

same_length : tie.Need-shape_of-out
same_length c = search rules

returns : tie.Need-returns
returns c =
    let e = c in
    let x = e in
    ended x.answer_text-n.ensures.0 e.add.ensures (omega (arith, e.add.ensures.next, e.add.ensures.long, x.answer_text-n.ensures.1, x.answer_text-n.ensures.0.long))

pub answer_line_spec : {M : Type 1} → statement M
answer_line_spec = tie.close (tie.spec answer-text-requires add-requires same_length returns)
