-- `commands::number_line` meets its contract. Assumes nothing.
use native.Mathlib.Omega.{arith}
use borrow.Author.Rules.{rules}
use Rattle.commands.proofs.Adding.{ended, then}
use Rattle.commands.proofs.answers.number_line.Statement.{statement}
use Rattle.commands.proofs.answers.number_line.Tie as tie

add-requires : tie.Need-add-a-requires
add-requires c κs = search rules

add-requires-2 : tie.Need-add-b-requires
add-requires-2 c κs = search rules

add-number-requires : tie.Need-add_number-c-requires
add-number-requires c κs = search rules

add-requires-3 : tie.Need-add-requires
add-requires-3 c κs = search rules

same_length : tie.Need-shape_of-out
same_length c = search rules

returns : tie.Need-returns
returns c =
    let e = c in
    let n = e in
    let s = n in
    let w = s in
    ended (then w.add-a.ensures (then s.add-b.ensures n.add_number-c.ensures.0)) e.add.ensures
    (omega (arith, e.add.ensures.next, e.add.ensures.long, n.add_number-c.ensures.1, n.add_number-c.ensures.0.long, s.add-b.ensures.next, s.add-b.ensures.long, w.add-a.ensures.next, w.add-a.ensures.long, w.requires))

pub number_line_spec : {M : Type 1} → statement M
number_line_spec = tie.close (tie.spec add-requires add-requires-2 add-number-requires add-requires-3 same_length returns)
