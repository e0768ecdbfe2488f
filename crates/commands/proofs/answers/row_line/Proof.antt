-- `commands::row_line` meets its contract. Assumes nothing.
use native.Mathlib.Omega.{arith}
use borrow.Author.Rules.{rules}
use Rattle.commands.proofs.Adding.{then}
use Rattle.commands.proofs.answers.row_line.Statement.{statement}
use Rattle.commands.proofs.answers.row_line.Tie as tie

row-text-requires : tie.Need-row_text-n-requires
row-text-requires c κs = search rules

add-requires : tie.Need-add-requires
add-requires c κs = search rules

same_length : tie.Need-shape_of-out
same_length c = search rules

returns : tie.Need-returns
returns c =
    let e = c in
    let x = e in
    (then x.row_text-n.ensures.0 e.add.ensures, omega (arith, e.add.ensures.next, x.row_text-n.ensures.1))

pub row_line_spec : {M : Type 1} → statement M
row_line_spec = tie.close (tie.spec row-text-requires add-requires same_length returns)
