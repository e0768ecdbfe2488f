-- `commands::bad_row_line` meets its contract. Assumes nothing.
use native.Mathlib.Omega.{arith}
use borrow.Author.Rules.{rules}
use Rattle.commands.proofs.Adding.{ended, then}
use Rattle.commands.proofs.sums.bad_row_line.Statement.{statement}
use Rattle.commands.proofs.sums.bad_row_line.Tie as tie

add-requires : tie.Need-add-a-requires
add-requires c κs = search rules

add-because-requires : tie.Need-add_because-b-requires
add-because-requires c κs = search rules

add-requires-2 : tie.Need-add-requires
add-requires-2 c κs = search rules

same_length : tie.Need-shape_of-out
same_length c = search rules

returns : tie.Need-returns
returns c =
    let e = c in
    let b = e in
    let a = b in
    ended (then a.add-a.ensures b.add_because-b.ensures.0) e.add.ensures
    (omega (arith, e.add.ensures.next, e.add.ensures.long, b.add_because-b.ensures.1, b.add_because-b.ensures.0.long, a.add-a.ensures.next, a.add-a.ensures.long))

pub bad_row_line_spec : {M : Type 1} → statement M
bad_row_line_spec = tie.close (tie.spec add-requires add-because-requires add-requires-2 same_length returns)
