-- `commands::not_there_line` meets its contract. Assumes nothing.
use native.Mathlib.Omega.{arith}
use borrow.Author.Rules.{rules}
use Rattle.commands.proofs.Adding.{ended, then}
use Rattle.commands.proofs.sums.not_there_line.Statement.{statement}
use Rattle.commands.proofs.sums.not_there_line.Tie as tie

add-requires : tie.Need-add-a-requires
add-requires c κs = search rules

add-place-requires : tie.Need-add_place-b-requires
add-place-requires c κs = search rules

add-because-requires : tie.Need-add_because-c-requires
add-because-requires c κs = search rules

add-requires-2 : tie.Need-add-requires
add-requires-2 c κs = search rules

same_length : tie.Need-shape_of-out
same_length c = search rules

returns : tie.Need-returns
returns c =
    let e = c in
    let b = e in
    let p = b in
    let a = p in
    ended (then a.add-a.ensures (then p.add_place-b.ensures.0 b.add_because-c.ensures.0)) e.add.ensures
    (omega (arith, e.add.ensures.next, e.add.ensures.long, b.add_because-c.ensures.1, b.add_because-c.ensures.0.long, p.add_place-b.ensures.1, p.add_place-b.ensures.0.long, a.add-a.ensures.next, a.add-a.ensures.long))

pub not_there_line_spec : {M : Type 1} → statement M
not_there_line_spec = tie.close (tie.spec add-requires add-place-requires add-because-requires add-requires-2 same_length returns)
