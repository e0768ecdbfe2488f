-- `commands::add_because` meets its contract. Assumes nothing.
use native.Mathlib.Omega.{arith}
use Rattle.commands.proofs.Adding.{then}
use borrow.Author.Rules.{rules}
use Rattle.commands.proofs.answers.add_because.Statement.{statement}
use Rattle.commands.proofs.answers.add_because.Tie as tie

add-requires : tie.Need-add-a-requires
add-requires c κs = search rules

add-number-requires : tie.Need-add_number-b-requires
add-number-requires c κs = omega (arith, c.add-a.ensures.next, c.add-a.ensures.long)

add-requires-2 : tie.Need-add-c-requires
add-requires-2 c κs = omega (arith, c.add_number-b.ensures.1, c.add_number-b.ensures.0.long, c.add-a.ensures.next, c.add-a.ensures.long)

add-requires-3 : tie.Need-add-requires
add-requires-3 c κs = omega (arith, c.add-c.ensures.next, c.add-c.ensures.long, c.add_number-b.ensures.1, c.add_number-b.ensures.0.long, c.add-a.ensures.next, c.add-a.ensures.long)

same_length : tie.Need-shape_of-out
same_length c = search rules

returns : tie.Need-returns
returns c =
    let d = c in
    let e = d in
    let n = e in
    let a = n in
    (then a.add-a.ensures (then n.add_number-b.ensures.0 (then e.add-c.ensures d.add.ensures)), omega (arith, a.add-a.ensures.next, n.add_number-b.ensures.1, e.add-c.ensures.next, d.add.ensures.next))

pub add_because_spec : {M : Type 1} → statement M
add_because_spec = tie.close (tie.spec add-requires add-number-requires add-requires-2 add-requires-3 same_length returns)
