-- `commands::add_fault` meets its contract. Assumes nothing.
use native.Mathlib.Omega.{arith}
use Rattle.commands.proofs.Adding.{then}
use borrow.Author.Rules.{rules}
use Rattle.commands.proofs.answers.add_fault.Statement.{statement}
use Rattle.commands.proofs.answers.add_fault.Tie as tie

add-requires : tie.Need-add-n-requires
add-requires c κs = search rules

add-because-requires : tie.Need-add_because-requires
add-because-requires c κs = omega (arith, c.add-n.ensures.next, c.add-n.ensures.long)

same_length : tie.Need-shape_of-out
same_length c = search rules

returns : tie.Need-returns
returns c =
    let b = c in
    let a = b in
    (then a.add-n.ensures b.add_because.ensures.0, omega (arith, a.add-n.ensures.next, b.add_because.ensures.1))

pub add_fault_spec : {M : Type 1} → statement M
add_fault_spec = tie.close (tie.spec add-requires add-because-requires same_length returns)
