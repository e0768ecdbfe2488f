-- `commands::fault_line` meets its contract. Assumes nothing.
use native.Mathlib.Omega.{arith}
use Rattle.commands.proofs.Adding.{ended}
use borrow.Author.Rules.{rules}
use Rattle.commands.proofs.answers.fault_line.Statement.{statement}
use Rattle.commands.proofs.answers.fault_line.Tie as tie

fault-text-requires : tie.Need-fault_text-n-requires
fault-text-requires c κs = search rules

add-requires : tie.Need-add-requires
add-requires c κs = omega (arith, c.fault_text-n.ensures.1, c.fault_text-n.ensures.0.long)

same_length : tie.Need-shape_of-out
same_length c = search rules

returns : tie.Need-returns
returns c =
    let e = c in
    let x = e in
    ended x.fault_text-n.ensures.0 e.add.ensures (omega (arith, e.add.ensures.next, e.add.ensures.long, x.fault_text-n.ensures.1, x.fault_text-n.ensures.0.long))

pub fault_line_spec : {M : Type 1} → statement M
fault_line_spec = tie.close (tie.spec fault-text-requires add-requires same_length returns)
