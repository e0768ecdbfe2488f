-- `commands::sums::begin` meets its contract. Assumes nothing.
use Rattle.commands.proofs.Adding.{then}
use native.Mathlib.Omega.{arith}
use borrow.Author.Rules.{rules}
use Rattle.commands.proofs.sums.begin.Statement.{statement}
use Rattle.commands.proofs.sums.begin.Tie as tie

add-requires : tie.Need-add-a-requires
add-requires c κs = search rules

add-requires-2 : tie.Need-add-requires
add-requires-2 c κs = search rules

same_length : tie.Need-shape_of-out
same_length c = search rules

returns : tie.Need-returns
returns c =
    let s = c in
    let w = s in
    (then w.add-a.ensures s.add.ensures, omega (arith, s.add.ensures.next, w.add-a.ensures.next))

pub begin_spec : {M : Type 1} → statement M
begin_spec = tie.close (tie.spec add-requires add-requires-2 same_length returns)
