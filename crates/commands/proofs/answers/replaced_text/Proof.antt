-- `commands::replaced_text` meets its contract. Assumes nothing.
use native.Mathlib.Omega.{arith}
use borrow.Author.Rules.{rules}
use Rattle.commands.proofs.Adding.{then}
use Rattle.commands.proofs.answers.replaced_text.Statement.{statement}
use Rattle.commands.proofs.answers.replaced_text.Tie as tie

add-requires : tie.Need-add-n-requires
add-requires c κs = search rules

add-place-requires : tie.Need-add_place-requires
add-place-requires c κs = search rules

same_length : tie.Need-shape_of-out
same_length c = search rules

returns : tie.Need-returns
returns c =
    let n = c in
    let a = n in
    (then a.add-n.ensures n.add_place.ensures.0, omega (arith, a.add-n.ensures.next, n.add_place.ensures.1))

pub replaced_text_spec : {M : Type 1} → statement M
replaced_text_spec = tie.close (tie.spec add-requires add-place-requires same_length returns)
