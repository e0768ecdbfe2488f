-- `commands::add_number` meets its contract. Assumes nothing.
use native.Mathlib.Omega.{arith}
use Rattle.commands.proofs.Adding.{as_text, decimal_is}
use borrow.Author.Rules.{rules}
use Rattle.commands.proofs.answers.add_number.Statement.{statement}
use Rattle.commands.proofs.answers.add_number.Tie as tie

width-requires : tie.Need-width-k-requires
width-requires c κs = search rules

spell-requires : tie.Need-spell-requires
spell-requires c κs = omega (arith, c.width-k.ensures.1)

add-result : tie.Need-overflow_add-result
add-result c = search rules

same_length : tie.Need-shape_of-out
same_length c = search rules

returns : tie.Need-returns
returns c = (as_text (decimal_is _ _ c.width-k.ensures.0) c.spell.ensures, omega (arith, c.width-k.ensures.1))

pub add_number_spec : {M : Type 1} → statement M
add_number_spec = tie.close (tie.spec width-requires spell-requires add-result same_length returns)
