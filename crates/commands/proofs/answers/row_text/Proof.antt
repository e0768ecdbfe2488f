-- `commands::row_text` meets its contract. Assumes nothing.
use native.Mathlib.Omega.{arith}
use borrow.Author.Rules.{rules}
use Rattle.commands.proofs.Adding.{then}
use Rattle.commands.proofs.answers.row_text.Statement.{statement}
use Rattle.commands.proofs.answers.row_text.Tie as tie

add-code-requires : tie.Need-add_code-n-requires
add-code-requires c κs = search rules

add-requires : tie.Need-add-m-requires
add-requires c κs = search rules

add-place-requires : tie.Need-add_place-requires
add-place-requires c κs = search rules

same_length : tie.Need-shape_of-out
same_length c = search rules

returns : tie.Need-returns
returns c =
    let z = c in
    let s = z in
    let a = s in
    (then a.add_code-n.ensures.0 (then s.add-m.ensures z.add_place.ensures.0), omega (arith, a.add_code-n.ensures.1, s.add-m.ensures.next, z.add_place.ensures.1))

pub row_text_spec : {M : Type 1} → statement M
row_text_spec = tie.close (tie.spec add-code-requires add-requires add-place-requires same_length returns)
