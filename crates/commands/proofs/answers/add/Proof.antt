-- `commands::add` meets its contract. Assumes nothing.
use borrow.Author.Rules.{rules}
use Rattle.commands.proofs.Adding.{added}
use Rattle.commands.proofs.answers.add.Statement.{statement}
use Rattle.commands.proofs.answers.add.Tie as tie

copy-at-requires : tie.Need-copy_at-requires
copy-at-requires c κs = search rules

add-result : tie.Need-overflow_add-result
add-result c = search rules

same_length : tie.Need-shape_of-out
same_length c = search rules

returns : tie.Need-returns
returns c =
    let s = c in
    added _ _ _ _ s.requires c.copy_at.ensures

pub add_spec : {M : Type 1} → statement M
add_spec = tie.close (tie.spec copy-at-requires add-result same_length returns)
