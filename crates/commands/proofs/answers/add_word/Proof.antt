-- `commands::add_word` meets its contract. Assumes nothing.
use Rattle.commands.proofs.Adding.{as_text}
use Rattle.commands.proofs.Small.{word_bytes}
use borrow.Author.Rules.{rules}
use Rattle.commands.proofs.answers.add_word.Statement.{statement}
use Rattle.commands.proofs.answers.add_word.Tie as tie

cast-t8 : tie.Need-overflow_cast-text
cast-t8 c = search rules

cast-t10 : tie.Need-overflow_cast-text-2
cast-t10 c = search rules

cast-t12 : tie.Need-overflow_cast-text-3
cast-t12 c = search rules

cast-t15 : tie.Need-overflow_cast-text-4
cast-t15 c = search rules

slice-aggregate-add : tie.Need-slice_bounds-add-end
slice-aggregate-add c = search rules

add-requires : tie.Need-add-requires
add-requires c κs = search rules

same_length : tie.Need-shape_of-out
same_length c = search rules

returns : tie.Need-returns
returns c = let a = c in as_text (word_bytes _) a.add.ensures

pub add_word_spec : {M : Type 1} → statement M
add_word_spec = tie.close (tie.spec cast-t8 cast-t10 cast-t12 cast-t15 slice-aggregate-add add-requires same_length returns)
