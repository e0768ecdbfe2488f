-- `commands::add_escaped` meets its contract. Assumes nothing.
use borrow.Author.Rules.{rules}
use Rattle.commands.proofs.Adding.{as_text, escape_is}
use Rattle.commands.proofs.answers.add_escaped.Statement.{statement}
use Rattle.commands.proofs.answers.add_escaped.Tie as tie

upper-digit-requires : tie.Need-upper_digit-requires
upper-digit-requires c κs = search rules

upper-digit-requires-2 : tie.Need-upper_digit-requires-2
upper-digit-requires-2 c κs = search rules

slice-aggregate-add : tie.Need-slice_bounds-add-end
slice-aggregate-add c = search rules

add-requires : tie.Need-add-requires
add-requires c κs = search rules

same_length : tie.Need-shape_of-out
same_length c = search rules

returns : tie.Need-returns
returns c =
    let a = c in
    let y = a in
    as_text (escape_is y.args.b _ _ y.upper_digit.ensures y.upper_digit-2.ensures) a.add.ensures

pub add_escaped_spec : {M : Type 1} → statement M
add_escaped_spec = tie.close (tie.spec upper-digit-requires upper-digit-requires-2 slice-aggregate-add add-requires same_length returns)
