-- `commands::sums::sum_line` meets its contract. Assumes nothing.
use mathlib.Core.Path.{ap}
use mir.Facts.{to_z-of_z}
use Rattle.commands.specs.Numbers.{integer}
use Rattle.commands.proofs.Adding.{word_then, as_text, ended}
use native.Mathlib.Omega.{arith}
use borrow.Author.Rules.{rules}
use Rattle.commands.proofs.sums.sum_line.Statement.{statement}
use Rattle.commands.proofs.sums.sum_line.Tie as tie

begin-requires : tie.Need-begin-a-requires
begin-requires c κs = search rules

add-signed-requires : tie.Need-add_signed-b-requires
add-signed-requires c κs = search rules

add-requires : tie.Need-add-requires
add-requires c κs = search rules

same_length : tie.Need-shape_of-out
same_length c = search rules

returns : tie.Need-returns
returns c =
    let e = c in
    let p = e in
    let b = p in
    ended (word_then b.args.word.now b.begin-a.ensures.0 (as_text (ap integer (to_z-of_z b.ranges.z)) p.add_signed-b.ensures.0)) e.add.ensures
    (omega (arith, e.add.ensures.next, e.add.ensures.long, p.add_signed-b.ensures.1, p.add_signed-b.ensures.0.long, b.begin-a.ensures.1, b.begin-a.ensures.0.long, b.requires))

pub sum_line_spec : {M : Type 1} → statement M
sum_line_spec = tie.close (tie.spec begin-requires add-signed-requires add-requires same_length returns)
