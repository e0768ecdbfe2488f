-- `commands::sums::amount_line` meets its contract. Assumes nothing.
use mathlib.Core.Path.{ap}
use mir.Facts.{to_z-of_z}
use Rattle.commands.specs.Numbers.{integer}
use Rattle.commands.proofs.Adding.{word_then, as_text, ended, then}
use native.Mathlib.Omega.{arith}
use borrow.Author.Rules.{rules}
use Rattle.commands.proofs.sums.amount_line.Statement.{statement}
use Rattle.commands.proofs.sums.amount_line.Tie as tie

begin-requires : tie.Need-begin-a-requires
begin-requires c κs = search rules

add-place-requires : tie.Need-add_place-b-requires
add-place-requires c κs = search rules

add-requires : tie.Need-add-c-requires
add-requires c κs = search rules

add-signed-requires : tie.Need-add_signed-d-requires
add-signed-requires c κs = search rules

add-requires-2 : tie.Need-add-requires
add-requires-2 c κs = search rules

same_length : tie.Need-shape_of-out
same_length c = search rules

returns : tie.Need-returns
returns c =
    let e = c in
    let d = e in
    let s = d in
    let p = s in
    let b = p in
    ended (word_then b.args.word.now b.begin-a.ensures.0 (then p.add_place-b.ensures.0 (then s.add-c.ensures (as_text (ap integer (to_z-of_z b.ranges.z)) d.add_signed-d.ensures.0)))) e.add.ensures
    (omega (arith, e.add.ensures.next, e.add.ensures.long, d.add_signed-d.ensures.1, d.add_signed-d.ensures.0.long, s.add-c.ensures.next, s.add-c.ensures.long, p.add_place-b.ensures.1, p.add_place-b.ensures.0.long, b.begin-a.ensures.1, b.begin-a.ensures.0.long, b.requires))

pub amount_line_spec : {M : Type 1} → statement M
amount_line_spec =
    tie.close
    (tie.spec
    begin-requires
    add-place-requires
    add-requires
    add-signed-requires
    add-requires-2
    same_length
    returns)
