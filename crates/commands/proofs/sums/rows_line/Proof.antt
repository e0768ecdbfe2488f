-- `commands::sums::rows_line` meets its contract. Assumes nothing.
use Rattle.commands.proofs.Adding.{word_then, ended, then}
use native.Mathlib.Omega.{arith}
use borrow.Author.Rules.{rules}
use Rattle.commands.proofs.sums.rows_line.Statement.{statement}
use Rattle.commands.proofs.sums.rows_line.Tie as tie

begin-requires : tie.Need-begin-a-requires
begin-requires c κs = search rules

add-number-requires : tie.Need-add_number-b-requires
add-number-requires c κs = search rules

add-requires : tie.Need-add-c-requires
add-requires c κs = search rules

add-requires-2 : tie.Need-add-requires
add-requires-2 c κs = search rules

same_length : tie.Need-shape_of-out
same_length c = search rules

returns : tie.Need-returns
returns c =
    let e = c in
    let s = e in
    let p = s in
    let b = p in
    ended (word_then b.args.word.now b.begin-a.ensures.0 (then p.add_number-b.ensures.0 s.add-c.ensures)) e.add.ensures
    (omega (arith, e.add.ensures.next, e.add.ensures.long, s.add-c.ensures.next, s.add-c.ensures.long, p.add_number-b.ensures.1, p.add_number-b.ensures.0.long, b.begin-a.ensures.1, b.begin-a.ensures.0.long, b.requires))

pub rows_line_spec : {M : Type 1} → statement M
rows_line_spec = tie.close (tie.spec begin-requires add-number-requires add-requires add-requires-2 same_length returns)
