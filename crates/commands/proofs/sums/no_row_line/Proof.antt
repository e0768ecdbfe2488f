-- `commands::no_row_line` meets its contract. Assumes nothing.
use native.Mathlib.Omega.{arith}
use borrow.Author.Rules.{rules}
use Rattle.commands.proofs.Adding.{ended, then}
use Rattle.commands.proofs.sums.no_row_line.Statement.{statement}
use Rattle.commands.proofs.sums.no_row_line.Tie as tie

add-requires : tie.Need-add-a-requires
add-requires c κs = search rules

add-because-requires : tie.Need-add_because-b-requires
add-because-requires c κs = search rules

add-number-requires : tie.Need-add_number-c-requires
add-number-requires c κs = search rules

add-requires-2 : tie.Need-add-d-requires
add-requires-2 c κs = search rules

add-requires-3 : tie.Need-add-requires
add-requires-3 c κs = search rules

same_length : tie.Need-shape_of-out
same_length c = search rules

returns : tie.Need-returns
returns c =
    let e = c in
    let d = e in
    let n = d in
    let b = n in
    let a = b in
    ended (then a.add-a.ensures (then b.add_because-b.ensures.0 (then n.add_number-c.ensures.0 d.add-d.ensures))) e.add.ensures
    (omega (arith, e.add.ensures.next, e.add.ensures.long, d.add-d.ensures.next, d.add-d.ensures.long, n.add_number-c.ensures.1, n.add_number-c.ensures.0.long, b.add_because-b.ensures.1, b.add_because-b.ensures.0.long, a.add-a.ensures.next, a.add-a.ensures.long))

pub no_row_line_spec : {M : Type 1} → statement M
no_row_line_spec =
    tie.close
    (tie.spec
    add-requires
    add-because-requires
    add-number-requires
    add-requires-2
    add-requires-3
    same_length
    returns)
