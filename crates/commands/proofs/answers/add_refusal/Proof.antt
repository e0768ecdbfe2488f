-- `commands::add_refusal` meets its contract. Assumes nothing.
use native.Mathlib.Omega.{arith}
use Rattle.commands.proofs.Adding.{as_text, numbered_page, numbered_plain, then}
use borrow.Author.Rules.{rules}
use Rattle.commands.proofs.answers.add_refusal.Statement.{statement}
use Rattle.commands.proofs.answers.add_refusal.Tie as tie

numbers-of-requires : tie.Need-numbers_of-n-requires
numbers-of-requires c κs = search rules

add-requires : tie.Need-add-a-requires
add-requires c κs = search rules

cast-add-number : tie.Need-overflow_cast-n
cast-add-number c = search rules

add-number-requires : tie.Need-add_number-b-requires
add-number-requires c κs = omega (arith, c.add-a.ensures.next, c.add-a.ensures.long)

add-requires-2 : tie.Need-add-c-requires
add-requires-2 c κs = omega (arith, c.add_number-b.ensures.1, c.add_number-b.ensures.0.long, c.add-a.ensures.next, c.add-a.ensures.long)

add-number-requires-2 : tie.Need-add_number-requires
add-number-requires-2 c κs = omega (arith, c.add-c.ensures.next, c.add-c.ensures.long, c.add_number-b.ensures.1, c.add_number-b.ensures.0.long, c.add-a.ensures.next, c.add-a.ensures.long)

same_length : tie.Need-shape_of-out-then-n-eq2
same_length c = search rules

returns : tie.Need-returns-then-n-eq2
returns c =
    let p = c in
    let e = p in
    let i = e in
    let n = i in
    let a = n in
    let o = a in (
      as_text (numbered_page _ _ _ o.numbers_of-n.ensures i.if-n-eq2.true) (then a.add-a.ensures (then n.add_number-b.ensures.0 (then e.add-c.ensures p.add_number.ensures.0))),
      omega (arith, a.add-a.ensures.next, n.add_number-b.ensures.1, e.add-c.ensures.next, p.add_number.ensures.1),
    )

same-length-2 : tie.Need-shape_of-out
same-length-2 c = search rules

returns-2 : tie.Need-returns
returns-2 c =
    let n = c in
    let a = n in
    let o = a in
    (as_text (numbered_plain _ _ _ o.numbers_of-n.ensures c.if-n-eq2.false) (then a.add-a.ensures n.add_number-b.ensures.0), omega (arith, a.add-a.ensures.next, n.add_number-b.ensures.1))

pub add_refusal_spec : {M : Type 1} → statement M
add_refusal_spec =
    tie.close
    (tie.spec
    numbers-of-requires
    add-requires
    cast-add-number
    add-number-requires
    add-requires-2
    add-number-requires-2
    same_length
    returns
    same-length-2
    returns-2)
