-- `store_check::said_shape` meets its contract. Assumes nothing.
use borrow.Author.Tests.{not-true, not-false}
use borrow.Author.Rules.{rules}
use mathlib.Core.Path.{refl, sym, subst}
use Rattle.ground.proofs.Tests.{says_true, says_false}
use Rattle.store.specs.Accepted.{GoodLength}
use Rattle.store.proofs.Accepted.OwnSize.{short}
use Rattle.store_check.proofs.head.said_shape.Statement.{statement}
use Rattle.store_check.proofs.head.said_shape.Tie as tie

returns : tie.Need-returns-then-s-lt24
returns c = (refl, short c.args.s.now c.if-s-lt24.true)

shape-of-requires : tie.Need-shape_of-z-requires
shape-of-requires c κs = search rules

good-length-requires : tie.Need-good_length-requires
good-length-requires c κs = search rules

returns-2 : tie.Need-returns-then-not-good_length
returns-2 c =
    let g = c in
    let z = g.shape_of-z in
    let s = g.args.s.now in
    (refl, λ l. says_false {P = GoodLength z.result s} g.good_length.result (not-true _ c.if-not-good_length.true-raw) g.good_length.ensures (subst (λ S. GoodLength S s) (sym z.ensures.0) l))

returns-3 : tie.Need-returns
returns-3 c =
    let g = c in
    let z = g.shape_of-z in
    let s = g.args.s.now in
    (z.ensures.0, says_true {P = GoodLength z.result s} g.good_length.result (not-false _ c.if-not-good_length.false-raw) g.good_length.ensures)

pub said_shape_spec : {M : Type 1} → statement M
said_shape_spec = tie.close (tie.spec returns shape-of-requires good-length-requires returns-2 returns-3)
