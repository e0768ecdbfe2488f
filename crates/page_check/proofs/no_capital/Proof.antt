-- `page_check::no_capital` meets its contract. Assumes nothing.
use Prim.Native.Nat.{◌+◌, ◌*◌, ◌/◌}
use mathlib.Core.Logic.{⊎_elim}
use native.Mathlib.Omega.{arith}
use borrow.Author.Rules.{rules}
use Rattle.ground.proofs.Sides.{side}
use Rattle.ground.proofs.Tests.{says_same}
use Rattle.page_check.proofs.no_capital.Statement.{statement}
use Rattle.page_check.proofs.no_capital.Tie as tie

add-h : tie.Need-overflow_add-h
add-h c = search rules

mul-h : tie.Need-overflow_mul-h
mul-h c = search rules

add-if1 : tie.Need-overflow_add-h-2
add-if1 c = search rules

sub-both-small : tie.Need-overflow_sub-f
sub-both-small c = search rules

both-small-requires : tie.Need-both_small-requires
both-small-requires c κs = search rules

returns : tie.Need-returns-then-f-h
returns c =
    let o = c.requires.0 in
    says_same c.both_small.result c.both_small.ensures
    (λ n k l u. n.0 k l (omega (arith, o)))
    (λ n. ((λ k l u. n k l (omega (arith, o))), (λ k l u. n k l (omega (arith, o)))))

sub-both-small-2 : tie.Need-overflow_sub-f-2
sub-both-small-2 c = search rules

both-small-requires-2 : tie.Need-both_small-requires-2
both-small-requires-2 c κs = search rules

returns-2 : tie.Need-returns
returns-2 c =
    let f = c.args.f in
    let h = (f + 55) / 64 * 32 in
    says_same c.both_small-2.result c.both_small-2.ensures
    (λ n k l u. ⊎_elim (λ lt. n.0 k l lt) (λ ge. n.1 k (omega (arith, c.if-f-h.false)) (omega (arith, c.if-f-h.false))) (side k (8 + h)))
    (λ n. ((λ k l u. n k l (omega (arith, c.if-f-h.false))), (λ k l u. n k (omega (arith, c.if-f-h.false)) (omega (arith, c.if-f-h.false)))))

pub no_capital_spec : {M : Type 1} → statement M
no_capital_spec =
    tie.close
    (tie.spec
    add-h
    mul-h
    add-if1
    sub-both-small
    both-small-requires
    returns
    sub-both-small-2
    both-small-requires-2
    returns-2)
