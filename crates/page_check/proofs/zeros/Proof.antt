-- `page_check::zeros` meets its contract. Assumes nothing.
use Prim.Native.Nat.{◌+◌, ◌*◌, ◌-◌, ◌/◌}
use mathlib.Core.Logic.{⊎_elim}
use native.Mathlib.Omega.{arith}
use borrow.Author.Rules.{rules}
use Rattle.ground.proofs.Sides.{side}
use Rattle.ground.proofs.Tests.{says_same}
use Rattle.page_check.proofs.zeros.Statement.{statement}
use Rattle.page_check.proofs.zeros.Tie as tie

sub-turns : tie.Need-overflow_sub-turns
sub-turns c = search rules

add-turns : tie.Need-overflow_add-turns
add-turns c = search rules

mul-if1 : tie.Need-overflow_mul-turns
mul-if1 c = search rules

add-if1 : tie.Need-overflow_add-a
add-if1 c = search rules

each-zero-requires : tie.Need-each_zero-requires
each-zero-requires c κs = search rules

returns : tie.Need-returns-then-b-a
returns c = search rules

mul-both-zero : tie.Need-overflow_mul-turns-2
mul-both-zero c = search rules

sub-both-zero : tie.Need-overflow_sub-b
sub-both-zero c = search rules

mul-both-zero-2 : tie.Need-overflow_mul-turns-3
mul-both-zero-2 c = search rules

both-zero-requires : tie.Need-both_zero-requires
both-zero-requires c κs = search rules

returns-2 : tie.Need-returns
returns-2 c =
    let s = c in
    let a = s.args.a in
    let h = 4 * ((s.args.b - a + 63) / 64) in
    says_same c.both_zero.result c.both_zero.ensures
    (λ z k l u. ⊎_elim (λ lt. z.0 k l lt) (λ ge. z.1 k (omega (arith, c.if-b-a.false)) (omega (arith, c.if-b-a.false))) (side k (a + 8 * h)))
    (λ z. ((λ k l u. z k l (omega (arith, c.if-b-a.false))), (λ k l u. z k (omega (arith, c.if-b-a.false)) (omega (arith, c.if-b-a.false)))))

pub zeros_spec : {M : Type 1} → statement M
zeros_spec =
    tie.close
    (tie.spec
    sub-turns
    add-turns
    mul-if1
    add-if1
    each-zero-requires
    returns
    mul-both-zero
    sub-both-zero
    mul-both-zero-2
    both-zero-requires
    returns-2)
