use Rattle.std.proofs.Common.{arith}
use borrow.Author.Count.{below_more}
use Rattle.commands.proofs.Values.{value_none, next, is_digit, overflows}
use Rattle.commands.proofs.numbers.read_number.Goals as goal

pub loop-b-init : goal.loop-b-init
loop-b-init c = record { fits = omega arith; is = value_none _; each = λ k l. absurd (omega arith) }

pub returns-in_err-checked_mul : goal.returns-in_err-checked_mul
returns-in_err-checked_mul c =
    rw c.from_residual-in_err-checked_mul.ensures
    (overflows _ _ _ _ c.loop-b-test.true c.loop-b.invariant.is c.in_ok-d.ensures (omega (arith, c.in_err-checked_mul.ensures)))

pub returns-in_err-n : goal.returns-in_err-n
returns-in_err-n c =
    rw c.from_residual-in_err-n.ensures
    (overflows _ _ _ _ c.loop-b-test.true c.loop-b.invariant.is c.in_ok-d.ensures (omega (arith, c.in_ok-checked_mul.ensures, c.in_err-n.ensures)))

pub loop-b-preserved : goal.loop-b-preserved
loop-b-preserved c =
    let v = c.loop-b.invariant in
    let d = c.in_ok-d.ensures in
    record {
      fits = omega (arith, c.in_ok-checked_mul.ensures, c.in_ok-n.ensures);
      is = omega (arith, next _ _ _ _ v.is d, c.in_ok-checked_mul.ensures, c.in_ok-n.ensures);
      each = below_more _ _ v.each (is_digit _ _ d);
    }
