use Rattle.std.proofs.Common.{◌≡◌, ◌+◌, ◌*◌, subst, bit_or, arith}
use Rattle.page_check.proofs.Whole.{BothGathered, both_more}
use Rattle.page_check.proofs.both_zero.Goals as goal

pub loop-i-preserved : goal.loop-i-preserved
loop-i-preserved c =
    let e : 8 * c.loop-i.i + 8 ≡ 8 * (c.loop-i.i + 1) = omega arith in
    subst (λ n. BothGathered c.args.page.now c.args.a c.args.b n (bit_or (bit_or c.loop-i.acc c.le64-acc.result) c.le64-acc-in-loop-i.result)) e (both_more _ _ _ _ 8 _ _ _ c.loop-i.invariant c.le64-acc.ensures.zero c.le64-acc-in-loop-i.ensures.zero)
