use Rattle.std.proofs.Common.{◌+◌, ◌-◌, ◌/◌, refl}
use Rattle.ground.proofs.Tests.{says_true, says_false}
use Rattle.code_index.proofs.Sorting.{lt_says}
use Rattle.code_index.proofs.Halving.{mid_lo, mid_hi, between_up, between_down}
use Rattle.code_index.proofs.find.count_before.Goals as goal

pub loop-lo-preserved-then-is_lt : goal.loop-lo-preserved-then-is_lt
loop-lo-preserved-then-is_lt c =
    let lo = c.loop-lo.lo in
    let hi = c.loop-lo.hi in
    between_up c.args.x.now c.args.n c.args.e.now lo hi (lo + (hi - lo) / 2) c.loop-lo.invariant (mid_lo lo hi) (mid_hi lo hi c.loop-lo-test.true)
    (says_true c.is_lt.result c.if-is_lt.true (rw c.is_lt.ensures (lt_says c.entry_at.ensures refl c.compare_alike.result c.compare_alike.ensures)))

pub loop-lo-preserved : goal.loop-lo-preserved
loop-lo-preserved c =
    let lo = c.loop-lo.lo in
    let hi = c.loop-lo.hi in
    between_down c.args.x.now c.args.n c.args.e.now lo hi (lo + (hi - lo) / 2) c.loop-lo.invariant (mid_lo lo hi) (mid_hi lo hi c.loop-lo-test.true)
    (says_false c.is_lt.result c.if-is_lt.false (rw c.is_lt.ensures (lt_says c.entry_at.ensures refl c.compare_alike.result c.compare_alike.ensures)))
