use Rattle.std.proofs.Common.{◌*◌}
use Rattle.page_check.proofs.Whole.{BothGathered}
use Rattle.page_check.proofs.both_zero.Given as goal

abbrev pub invariant-loop-i : goal.invariant-loop-i
invariant-loop-i l = BothGathered l.page l.a l.b (8 * l.i) l.acc
