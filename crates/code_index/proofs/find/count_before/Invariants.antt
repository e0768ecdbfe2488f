use Rattle.std.proofs.Common.{◌-◌}
use Rattle.code_index.proofs.Halving.{Between}
use Rattle.code_index.proofs.find.count_before.Given as goal

abbrev pub invariant-loop-lo : goal.invariant-loop-lo
invariant-loop-lo l = Between l.x l.n l.e l.lo l.hi

abbrev pub decreases-loop-lo : goal.decreases-loop-lo
decreases-loop-lo l = l.hi - l.lo
