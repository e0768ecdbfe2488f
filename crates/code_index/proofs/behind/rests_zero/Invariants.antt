use Rattle.code_index.proofs.Zeroed.{RestsBelow}
use Rattle.code_index.proofs.behind.rests_zero.Given as goal

abbrev pub invariant-loop-p : goal.invariant-loop-p
invariant-loop-p l = RestsBelow l.x l.p
