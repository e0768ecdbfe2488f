use Rattle.std.proofs.Common.{◌+◌, ◌*◌}
use Rattle.words.specs.Zeros.{ZeroFrom}
use Rattle.words.proofs.zeros_end.Given as goal

abbrev pub invariant-loop-k : goal.invariant-loop-k
invariant-loop-k l = ZeroFrom l.s l.a (l.a + 1024 * l.k)
