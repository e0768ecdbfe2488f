use Rattle.words.proofs.Zeros.{Gathered}
use Rattle.words.proofs.no_bit.Given as goal

abbrev pub invariant-loop-x : goal.invariant-loop-x
invariant-loop-x l = Gathered l.s 0 l.x-index l.acc
