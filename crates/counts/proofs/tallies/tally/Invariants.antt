use Rattle.counts.specs.Tallies.{TalliedTo}
use Rattle.counts.proofs.tallies.tally.Given as goal

abbrev pub invariant-loop-p : goal.invariant-loop-p
invariant-loop-p l = TalliedTo l.z l.s l.p l.tallies
