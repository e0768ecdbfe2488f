use Rattle.partition.specs.Bits.{top}
use Rattle.putting.specs.Put.{Unset}
use Rattle.putting.proofs.vacant.vacant_depth.Given as goal

abbrev pub invariant-loop-k : goal.invariant-loop-k
invariant-loop-k l = Unset l.z l.s l.d l.k (top l.k l.x)
