use Rattle.store_check.specs.Digest.{Celled}
use Rattle.store_check.proofs.parted.digest.Given as goal

abbrev pub invariant-loop-p : goal.invariant-loop-p
invariant-loop-p l = Celled l.z l.s l.p l.cells
