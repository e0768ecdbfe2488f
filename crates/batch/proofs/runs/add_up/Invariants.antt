-- What `batch::add_up` keeps: what is left of n is what the elements from the next on have to add up to. Assumes nothing.
use Prim.Native.Nat.{◌+◌}
use mathlib.Core.Path.{◌≡◌}
use lib.ListN.{drop}
use Rattle.batch.specs.Batch.{sum}
use Rattle.batch.proofs.runs.add_up.Given as goal

abbrev pub invariant-loop-k : goal.invariant-loop-k
invariant-loop-k l = l.fn.n + sum (drop l.k-index l.fn.lengths) ≡ l.left + sum l.fn.lengths
