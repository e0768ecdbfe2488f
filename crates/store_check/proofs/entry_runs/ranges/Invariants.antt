use Rattle.ground.specs.Says.{Says}
use Rattle.store_check.specs.Directory.{EntriesInRange}
use Rattle.store_check.proofs.entry_runs.ranges.Given as goal

abbrev pub invariant-loop-e : goal.invariant-loop-e
invariant-loop-e l = Says l.ok (EntriesInRange l.dir l.n l.e-index)
