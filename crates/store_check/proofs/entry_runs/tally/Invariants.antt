use Rattle.std.proofs.Common.{length}
use Rattle.store_check.specs.Directory.{NamesCounted}
use Rattle.store_check.proofs.entry_runs.tally.Given as goal

abbrev pub invariant-loop-e : goal.invariant-loop-e
invariant-loop-e l = NamesCounted l.dir l.e-index (length l.fn.counts) l.counts
