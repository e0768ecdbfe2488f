use Rattle.std.proofs.Common.{◌-◌, ◌*◌, ◌≤◌}
use Rattle.hash.specs.Fnv.{fnv}
use Rattle.joining.proofs.Runs.{Summed}
use Rattle.joining.proofs.prefix.needs_at_most.Given as goal

abbrev pub invariant-loop-i : goal.invariant-loop-i
invariant-loop-i l = Summed l.z fnv l.s l.x l.j l.i l.sum × (l.sum ≤ l.limit) × (l.sum ≤ 16384 * l.i)

abbrev pub decreases-loop-i : goal.decreases-loop-i
decreases-loop-i l = l.run.to - l.i
