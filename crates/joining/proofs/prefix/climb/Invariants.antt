use Rattle.std.proofs.Common.{◌+◌, ◌<◌, ◌≤◌}
use Rattle.hash.specs.Fnv.{fnv}
use Rattle.store.specs.Pages.{rows_held}
use Rattle.joining.specs.Prefix.{needs_of}
use Rattle.joining.proofs.prefix.climb.Given as goal

abbrev pub invariant-loop-j : goal.invariant-loop-j
invariant-loop-j l = l.j < l.k → needs_of fnv (rows_held l.z l.s) l.x l.j ≤ l.z.capacity + l.need
