use Rattle.std.proofs.Common.{◌≡◌, ◌<◌}
use Rattle.store.proofs.Paging.Depths.{deepest_to}
use Rattle.store.proofs.deepest.Given as goal

abbrev pub invariant-loop-p : goal.invariant-loop-p
invariant-loop-p l = (l.best ≡ deepest_to l.z l.s l.p) × (l.best < 256)
