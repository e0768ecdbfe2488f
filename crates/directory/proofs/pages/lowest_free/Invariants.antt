use Rattle.std.proofs.Common.{◌+◌, ◌-◌, ◌≤◌}
use Rattle.store.specs.Moves.{find, is_free}
use Rattle.store.specs.Pages.{pages, contents}
use Rattle.directory.proofs.pages.lowest_free.Given as goal

abbrev pub invariant-loop-p : goal.invariant-loop-p
invariant-loop-p l = (2 ≤ l.p) × (l.p ≤ 2 + find is_free (contents l.z l.s))

abbrev pub decreases-loop-p : goal.decreases-loop-p
decreases-loop-p l = pages l.z l.s - l.p
