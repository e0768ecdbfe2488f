use Rattle.std.proofs.Common.{◌≡◌, ◌+◌, ◌-◌, ◌≤◌, drop}
use Rattle.store.specs.Moves.{frees}
use Rattle.store.specs.Pages.{contents}
use Rattle.directory.proofs.pages.free_pages.Given as goal

abbrev pub invariant-loop-p : goal.invariant-loop-p
invariant-loop-p l = (l.many ≤ l.p) × (l.many ≤ l.most) × (l.many + frees (drop (l.p - 2) (contents l.z l.s)) ≡ frees (contents l.z l.s))
