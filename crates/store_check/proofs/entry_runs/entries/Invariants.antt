use Rattle.std.proofs.Common.{◌≡◌, length}
use Rattle.store.specs.Pages.{entry_at}
use Rattle.store_check.proofs.Fills.{Filled}
use Rattle.store_check.proofs.entry_runs.entries.Given as goal

abbrev pub invariant-loop-i : goal.invariant-loop-i
invariant-loop-i l = Filled (λ k v. v ≡ entry_at l.z l.s k) (length l.initial.e-items) 0 l.i l.e-items
