use Rattle.std.proofs.Common.{◌≡◌, ℕ, ◌≤◌, ◌<◌}
use Rattle.store.specs.Pages.{entry_at}
use Rattle.putting.proofs.vacant.unset.Given as goal

abbrev pub invariant-loop-i : goal.invariant-loop-i
invariant-loop-i l =
    ((j : ℕ) → j < l.i-iterator.start → l.initial.i-iterator.start ≤ j → entry_at l.z l.s j ≡ 0)
    × (l.initial.i-iterator.start ≤ l.i-iterator.start) × (l.i-iterator.start ≤ l.i-iterator.end) × (l.i-iterator.end ≡ l.initial.i-iterator.end)
