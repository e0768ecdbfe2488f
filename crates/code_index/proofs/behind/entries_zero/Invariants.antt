use Rattle.std.proofs.Common.{◌≡◌, ◌≤◌, ◌<◌, ℕ, []}
use Rattle.code_index.specs.Entries.{code_entry, entry_in}
use Rattle.code_index.proofs.behind.entries_zero.Given as goal

abbrev pub invariant-loop-i : goal.invariant-loop-i
invariant-loop-i l = (j : ℕ) → l.n ≤ j → j < l.i → entry_in l.x j ≡ code_entry []
