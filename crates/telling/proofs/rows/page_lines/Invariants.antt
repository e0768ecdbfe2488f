use Rattle.std.proofs.Common.{◌-◌, ◌*◌, ◌≤◌}
use Rattle.commands.specs.Answers.{Adds}
use Rattle.telling.specs.Rows.{slot_lines}
use Rattle.telling.proofs.rows.page_lines.Given as goal

abbrev pub invariant-loop-slot : goal.invariant-loop-slot
invariant-loop-slot l = (l.len ≤ 320 * (l.slot - l.i)) × (l.len ≤ 4096) × Adds (slot_lines l.page l.i (l.slot - l.i)) l.initial.out 0 l.out l.len
