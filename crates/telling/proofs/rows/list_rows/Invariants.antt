use Rattle.std.proofs.Common.{◌≡◌, ◌-◌, ◌≤◌, length}
use Rattle.query.specs.Cursors.{At}
use Rattle.telling.proofs.rows.list_rows.Given as goal

abbrev pub invariant-loop-i : goal.invariant-loop-i
invariant-loop-i g l = At l.z l.s l.i l.c × (l.i ≤ l.n) × (length l.lines ≡ length l.initial.lines)

abbrev pub decreases-loop-i : goal.decreases-loop-i
decreases-loop-i g l = l.n - l.i
