-- The rows from the cursor on are those from slot `left` of the pages from entry i on.
use Rattle.std.proofs.Common.{ℕ, ◌-◌}
use Rattle.query.specs.Cursors.{At}
use Rattle.query.proofs.Finds.{From}
use Rattle.query.proofs.spots.next_row.Given as goal

abbrev pub invariant-loop-i : goal.invariant-loop-i
invariant-loop-i l = (n : ℕ) → At l.z l.s n l.fn.c → From l.z l.s n l.i l.left

abbrev pub decreases-loop-i : goal.decreases-loop-i
decreases-loop-i l = l.end - l.i
