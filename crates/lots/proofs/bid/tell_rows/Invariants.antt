use Rattle.std.proofs.Common.{◌≡◌}
use Rattle.lots.proofs.bid.tell_rows.Given as goal

abbrev pub invariant-loop-i : goal.invariant-loop-i
invariant-loop-i g l = l.told ≡ l.i
