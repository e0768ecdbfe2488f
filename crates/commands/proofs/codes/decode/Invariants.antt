use Rattle.std.proofs.Common.{◌≡◌, ◌≤◌, ◌-◌, length, take}
use Rattle.commands.specs.Codes.{Spells}
use Rattle.commands.proofs.Unread.{Follows}
use Rattle.commands.proofs.codes.decode.Given as goal

abbrev pub invariant-loop-i : goal.invariant-loop-i
invariant-loop-i l = record {
  read : l.i ≤ length l.w;
  written : l.n ≤ length l.out;
  long : length l.out ≡ length l.fn.out;
  spells : Spells (take l.i l.w) (take l.n l.out);
  follows : Follows l.w l.i l.n;
}

abbrev pub decreases-loop-i : goal.decreases-loop-i
decreases-loop-i l = length l.w - l.i
