use Rattle.std.proofs.Common.{◌≤◌, ◌+◌, ◌*◌, take}
use Rattle.commands.specs.Codes.{shown}
use Rattle.commands.specs.Answers.{Adds}
use Rattle.commands.proofs.answers.add_bytes.Given as goal

abbrev pub invariant-loop-b : goal.invariant-loop-b
invariant-loop-b l = record { most : l.r ≤ l.at + 3 * l.b-index; adds : Adds (shown (take l.b-index l.code)) l.fn.out l.at l.out l.r }
