use Rattle.std.proofs.Common.{◌≡◌, ◌≤◌, ◌<◌, cond, ℕ}
use Rattle.ground.specs.Lists.{byte}
use Rattle.commands.specs.SheetLines.{blank_kind}
use Rattle.commands.proofs.sheet.run_end.Given as goal

abbrev pub invariant-loop-j : goal.invariant-loop-j
invariant-loop-j l = (m : ℕ) → l.i ≤ m → m < l.j → blank_kind (byte l.line m) ≡ cond l.blank 1 0
