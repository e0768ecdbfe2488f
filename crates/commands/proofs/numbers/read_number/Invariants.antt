use Rattle.std.proofs.Common.{◌≡◌, ◌<◌, ◌^◌, ℕ}
use Rattle.ground.specs.Lists.{byte}
use Rattle.commands.specs.Numbers.{value, Digit}
use Rattle.commands.proofs.numbers.read_number.Given as goal

abbrev pub invariant-loop-b : goal.invariant-loop-b
invariant-loop-b l = record { fits : l.n < 2 ^ 64; is : value l.w l.b-index ≡ l.n; each : (k : ℕ) → k < l.b-index → Digit (byte l.w k) }
