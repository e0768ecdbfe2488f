use Rattle.std.proofs.Common.{◌≡◌, ◌+◌}
use Rattle.commands.specs.Codes.{PlainFrom}
use Rattle.commands.proofs.answers.eight_plain.Given as goal

abbrev pub invariant-loop-b : goal.invariant-loop-b
invariant-loop-b l = l.acc ≡ 0 → PlainFrom l.code l.a (l.a + l.b-index)
