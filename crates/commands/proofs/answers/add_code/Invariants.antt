use Rattle.std.proofs.Common.{◌+◌, ◌*◌, take}
use Rattle.commands.specs.Answers.{Adds}
use Rattle.commands.specs.Codes.{PlainFrom}
use Rattle.commands.proofs.answers.add_code.Given as goal

abbrev pub invariant-loop-k : goal.invariant-loop-k
invariant-loop-k l = record { plain : PlainFrom l.code 0 (8 * l.k); adds : Adds (take (8 * l.k) l.code) l.fn.out l.at l.out (l.at + 8 * l.k) }
