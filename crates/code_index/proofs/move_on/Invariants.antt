use Rattle.std.proofs.Common.{◌≤◌}
use Rattle.code_index.specs.Entries.{MovedOn}
use Rattle.code_index.proofs.move_on.Given as goal

abbrev pub invariant-loop-j : goal.invariant-loop-j
invariant-loop-j l = record { low : l.i ≤ l.j; moved : MovedOn l.fn.x l.j l.n l.x }
