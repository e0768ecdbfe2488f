use Rattle.std.proofs.Common.{drop}
use Rattle.joining.specs.Join.{rows_at, others}
use Rattle.joining.proofs.Gathers.{Coming}
use Rattle.joining.proofs.join.add_rows.Given as goal

abbrev pub invariant-loop-i : goal.invariant-loop-i
invariant-loop-i l = Coming l.fn.to (others l.key (rows_at l.from)) (others l.key (drop l.i (rows_at l.from))) l.to
