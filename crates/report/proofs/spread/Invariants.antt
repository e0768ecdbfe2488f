-- `report::spread`: the words are those after the first n rows are laid.
use Rattle.std.proofs.Common.{◌≡◌}
use Rattle.report.proofs.Upto.{upto}
use Rattle.report.proofs.spread.Given as goal

abbrev pub invariant-loop-row : goal.invariant-loop-row
invariant-loop-row l = (l.n ≡ l.row-index) × (l.flat ≡ upto 0 l.n l.sheet l.fn.flat)
