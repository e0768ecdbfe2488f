use Rattle.std.proofs.Common.{refl}
use Rattle.lots.proofs.Leaving.{beside}
use Rattle.lots.proofs.Running.{feeds_line, feeds_byte}
use Rattle.lots.proofs.input.take.Goals as goal

pub returns-then-b-eq10 : goal.returns-then-b-eq10
returns-then-b-eq10 g c = feeds_line c.if-b-eq10.true c.end_line.ensures

pub returns : goal.returns
returns g c = feeds_byte c.if-b-eq10.false (beside (record { len = refl; known = refl; changed = refl; stopped = refl }) c.requires.holds) c.read_byte-y.ensures refl refl refl
