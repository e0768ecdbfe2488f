use Rattle.std.proofs.Common.{rules}
use Rattle.lots.proofs.Running.{ran_stopped, ran_quit, ran_ended}
use Rattle.lots.proofs.input.run.Goals as goal

pub returns-then-y : goal.returns-then-y
returns-then-y g c = ran_stopped c.begin.ensures c.read_all-y.ensures c.if-y.true

pub returns-then-y-2 : goal.returns-then-y-2
returns-then-y-2 g c = ran_quit c.begin.ensures c.read_all-y.ensures c.if-y.false c.if-y-2.true

pub returns : goal.returns
returns g c = ran_ended c.begin.ensures c.read_all-y.ensures (search rules) c.if-y.false c.if-y-2.false c.end_line.ensures
