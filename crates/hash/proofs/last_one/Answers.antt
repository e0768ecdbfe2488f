use Rattle.std.proofs.Common.{arith, ◌%◌}
use Rattle.hash.proofs.Bytes.{none, taken}
use Rattle.hash.proofs.last_one.Goals as goal

pub returns-then-n-eq0 : goal.returns-then-n-eq0
returns-then-n-eq0 c = none c.args.s.now c.args.h c.args.i (c.args.n % 2) c.if-n-eq0.true

pub returns : goal.returns
returns c = taken c.args.s.now c.args.h c.args.i c.step.result (c.args.n % 2) (omega arith) c.step.ensures (omega arith)
