use Rattle.std.proofs.Common.{arith, ◌+◌, ◌%◌}
use Rattle.hash.proofs.Bytes.{joined, counted}
use Rattle.hash.proofs.rest.Goals as goal

pub returns-then-n-lt8 : goal.returns-then-n-lt8
returns-then-n-lt8 c = counted c.args.s.now c.args.h c.last_seven.result c.args.i (c.args.n % 8) (c.args.n % 16) c.last_seven.ensures (omega arith)

pub returns : goal.returns
returns c = joined c.args.s.now c.args.h c.block-x.result c.last_seven-2.result c.args.i (c.args.i + 8) 8 (c.args.n % 8) (c.args.n % 16) c.block-x.ensures c.last_seven-2.ensures (omega arith) (omega arith)
