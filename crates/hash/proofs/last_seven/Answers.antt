use Rattle.std.proofs.Common.{arith, ◌+◌, ◌%◌}
use Rattle.hash.proofs.Bytes.{joined, counted}
use Rattle.hash.proofs.last_seven.Goals as goal

pub returns-then-n-lt4 : goal.returns-then-n-lt4
returns-then-n-lt4 c = counted c.args.s.now c.args.h c.last_three.result c.args.i (c.args.n % 4) (c.args.n % 8) c.last_three.ensures (omega arith)

pub returns : goal.returns
returns c = joined c.args.s.now c.args.h c.block-x.result c.last_three-2.result c.args.i (c.args.i + 4) 4 (c.args.n % 4) (c.args.n % 8) c.block-x.ensures c.last_three-2.ensures (omega arith) (omega arith)
