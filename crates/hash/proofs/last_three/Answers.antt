use Rattle.std.proofs.Common.{arith, ◌+◌, ◌%◌}
use Rattle.hash.proofs.Bytes.{joined, counted}
use Rattle.hash.proofs.last_three.Goals as goal

pub returns-then-n-lt2 : goal.returns-then-n-lt2
returns-then-n-lt2 c = counted c.args.s.now c.args.h c.last_one.result c.args.i (c.args.n % 2) (c.args.n % 4) c.last_one.ensures (omega arith)

pub returns : goal.returns
returns c = joined c.args.s.now c.args.h c.block-x.result c.last_one-2.result c.args.i (c.args.i + 2) 2 (c.args.n % 2) (c.args.n % 4) c.block-x.ensures c.last_one-2.ensures (omega arith) (omega arith)
