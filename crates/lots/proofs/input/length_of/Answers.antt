use Rattle.std.proofs.Common.{arith, le-leb}
use borrow.Author.Tests.{lt-leb}
use Rattle.lots.specs.Sessions.{lent_for}
use Rattle.lots.proofs.input.length_of.Goals as goal

pub returns-then-n-gt4098 : goal.returns-then-n-gt4098
unfolding lent_for
returns-then-n-gt4098 c = (rw (lt-leb _ 4098 c.if-n-gt4098.true), omega arith)

pub returns-then-size-gt16384 : goal.returns-then-size-gt16384
unfolding lent_for
returns-then-size-gt16384 c = (rw (le-leb _ 4098 c.if-n-gt4098.false, lt-leb _ 16384 c.if-size-gt16384.true), omega arith)

pub returns-then-len-most : goal.returns-then-len-most
unfolding lent_for
returns-then-len-most c = (rw (le-leb _ 4098 c.if-n-gt4098.false, le-leb _ 16384 c.if-size-gt16384.false, lt-leb _ c.args.most c.if-len-most.true), omega arith)

pub returns-else-len-most : goal.returns-else-len-most
unfolding lent_for
returns-else-len-most c = (rw (le-leb _ 4098 c.if-n-gt4098.false, le-leb _ 16384 c.if-size-gt16384.false, le-leb _ c.args.most c.if-len-most.false), omega arith)
