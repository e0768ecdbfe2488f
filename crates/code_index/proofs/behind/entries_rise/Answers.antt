use Rattle.std.proofs.Common.{arith}
use Rattle.code_index.proofs.Sorting.{rising_start, rising_less}
use Rattle.code_index.proofs.Zeroed.{rise_more, rise_at}
use Rattle.code_index.proofs.behind.entries_rise.Goals as goal

pub loop-i-init : goal.loop-i-init
loop-i-init c = rising_start 1 c.args.x.now

pub loop-i-preserved : goal.loop-i-preserved
loop-i-preserved c = rise_more c.args.x.now c.loop-i.i (omega arith) c.loop-i.invariant c.if-not-is_before.ensures

pub returns-then-not-is_before : goal.returns-then-not-is_before
returns-then-not-is_before c = λ r. c.if-not-is_before.ensures (rise_at c.args.x.now c.args.n c.loop-i.i (omega arith) (omega arith) r)

pub returns : goal.returns
returns c = rising_less 1 c.loop-i.i c.args.n c.args.x.now (omega arith) c.loop-i.invariant
