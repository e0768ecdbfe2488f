use Rattle.std.proofs.Common.{arith, refl}
use Rattle.words.proofs.Bytes.{span_none, span_up}
use Rattle.words.proofs.fill.Goals as goal

pub loop-i-init : goal.loop-i-init
loop-i-init c = span_none _ c.args.a _

pub loop-i-preserved : goal.loop-i-preserved
loop-i-preserved c = span_up c.args.x c.loop-i.invariant (omega arith) (omega (arith, c.loop-i.invariant.len)) refl
