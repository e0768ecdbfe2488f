use Rattle.std.proofs.Common.{arith, refl}
use Rattle.words.proofs.Bytes.{wrote_none, wrote_more}
use Rattle.words.proofs.copy_at.Goals as goal

pub loop-i-init : goal.loop-i-init
loop-i-init c = wrote_none _ c.args.at _

pub loop-i-preserved : goal.loop-i-preserved
loop-i-preserved c = wrote_more _ c.loop-i.invariant (omega (arith, c.loop-i.invariant.old.len)) refl
