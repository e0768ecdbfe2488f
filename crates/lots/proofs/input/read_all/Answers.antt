use Rattle.std.proofs.Common.{[], refl, rules}
use Rattle.lots.proofs.Leaving.{beside}
use Rattle.lots.proofs.Running.{feeds_none, brought_then}
use Rattle.lots.proofs.input.read_all.Goals as goal

pub loop-init : goal.loop-init
loop-init g c = (record { bytes = []; feeds = feeds_none (beside (record { len = refl; known = refl; changed = refl; stopped = refl }) c.requires.holds) refl refl refl c.requires.fits }, refl, c.requires.room)

pub loop-preserved : goal.loop-preserved
loop-preserved g c = let v = c.loop.invariant in (brought_then v.1 v.0 c.if-y.false c.if-y-2.false c.read-y.ensures, search rules, search rules)
