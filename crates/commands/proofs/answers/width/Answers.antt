use Rattle.std.proofs.Common.{arith, sym}
use Rattle.commands.proofs.Adding.{width_small, width_is}
use Rattle.commands.proofs.answers.width.Goals as goal

pub returns-in-Some : goal.returns-in-Some
returns-in-Some c = let k = c.in-Some.ensures in (sym (width_is c.in-Some.k c.args.n k.power_le k.next_power_gt), omega (arith, k.bound))

pub returns-in-None : goal.returns-in-None
returns-in-None c = (sym (width_small _ (omega (arith, c.in-None.ensures.none))), omega arith)
