use Rattle.std.proofs.Common.{◌-◌, take, drop}
use Rattle.ground.proofs.Tests.{says_same}
use Rattle.words.specs.Zeros.{Zero}
use Rattle.page_check.proofs.Lent.{lent_zero, zero_lent}
use Rattle.page_check.proofs.each_zero.Goals as goal

pub returns : goal.returns
returns c =
    let s = c.args.page.now in
    let a = c.args.a in
    let b = c.args.b in
    let r = c.requires in
    says_same {P = Zero (take (b - a) (drop a s))} c.all_zero.result c.all_zero.ensures (lent_zero s a b r.order r.within) (zero_lent s a b r.order r.within)
