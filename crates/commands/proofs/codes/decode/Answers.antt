use Rattle.std.proofs.Common.{arith, refl}
use lib.ListN.{length-set, length-drop}
use Rattle.commands.specs.Codes.{none}
use Rattle.commands.proofs.Spelling.{more}
use Rattle.commands.proofs.Unread.{follows_none, follows_more, some_spelled}
use Rattle.commands.proofs.codes.decode.Goals as goal

pub loop-i-init : goal.loop-i-init
loop-i-init c = record { read = omega arith; written = omega arith; long = refl; spells = none; follows = follows_none _ }

pub returns-then-n-out : goal.returns-then-n-out
returns-then-n-out c = λ k l s.
    let v = c.loop-i.invariant in
    let r = v.follows k s in
    omega (arith, some_spelled r.1.0 (simp length-drop (omega arith)), r.1.1, v.written)

pub loop-i-preserved : goal.loop-i-preserved
loop-i-preserved c =
    let v = c.loop-i.invariant in
    let g = c.in_ok-g.ensures in
    record {
      read = g.within;
      written = simp length-set (omega arith);
      long = simp length-set v.long;
      spells = more _ _ _ _ _ v.spells g c.if-n-out.false;
      follows = follows_more _ _ _ _ v.follows g;
    }
