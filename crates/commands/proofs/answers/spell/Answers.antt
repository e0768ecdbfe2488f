use Rattle.std.proofs.Common.{arith, refl, ◌∙◌, ◌+◌, ◌-◌, drop}
use lib.ListN.{length-set}
use lib.Seq.{take-set-le}
use Rattle.commands.proofs.Adding.{spell_start, spell_more, spelled}
use Rattle.commands.proofs.answers.spell.Goals as goal

pub loop-i-init : goal.loop-i-init
loop-i-init c = record { within = omega arith; long = refl; front = refl; digits = spell_start c.args.k c.args.n (drop (c.args.at + c.args.k) c.args.out.now) }

pub loop-i-preserved : goal.loop-i-preserved
loop-i-preserved c =
    let l = c.loop-i in
    let v = l.invariant in
    let a = c.args in
    record {
      within = omega arith;
      long = length-set l.out (a.at + (l.i - 1)) _ ∙ v.long;
      front = take-set-le a.at l.out (a.at + (l.i - 1)) _ (omega arith) ∙ v.front;
      digits = spell_more a.k a.n l.i l.rest a.at l.out (omega arith) v.within (omega (arith, v.within, v.long, c.requires)) v.digits;
    }

pub returns : goal.returns
returns c =
    let l = c.loop-i in
    let v = l.invariant in
    let a = c.args in
    spelled a.k a.n l.i l.rest a.at _ l.out (omega arith) c.requires v.long v.front v.digits
