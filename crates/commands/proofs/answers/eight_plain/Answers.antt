use Rattle.std.proofs.Common.{◌+◌, ◌-◌, ◌∙◌, arith, subst, drop}
use Rattle.std.proofs.lemmas.List.{get_or-drop, get_or-take}
use Rattle.words.proofs.Zeros.{or_zero}
use Rattle.commands.specs.Codes.{Plain}
use Rattle.commands.proofs.Blocks.{plain_one}
use Rattle.commands.proofs.answers.eight_plain.Goals as goal

pub loop-b-preserved : goal.loop-b-preserved
loop-b-preserved c = λ e.
    let z = or_zero c.loop-b.acc c.odd-acc.result e in
    let k = c.args.code.now in
    let a = c.args.a in
    let i = c.loop-b.b-index in
    plain_one k a i (c.loop-b.invariant z.0) (subst Plain (get_or-take (a + 8 - a) (drop a k) i 0 (omega arith) ∙ get_or-drop a k i 0) (c.odd-acc.ensures z.1))
