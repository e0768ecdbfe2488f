-- `putting::gather` meets its contract: slot by slot, and then the new row. Assumes nothing.
use Rattle.std.proofs.Common.{◌<◌, length, arith, sym, ap, subst, ◌∙◌}
use Rattle.hash.specs.Fnv.{fnv}
use Rattle.words.specs.Codes.{GoodCode}
use Rattle.page.proofs.Sums.{slot_code}
use Rattle.putting.proofs.Weighs.{filled_next, told_new}
use Rattle.putting.specs.declared.weigh.Weight.{Weight}
use Rattle.putting.specs.Split.{weight}
use Rattle.putting.proofs.weigh.gather.Goals as goal

pub weight_of-requires : goal.weight_of-requires
weight_of-requires c = subst GoodCode (sym c.code_at.ensures) (slot_code c.args.page.now c.loop-i.i c.requires.page (omega (arith, c.get16-n.ensures.0, c.loop-i-test.true)))

pub loop-i-preserved : goal.loop-i-preserved
loop-i-preserved c =
    let l = c.loop-i in
    let t : l.i < length c.args.ws.now = omega (arith, c.loop-i-test.true, c.get16-n.ensures.0, c.requires.room) in
    let w = c.weight_of in (
      filled_next (λ (w : Weight). w.hash) _ l.ws l.invariant.0 t w.result (w.ensures.0 ∙ ap fnv c.code_at.ensures),
      filled_next (λ (w : Weight). w.need) _ l.ws l.invariant.1 t w.result (w.ensures.1 ∙ ap weight c.code_at.ensures),
    )

pub returns : goal.returns
returns c =
    let l = c.loop-i in
    let n = c.get16-n in
    let t : n.result < length c.args.ws.now = omega (arith, n.ensures.0, c.requires.room) in
    let w = c.weight_of-2 in
    record {
      page = c.requires.page;
      good = c.requires.good;
      hashes = told_new (λ (w : Weight). w.hash) fnv c.args.page.now c.args.key.now l.ws l.invariant.0 n.result n.ensures.0 c.loop-i-test.false t w.result w.ensures.0;
      weights = told_new (λ (w : Weight). w.need) weight c.args.page.now c.args.key.now l.ws l.invariant.1 n.result n.ensures.0 c.loop-i-test.false t w.result w.ensures.1;
    }
