-- `store::deepest` meets its contract: page after page, the larger depth is kept. Assumes nothing.
use Rattle.std.proofs.Common.{◌≡◌, max, arith, sym, ap, ◌∙◌}
use Rattle.std.proofs.lemmas.Grind.{common_steps}
use Rattle.store.specs.Pages.{size}
use Rattle.store.proofs.Paging.Views.{apart}
use Rattle.store.proofs.Paging.Depths.{deepest_to, deepest_none, deepest_next, deepest_all}
use Rattle.store.proofs.deepest.Goals as goal

pub loop-p-init : goal.loop-p-init
loop-p-init c = (sym (deepest_none _ _), omega arith)

pub depth_of-requires : goal.depth_of-requires
depth_of-requires c = omega (arith, c.requires.0, apart (size c.args.z) c.loop-p.p c.args.n (omega arith))

pub loop-p-preserved : goal.loop-p-preserved
loop-p-preserved c =
    let l = c.loop-p in
    let k = c.depth_of in
    let m : c.max-best.result ≡ max l.best k.result = grind (arith, common_steps, c.max-best.ensures) in
    (m ∙ (λ i. max (l.invariant.0 i) (k.ensures.0 i)) ∙ sym (deepest_next c.args.z c.args.s.now l.p l.auto.p), omega (arith, m, k.ensures.1, l.invariant.1))

pub returns : goal.returns
returns c =
    let l = c.loop-p in
    let e : l.p ≡ c.args.n = omega (arith, c.requires.1, l.auto.p-end c.requires.1) in
    (l.invariant.0 ∙ ap (deepest_to c.args.z c.args.s.now) e ∙ deepest_all c.args.z c.args.s.now c.args.n c.requires.0, l.invariant.1)
