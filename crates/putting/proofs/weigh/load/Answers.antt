-- `putting::load` meets its contract: what is added up and what is left are all. Assumes nothing.
use Rattle.std.proofs.Common.{◌≡◌, ℕ, ◌≤◌, ◌<◌, List, map, get_or, arith, ◌∙◌}
use Rattle.hash.specs.Fnv.{fnv}
use Rattle.page.specs.Page.{count, rows}
use Rattle.store.specs.Pages.{as_row}
use Rattle.putting.proofs.Weighs.{slot_at, new_at, light, load_cons, slot_told, new_told, load_slot, load_end}
use Rattle.putting.specs.declared.weigh.Weight.{Weight}
use Rattle.putting.specs.Split.{weight, keyed, Weighed}
use Rattle.putting.proofs.weigh.load.Goals as goal

abbrev none : Weight
none = record { hash = 0; need = 0 }

module _ (page key : List ℕ) (ws : List Weight) (W : Weighed fnv page key ws) where
  -- what a slot's row needs, and the new one
  slot_low : (i r : ℕ) → i < count page → r ≤ (get_or ws i none).need → r ≤ 76
  slot_low i r l m = omega (arith, m, slot_at weight (λ (w : Weight). w.need) page ws none W.weights.rows i l, light page i W.page l)

  new_low : (n r : ℕ) → n ≡ count page → r ≤ (get_or ws n none).need → r ≤ 76
  new_low n r e m = omega (arith, m, new_at weight (λ (w : Weight). w.need) page ws none key W.weights n e, W.good.most)

pub loop-i-init : goal.loop-i-init
loop-i-init c =
    let a = c.args in
    let W = c.requires.0 in
    let n = c.get16-n in
    let r = c.need_of-sum in
    let e = r.ensures.0 ∙ new_told fnv a.page.now a.key.now a.ws.now none a.k a.v W.hashes W.weights n.result n.ensures.0 in
    (new_low a.page.now a.key.now a.ws.now W n.result r.result n.ensures.0 r.ensures.1, omega (arith, e, load_cons fnv (keyed a.key.now) (map as_row (rows a.page.now)) a.k a.v))

pub overflow_add-sum : goal.overflow_add-sum
overflow_add-sum c =
    let a = c.args in
    let W = c.requires.0 in
    let t : c.loop-i.i < count a.page.now = omega (arith, c.get16-n.ensures.0, c.loop-i-test.true) in
    omega (arith, slot_low a.page.now a.key.now a.ws.now W c.loop-i.i c.need_of-sum-in-loop-i.result t c.need_of-sum-in-loop-i.ensures.1, c.loop-i.invariant.0, t, W.page.room, W.page.most)

pub loop-i-preserved : goal.loop-i-preserved
loop-i-preserved c =
    let a = c.args in
    let W = c.requires.0 in
    let l = c.loop-i in
    let r = c.need_of-sum-in-loop-i in
    let t : l.i < count a.page.now = omega (arith, c.get16-n.ensures.0, c.loop-i-test.true) in
    let e = r.ensures.0 ∙ slot_told fnv a.page.now a.key.now a.ws.now none a.k a.v W.hashes W.weights l.i t in
    (omega (arith, slot_low a.page.now a.key.now a.ws.now W l.i r.result t r.ensures.1, l.invariant.0), omega (arith, e, l.invariant.1, load_slot fnv a.page.now l.i a.k a.v t))

pub returns : goal.returns
returns c =
    let a = c.args in
    let l = c.loop-i in
    let e : l.i ≡ count a.page.now = omega (arith, c.get16-n.ensures.0, l.auto.i-end, c.loop-i-test.false) in
    omega (arith, l.invariant.1, load_end fnv a.page.now l.i a.k a.v e)
