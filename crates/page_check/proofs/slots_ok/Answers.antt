-- A turn takes slot i: its word keeps its rules, or the page breaks one.
use Rattle.std.proofs.Common.{◌≡◌, refl, ap, subst, ◌∙◌, ℕ, List, ◌+◌, ◌*◌, ◌-◌, ◌/◌, ◌%◌, ◌<◌, ◌≤◌, length, set, arith}
use Rattle.ground.specs.Lists.{total}
use Rattle.words.specs.Le.{le32}
use Rattle.page.specs.Page.{word}
use Rattle.page_check.specs.Rules.{slot_of, off_of, len_of}
use Rattle.page_check.specs.Table.{HeadKnown, NextOk}
use Rattle.page_check.proofs.Sweep.{swept_none, swept_more, next_of, preceded, led_more, led_none, needs_more, word_is}
use Rattle.page_check.proofs.slots_ok.Goals as goal

-- the slot that a turn takes is slot i
module _ (p t : List ℕ) (n f : ℕ) (h : HeadKnown p t n f) (k i : ℕ) (at : k + 4 * i ≡ length p) (more : length p - 4 * n < k) where
  low : f + 4 * n ≤ length p
  low = omega (arith, h.head.room, h.rows, h.front)

  some : i < n
  some = omega (arith, low)

  here : k - 4 + 4 * (i + 1) ≡ length p
  here = omega (arith, low, some)

  high : 8 ≤ k - 4
  high = omega (arith, low, some, here, h.head.start, h.front)

  number : slot_of p (k - 4) ≡ i
  number = omega (arith, here)

  word_of : (w : ℕ) → w ≡ le32 p (k - 4) → w ≡ word p i
  word_of w e = word_is p i w (e ∙ ap (le32 p) (omega (arith, here)))

pub loop-k-init : goal.loop-k-init
unfolding total
loop-k-init c = (0, omega arith, omega arith, refl, omega arith, swept_none _ _ _ c.requires.zero, led_none _)

pub next_lead-requires : goal.next_lead-requires
next_lead-requires c =
    let p = c.args.page.now in
    let l = c.loop-k.invariant in
    let h = c.requires in
    let b : c.args.f ≤ length p = omega (arith, h.head.room, h.rows, h.front) in
    record {
      before = preceded p _ c.args.f l.0 l.5 (c.loop-k.k - 4) (high p _ _ _ h c.loop-k.k l.0 l.1 c.loop-k-test.true) (here p _ _ _ h c.loop-k.k l.0 l.1 c.loop-k-test.true) b;
      led = rw (number p _ _ _ h c.loop-k.k l.0 l.1 c.loop-k-test.true) l.6;
      room = b;
      most = omega (arith, b, h.head.most);
    }

pub returns-in-None-clause-says : goal.returns-in-None-clause-says
returns-in-None-clause-says c = λ s.
    let p = c.args.page.now in
    let l = c.loop-k.invariant in
    let h = c.requires in
    let e = word_of p _ _ _ h c.loop-k.k l.0 l.1 c.loop-k-test.true c.get32-w.result c.get32-w.ensures.0 in
    let m = some p _ _ _ h c.loop-k.k l.0 l.1 c.loop-k-test.true in
    c.in-None.ensures (rw (number p _ _ _ h c.loop-k.k l.0 l.1 c.loop-k-test.true) (rw e (next_of p _ _ l.0 l.5 h.front (omega (arith, m, h.rows)) s)))

pub loop-k-preserved : goal.loop-k-preserved
loop-k-preserved c =
    let p = c.args.page.now in
    let l = c.loop-k.invariant in
    let i = l.0 in
    let h = c.requires in
    let w = c.get32-w.result in
    let e : w ≡ word p i = word_of p _ _ _ h c.loop-k.k i l.1 c.loop-k-test.true w c.get32-w.ensures.0 in
    let x : NextOk p c.args.f i w = subst (λ j. NextOk p c.args.f j w) (number p _ _ _ h c.loop-k.k i l.1 c.loop-k-test.true) c.in-Some.ensures.0 in
    let one : w / 16384 ≡ 16384 + len_of w = omega (arith, x.sound.kind_one) in
    let v : w / 16384 % 256 ≡ len_of w = omega (arith, one, x.sound.long) in (
      i + 1,
      here p _ _ _ h c.loop-k.k i l.1 c.loop-k-test.true,
      omega (arith, some p _ _ _ h c.loop-k.k i l.1 c.loop-k-test.true),
      omega (arith, needs_more p i w e, l.3, one),
      omega (arith, x.sound.long, l.4, one),
      swept_more p c.loop-k.tab c.args.f i l.5 _ (omega (arith, h.head.room, h.rows, h.front, c.loop-k.auto.tab, h.same))
          (subst (λ y. NextOk p c.args.f i y) e x) (ap (set c.loop-k.tab (off_of w)) v ∙ ap (λ y. set c.loop-k.tab (off_of y) (len_of y)) e),
      led_more p i w _ e c.in-Some.ensures.1,
    )
