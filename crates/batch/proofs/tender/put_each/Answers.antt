-- `batch::put_each` meets its contract. Assumes nothing.
use Prim.Native.Nat.{◌+◌, ◌-◌, ◌<◌}
use mathlib.Core.Path.{◌≡◌, subst, ◌∙◌}
use native.Mathlib.Omega.{arith}
use lib.ListN.{length, drop, get_or, take, length-set}
use Rattle.hash.specs.Fnv.{fnv}
use Rattle.batch.specs.PlaceWords.{word_place}
use Rattle.batch.specs.Batch.{wanted, OnePut}
use Rattle.batch.proofs.Sums.{sum_from}
use Rattle.batch.proofs.Chains.{left_from, nth, first_left, nothing_left, Made_to, made_more, made_all, one_again}
use Rattle.batch.proofs.tender.put_each.Goals as goal

pub loop-i-preserved : goal.loop-i-preserved
loop-i-preserved c =
    let z = c.args.z in
    let codes = c.args.codes.now in
    let lengths = c.args.lengths.now in
    let places = c.args.places.now in
    let m = c.args.mode in
    let s = c.args.s.now in
    let l = c.loop-i in
    let w = c.put_word in
    let b : l.i < length c.args.lengths.now = c.loop-i-test.true in
    let e : l.at + get_or c.args.lengths.now l.i 0 - l.at ≡ get_or c.args.lengths.now l.i 0 = omega arith in
    let one : OnePut z fnv m (nth codes lengths places l.at l.i) l.s w.result w.new.s =
    subst (λ k. OnePut z fnv m (record { code = take k (drop l.at codes); place = word_place (get_or places l.i 0) }) l.s w.result w.new.s) e w.ensures in
    let made = one_again z fnv m (wanted codes lengths places) s (nth codes lengths places l.at l.i) l.s w.result w.new.s l.invariant.3 one in
    let before = subst (λ r. Made_to z fnv m (wanted codes lengths places) s r l.i l.answers l.s) (first_left codes lengths places l.at l.i b (omega (arith, c.requires.1.places))) l.invariant.4 in (
      omega (arith, sum_from c.args.lengths.now l.i b, l.invariant.0),
      length-set l.answers l.i w.result ∙ l.invariant.1,
      made.1 ∙ l.invariant.2,
      made.0,
      made_more z fnv m (wanted codes lengths places) s (nth codes lengths places l.at l.i) (left_from codes lengths places (l.at + get_or lengths l.i 0) (l.i + 1)) l.i
          l.answers l.s before (omega (arith, c.requires.1.answers, l.invariant.1, b)) w.result w.new.s one,
    )

pub returns : goal.returns
returns c =
    let a = c.args in
    let l = c.loop-i in
    let e = c.loop-i-test.false in
    made_all a.z fnv a.mode (wanted a.codes.now a.lengths.now a.places.now) a.s.now (left_from a.codes.now a.lengths.now a.places.now l.at l.i)
    l.i l.answers l.s l.invariant.4 (nothing_left a.codes.now a.lengths.now a.places.now l.at l.i e)
    (omega (arith, c.requires.1.answers, l.invariant.1, e))
