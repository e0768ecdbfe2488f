-- `counts::tally_page` meets its contract. Assumes nothing.
use Rattle.std.proofs.Common.{◌≡◌, ℕ, suc, ◌+◌, ◌*◌, ◌≤◌, ◌<◌, List, get_or, arith, sym, ap, ◌∙◌}
use lib.ListN.{set}
use lib.Seq.{get_or-set_other}
use Rattle.ground.specs.Lists.{byte}
use Rattle.page.specs.Page.{depth}
use Rattle.partition.specs.declared.Shape.{Shape}
use Rattle.store.specs.Pages.{size, page, depth_on}
use Rattle.store.proofs.Paging.Depths.{page_byte}
use Rattle.counts.specs.Tallies.{Tallying}
use Rattle.counts.proofs.Adds.{past_free, past_used, is_bucket, few_buckets, few_rows, rows_word}
use Rattle.counts.proofs.tallies.tally_page.Goals as goal

-- a page that is used
module _ (S : Shape) (s tallies : List ℕ) (p : ℕ) (R : Tallying S s p tallies) (used : byte s (p * size S) ≡ 0 → ⊥) where
  deep_is : byte s (p * size S + 1) ≡ depth (page S s p)
  deep_is = sym (page_byte S s p 1 (omega arith))

  deep_low : byte s (p * size S + 1) ≤ 12
  deep_low = omega (arith, deep_is, ap depth_on (is_bucket S s p R.from used), R.shallow)

  few : ((k : ℕ) → byte s k < 256) → get_or tallies 0 0 ≤ 65535 * 4098
  few b = omega (arith, few_rows S s b p tallies R.before, R.few)

  fewer : (n : ℕ) → get_or (set tallies 0 n) (1 + byte s (p * size S + 1)) 0 ≤ 4098
  fewer n =
      let e : suc (byte s (p * size S + 1)) ≡ 1 + byte s (p * size S + 1) = omega arith in
      omega (arith, get_or-set_other tallies 0 (1 + byte s (p * size S + 1)) n 0 (λ q. omega (arith, q)), ap (λ j. get_or tallies j 0) e, few_buckets S s p (byte s (p * size S + 1)) tallies (omega (arith, deep_low)) R.before, R.few)

pub returns-then-s-a-eq0 : goal.returns-then-s-a-eq0
returns-then-s-a-eq0 c = past_free c.args.z c.args.s.now c.args.p c.requires.from c.if-s-a-eq0.true _ c.requires.before

pub overflow_add-tallies : goal.overflow_add-tallies
overflow_add-tallies c = omega (arith, few _ _ _ _ c.requires c.if-s-a-eq0.false (λ k. omega (arith, c.type_inv.s k)), c.get16.ensures.1)

pub bounds-tallies-k : goal.bounds-tallies-k
bounds-tallies-k c = omega (arith, deep_low _ _ _ _ c.requires c.if-s-a-eq0.false)

pub overflow_add-tallies-2 : goal.overflow_add-tallies-2
overflow_add-tallies-2 c = omega (arith, fewer _ _ _ _ c.requires c.if-s-a-eq0.false (get_or c.args.tallies.now 0 0 + c.get16.result))

pub bounds-tallies-k-2 : goal.bounds-tallies-k-2
bounds-tallies-k-2 c = omega (arith, deep_low _ _ _ _ c.requires c.if-s-a-eq0.false)

pub returns : goal.returns
returns c =
    let a = c.args in
    past_used a.z a.s.now a.p c.requires.from c.if-s-a-eq0.false a.tallies.now _ _ (c.get16.ensures.0 ∙ rows_word a.z a.s.now a.p) (ap (λ x. 1 + x) (deep_is _ _ _ _ c.requires c.if-s-a-eq0.false)) (omega (arith, deep_low _ _ _ _ c.requires c.if-s-a-eq0.false)) c.requires.before
