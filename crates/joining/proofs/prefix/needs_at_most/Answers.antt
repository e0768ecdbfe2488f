-- Bucket after bucket of the run, each once.
use Rattle.std.proofs.Common.{◌≡◌, refl, ℕ, ◌+◌, ◌-◌, ◌*◌, ◌^◌, ◌≤◌, ◌<◌, List, length, sym, ap, subst, ◌∙◌, arith}
use lib.Pow.{pow_mono, pow_pos}
use Rattle.ground.specs.Lists.{byte}
use Rattle.hash.specs.Fnv.{fnv, fnv_lt}
use Rattle.words.specs.Le.{le16, le32}
use Rattle.partition.specs.Bits.{top}
use Rattle.partition.specs.Partition.{first, after}
use Rattle.partition.specs.declared.Shape.{Shape}
use Rattle.partition.proofs.Sizes.{twelve}
use Rattle.partition.proofs.Tree.{pfx}
use Rattle.query.proofs.Finds.{long_enough, shallow, entry_low}
use Rattle.store.specs.Demands.{Sized}
use Rattle.store.specs.Pages.{size, dir_depth, entry_at, rows_held}
use Rattle.joining.specs.Prefix.{needs_of, Above}
use Rattle.joining.proofs.Runs.{Summed, Step, short, summed_first, summed_most, summed_all, summed_none, summed_page}
use Rattle.joining.proofs.prefix.needs_at_most.Goals as goal

module _ (S : Shape) (s : List ℕ) (x j : ℕ) (R : Sized S × Above S fnv s x j) where
  sized : Sized S
  sized = R.0

  B : Above S fnv s x j
  B = R.1

  long : 3 * size S ≤ length s
  long = long_enough S sized s B.accepted

  -- the run from a to b
  module _ (d : ℕ) (hd : d ≡ dir_depth s) (a b : ℕ) (ha : a ≡ first d (pfx j (top j x))) (hb : b ≡ after d (pfx j (top j x))) (hm : b ≤ 2 ^ d) where
    begins : a ≡ first (dir_depth s) (pfx j (top j x))
    begins = ha ∙ ap (λ d. first d (pfx j (top j x))) hd

    ends : b ≡ after (dir_depth s) (pfx j (top j x))
    ends = hb ∙ ap (λ d. after d (pfx j (top j x))) hd

    most : after (dir_depth s) (pfx j (top j x)) ≤ 2 ^ dir_depth s
    most = subst (λ d. after (dir_depth s) (pfx j (top j x)) ≤ 2 ^ d) hd (omega (arith, ends, hm))

    starts : Summed S fnv s x j a 0
    starts = subst (λ i. Summed S fnv s x j i 0) (sym begins) (summed_first S sized fnv fnv_lt s x j B most)

    over : (i sum : ℕ) → Summed S fnv s x j i sum → b ≤ i → sum ≡ needs_of fnv (rows_held S s) x j
    over i sum K l = summed_all S sized fnv fnv_lt s x j B most i sum (omega (arith, ends, l)) K

    -- entry i of it
    module _ (i : ℕ) (l : i < b) where
      below : i < after (dir_depth s) (pfx j (top j x))
      below = subst (λ m. i < m) ends l

      low : i < S.entries
      low = entry_low S sized s B.accepted 0 i (omega (arith, below, most))

      in_page : size S + 4 * i + 4 ≤ 2 * size S
      in_page = omega (arith, low, sized.whole)

      -- the page p that it names, by the size m that was worked out
      module _ (m : ℕ) (e : m ≡ size S) (p : ℕ) (hp : p ≡ le32 s (m + 4 * i)) (sum : ℕ) (K : Summed S fnv s x j i sum) where
        its : p ≡ entry_at S s i
        its = hp ∙ ap (λ m. le32 s (m + 4 * i)) e

        none : p ≡ 0 → Summed S fnv s x j (i + 1) sum
        none z = summed_none S sized fnv fnv_lt s x j B most i sum below K (sym its ∙ z)

        module _ (n : p ≡ 0 → ⊥) where
          step : Step S fnv s x j i sum p
          step = subst (Step S fnv s x j i sum) (sym its) (summed_page S sized fnv fnv_lt s x j B most i sum below K (λ q. n (its ∙ q)))

          inside : p * m + m ≤ length s
          inside = subst (λ m. p * m + m ≤ length s) (sym e) step.inside

          deep : byte s (p * m + 1) ≤ dir_depth s
          deep = subst (λ m. byte s (p * m + 1) ≤ dir_depth s) (sym e) step.deep

          room : le16 s (p * m + 6) ≤ S.capacity
          room = subst (λ m. le16 s (p * m + 6) ≤ S.capacity) (sym e) step.room

          past : (w : ℕ) → w ≡ 2 ^ (d - byte s (p * m + 1)) → (g : ℕ) → g ≡ le16 s (p * m + 6) → Summed S fnv s x j (i + w) (sum + (S.capacity - g))
          past w hw g hg =
              subst (λ g. Summed S fnv s x j (i + w) (sum + (S.capacity - g))) (sym (hg ∙ ap (λ m. le16 s (p * m + 6)) e))
              (step.past w (hw ∙ ap (λ d. 2 ^ (d - byte s (p * m + 1))) hd ∙ ap (λ m. 2 ^ (dir_depth s - byte s (p * m + 1))) e))

pub run_of-run-requires : goal.run_of-run-requires
run_of-run-requires c =
    let a = c.args in
    let R = c.requires in
    let e : c.get32-d.result ≡ dir_depth a.s.now = c.get32-d.ensures.0 in
    (omega (arith, e, short a.z R.0 fnv fnv_lt a.s.now a.x a.j R.1), omega (arith, e, shallow a.z R.0 a.s.now R.1.accepted, twelve a.z R.0))

pub loop-i-init : goal.loop-i-init
loop-i-init c = let r = c.run_of-run in (starts _ _ _ _ c.requires c.get32-d.result c.get32-d.ensures.0 r.result.from r.result.to r.ensures.0 r.ensures.1 r.ensures.3, omega arith, omega arith)

pub overflow_mul-i : goal.overflow_mul-i
overflow_mul-i c = let r = c.run_of-run in omega (arith, in_page _ _ _ _ c.requires c.get32-d.result c.get32-d.ensures.0 r.result.from r.result.to r.ensures.0 r.ensures.1 r.ensures.3 c.loop-i.i c.loop-i-test.true, c.requires.0.most)

pub overflow_add-size : goal.overflow_add-size
overflow_add-size c =
    let r = c.run_of-run in
    omega (arith, c.size-size.ensures, in_page _ _ _ _ c.requires c.get32-d.result c.get32-d.ensures.0 r.result.from r.result.to r.ensures.0 r.ensures.1 r.ensures.3 c.loop-i.i c.loop-i-test.true, c.requires.0.most)

pub get32-p-requires : goal.get32-p-requires
get32-p-requires c =
    let r = c.run_of-run in
    omega (arith, c.size-size.ensures, in_page _ _ _ _ c.requires c.get32-d.result c.get32-d.ensures.0 r.result.from r.result.to r.ensures.0 r.ensures.1 r.ensures.3 c.loop-i.i c.loop-i-test.true, long _ _ _ _ c.requires)

pub loop-i-preserved-then-p-eq0 : goal.loop-i-preserved-then-p-eq0
loop-i-preserved-then-p-eq0 c =
    let r = c.run_of-run in
    let l = c.loop-i in
    let v = l.invariant in (
      none _ _ _ _ c.requires c.get32-d.result c.get32-d.ensures.0 r.result.from r.result.to r.ensures.0 r.ensures.1 r.ensures.3 l.i c.loop-i-test.true c.size-size.result c.size-size.ensures c.get32-p.result c.get32-p.ensures.0 l.sum v.0 c.if-p-eq0.true,
      v.1,
      omega (arith, v.2),
    )

pub get16-requires : goal.get16-requires
get16-requires c =
    let r = c.run_of-run in
    let l = c.loop-i in
    omega (arith, c.requires.0.least, c.size-size.ensures, inside _ _ _ _ c.requires c.get32-d.result c.get32-d.ensures.0 r.result.from r.result.to r.ensures.0 r.ensures.1 r.ensures.3 l.i c.loop-i-test.true c.size-size.result c.size-size.ensures c.get32-p.result c.get32-p.ensures.0 l.sum l.invariant.0 c.if-p-eq0.false)

pub overflow_sub-sum : goal.overflow_sub-sum
overflow_sub-sum c =
    let r = c.run_of-run in
    let l = c.loop-i in
    omega (arith, c.get16.ensures.0, room _ _ _ _ c.requires c.get32-d.result c.get32-d.ensures.0 r.result.from r.result.to r.ensures.0 r.ensures.1 r.ensures.3 l.i c.loop-i-test.true c.size-size.result c.size-size.ensures c.get32-p.result c.get32-p.ensures.0 l.sum l.invariant.0 c.if-p-eq0.false)

pub overflow_add-sum : goal.overflow_add-sum
overflow_add-sum c =
    let r = c.run_of-run in
    let l = c.loop-i in
    omega (arith, l.invariant.2, low _ _ _ _ c.requires c.get32-d.result c.get32-d.ensures.0 r.result.from r.result.to r.ensures.0 r.ensures.1 r.ensures.3 l.i c.loop-i-test.true, c.requires.0.whole, c.requires.0.most)

pub returns-then-limit-sum : goal.returns-then-limit-sum
returns-then-limit-sum c =
    let a = c.args in
    let r = c.run_of-run in
    let l = c.loop-i in
    let M = most _ _ _ _ c.requires c.get32-d.result c.get32-d.ensures.0 r.result.from r.result.to r.ensures.0 r.ensures.1 r.ensures.3 in
    let P = past _ _ _ _ c.requires c.get32-d.result c.get32-d.ensures.0 r.result.from r.result.to r.ensures.0 r.ensures.1 r.ensures.3 l.i c.loop-i-test.true c.size-size.result c.size-size.ensures c.get32-p.result c.get32-p.ensures.0 l.sum l.invariant.0 c.if-p-eq0.false _ refl c.get16.result c.get16.ensures.0 in
    λ n. omega (arith, n, c.if-limit-sum.true, summed_most a.z c.requires.0 fnv fnv_lt a.s.now a.x a.j c.requires.1 M _ _ P)

pub entries_of-i-requires : goal.entries_of-i-requires
entries_of-i-requires c =
    let a = c.args in
    let r = c.run_of-run in
    let l = c.loop-i in
    let hd : c.get32-d.result ≡ dir_depth a.s.now = c.get32-d.ensures.0 in
    record {
      there = omega (arith, c.requires.0.least, c.size-size.ensures, inside _ _ _ _ c.requires c.get32-d.result hd r.result.from r.result.to r.ensures.0 r.ensures.1 r.ensures.3 l.i c.loop-i-test.true c.size-size.result c.size-size.ensures c.get32-p.result c.get32-p.ensures.0 l.sum l.invariant.0 c.if-p-eq0.false);
      low = omega (arith, hd, deep _ _ _ _ c.requires c.get32-d.result hd r.result.from r.result.to r.ensures.0 r.ensures.1 r.ensures.3 l.i c.loop-i-test.true c.size-size.result c.size-size.ensures c.get32-p.result c.get32-p.ensures.0 l.sum l.invariant.0 c.if-p-eq0.false);
      deep = omega (arith, hd, shallow a.z c.requires.0 a.s.now c.requires.1.accepted, twelve a.z c.requires.0);
    }

pub overflow_add-i-else-p-eq0 : goal.overflow_add-i-else-p-eq0
overflow_add-i-else-p-eq0 c =
    let a = c.args in
    let Z = c.requires.0 in
    let r = c.run_of-run in
    let l = c.loop-i in
    let M = most _ _ _ _ c.requires c.get32-d.result c.get32-d.ensures.0 r.result.from r.result.to r.ensures.0 r.ensures.1 r.ensures.3 in
    let m : 2 ^ dir_depth a.s.now ≤ 2 ^ a.z.deepest = pow_mono (shallow a.z Z a.s.now c.requires.1.accepted) in
    let P = past _ _ _ _ c.requires c.get32-d.result c.get32-d.ensures.0 r.result.from r.result.to r.ensures.0 r.ensures.1 r.ensures.3 l.i c.loop-i-test.true c.size-size.result c.size-size.ensures c.get32-p.result c.get32-p.ensures.0 l.sum l.invariant.0 c.if-p-eq0.false c.entries_of-i.result c.entries_of-i.ensures c.get16.result c.get16.ensures.0 in
    omega (arith, P.to, M, m, Z.deep, Z.whole, Z.most)

pub loop-i-preserved : goal.loop-i-preserved
loop-i-preserved c =
    let r = c.run_of-run in
    let l = c.loop-i in
    let w = c.entries_of-i in
    let P = past _ _ _ _ c.requires c.get32-d.result c.get32-d.ensures.0 r.result.from r.result.to r.ensures.0 r.ensures.1 r.ensures.3 l.i c.loop-i-test.true c.size-size.result c.size-size.ensures c.get32-p.result c.get32-p.ensures.0 l.sum l.invariant.0 c.if-p-eq0.false w.result w.ensures c.get16.result c.get16.ensures.0 in
    let some : 0 < w.result = subst (λ m. 0 < m) (sym w.ensures) (pow_pos _) in
    (P, c.if-limit-sum.false, omega (arith, some, l.invariant.2, c.requires.0.most))

pub returns : goal.returns
returns c =
    let r = c.run_of-run in
    let l = c.loop-i in
    omega (arith, l.invariant.1, over _ _ _ _ c.requires c.get32-d.result c.get32-d.ensures.0 r.result.from r.result.to r.ensures.0 r.ensures.1 r.ensures.3 l.i l.sum l.invariant.0 c.loop-i-test.false)
