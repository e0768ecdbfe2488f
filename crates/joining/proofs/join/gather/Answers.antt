-- Entry after entry that the prefix calls for.
use Rattle.std.proofs.Common.{◌≡◌, refl, ℕ, ◌+◌, ◌*◌, ◌^◌, ◌≤◌, ◌<◌, min, List, length, replicate, sym, ap, subst, ◌∙◌, arith, rules}
use Rattle.std.proofs.Math.Pow.{pow_mono}
use Rattle.ground.proofs.Tests.{says_true, says_false}
use Rattle.hash.specs.Fnv.{fnv}
use Rattle.words.specs.Le.{le32}
use Rattle.words.proofs.Bytes.{le32_same}
use Rattle.partition.specs.Bits.{top}
use Rattle.partition.specs.Partition.{first, after}
use Rattle.partition.specs.declared.Shape.{Shape}
use Rattle.partition.proofs.Directory.{holds_range}
use Rattle.partition.proofs.Maps.{cut}
use Rattle.partition.proofs.Sizes.{twelve}
use Rattle.partition.proofs.Tree.{pfx}
use Rattle.store.specs.Accepted.{Calls}
use Rattle.store.specs.Pages.{size, page, dir_depth, entry_at, set_page}
use Rattle.joining.specs.Join.{Gathered, PageTaking, Used, Prefixed, rows_at}
use Rattle.joining.proofs.Prefixes.{page_there}
use Rattle.joining.proofs.Empties.{Taken, taken_none, entry_there, taken_skip, page_taking, taken_next, taken_emptied, taken_all, taken_low}
use Rattle.joining.proofs.join.gather.Goals as goal

module _ (S : Shape) (s : List ℕ) (n x j : ℕ) (P : Prefixed S fnv s n x j) where
  two : 2 * size S ≤ length s
  two = omega (arith, page_there S s n P.sound 1 (omega (arith, P.sound.least)))

  -- an entry of the run is one that the prefix calls for
  turn : (d : ℕ) → d ≡ dir_depth s → (a b : ℕ) → a ≡ first d (pfx j (top j x)) → b ≡ after d (pfx j (top j x)) → b ≤ 2 ^ d → (i : ℕ) → a ≤ i → i < b → Calls (dir_depth s) j (top j x) i
  turn d deep a b begins ends most i lo hi = subst (λ m. Calls m j (top j x) i) deep (record {
    below = omega (arith, hi, most);
    bits = (holds_range d i (pfx j (top j x))).1 (omega (arith, begins, lo), omega (arith, hi, ends));
  })

  module _ (i : ℕ) (calls : Calls (dir_depth s) j (top j x) i) where
    entry : i < S.entries
    entry = let m : 2 ^ dir_depth s ≤ 2 ^ S.deepest = pow_mono P.deep in omega (arith, m, calls.below, P.sized.deep)

    module _ (key onto : List ℕ) (low : ℕ) (to t : List ℕ) (K : Taken S fnv s n x j key onto i low to t) where
      inside : size S + 4 * i + 4 ≤ length t
      inside = omega (arith, entry, P.sized.whole, two, K.long)

      -- the page that it names
      its : (z k p : ℕ) → z ≡ size S → k ≡ i → p ≡ le32 t (z + 4 * k) → p ≡ entry_at S s i
      its z k p e f g =
          let w : z + 4 * k ≡ size S + 4 * i = omega (arith, e, f) in
          g ∙ ap (le32 t) w ∙ le32_same s t (size S + 4 * i) (λ m l. K.start (size S + 4 * i + m) (omega (arith, entry, P.sized.whole)))

pub run_of-requires : goal.run_of-requires
run_of-requires c =
    let P = c.requires.0.joinable.prefix in
    let e : c.get32-d.result ≡ dir_depth c.args.s.now = c.get32-d.ensures.0 in
    (omega (arith, e, P.bits), omega (arith, e, P.deep, twelve c.args.z P.sized))

pub get32-d-requires : goal.get32-d-requires
get32-d-requires c = let a = c.args in let P = c.requires.0.joinable.prefix in omega (arith, two a.z a.s.now a.of.n a.of.x a.of.j P, P.sized.least)

pub loop-i-init : goal.loop-i-init
loop-i-init c =
    let a = c.args in
    let P = c.requires.0.joinable.prefix in
    let g = c.into_iter-i-iterator.ensures.into_iter_gives in
    let r = c.run_of.ensures in
    let es = c.entries-i-items.ensures in (
      taken_none a.z fnv a.s.now a.of.n a.of.x a.of.j P a.of.key.now a.to.now c.into_iter-i-iterator.result.start (ap (λ y. y.start) g ∙ es.0 ∙ r.0 ∙ ap (λ m. first m (pfx a.of.j (top a.of.j a.of.x))) c.get32-d.ensures.0) c.requires.1,
      c.requires.0.counted,
      omega arith,
      omega (arith, r.2, es.0, es.1, ap (λ y. y.start) g, ap (λ y. y.end) g),
      refl,
    )

pub overflow_mul-i : goal.overflow_mul-i
overflow_mul-i c =
    let a = c.args in
    let P = c.requires.0.joinable.prefix in
    let v = c.loop-i.invariant in
    let r = c.run_of.ensures in
    let es = c.entries-i-items.ensures in
    let g = c.into_iter-i-iterator.ensures.into_iter_gives in
    let at : c.in-Some.i ≡ c.loop-i.i-iterator.start = search rules in
    let more : c.loop-i.i-iterator.start < c.loop-i.i-iterator.end = search rules in
    let k = turn a.z a.s.now a.of.n a.of.x a.of.j P _ c.get32-d.ensures.0 _ _ r.0 r.1 r.3 c.loop-i.i-iterator.start (omega (arith, v.2, es.0, ap (λ y. y.start) g)) (omega (arith, more, v.4, es.1, ap (λ y. y.end) g)) in
    omega (arith, at, entry a.z a.s.now a.of.n a.of.x a.of.j P c.loop-i.i-iterator.start k, P.sized.whole, P.sized.most)

pub overflow_add-size : goal.overflow_add-size
overflow_add-size c =
    let a = c.args in
    let P = c.requires.0.joinable.prefix in
    let v = c.loop-i.invariant in
    let r = c.run_of.ensures in
    let es = c.entries-i-items.ensures in
    let g = c.into_iter-i-iterator.ensures.into_iter_gives in
    let at : c.in-Some.i ≡ c.loop-i.i-iterator.start = search rules in
    let more : c.loop-i.i-iterator.start < c.loop-i.i-iterator.end = search rules in
    let k = turn a.z a.s.now a.of.n a.of.x a.of.j P _ c.get32-d.ensures.0 _ _ r.0 r.1 r.3 c.loop-i.i-iterator.start (omega (arith, v.2, es.0, ap (λ y. y.start) g)) (omega (arith, more, v.4, es.1, ap (λ y. y.end) g)) in
    omega (arith, at, c.size.ensures, entry a.z a.s.now a.of.n a.of.x a.of.j P c.loop-i.i-iterator.start k, P.sized.whole, P.sized.most)

pub get32-p-requires : goal.get32-p-requires
get32-p-requires c =
    let a = c.args in
    let P = c.requires.0.joinable.prefix in
    let v = c.loop-i.invariant in
    let r = c.run_of.ensures in
    let es = c.entries-i-items.ensures in
    let g = c.into_iter-i-iterator.ensures.into_iter_gives in
    let at : c.in-Some.i ≡ c.loop-i.i-iterator.start = search rules in
    let more : c.loop-i.i-iterator.start < c.loop-i.i-iterator.end = search rules in
    let k = turn a.z a.s.now a.of.n a.of.x a.of.j P _ c.get32-d.ensures.0 _ _ r.0 r.1 r.3 c.loop-i.i-iterator.start (omega (arith, v.2, es.0, ap (λ y. y.start) g)) (omega (arith, more, v.4, es.1, ap (λ y. y.end) g)) in
    omega (arith, at, c.size.ensures, inside a.z a.s.now a.of.n a.of.x a.of.j P c.loop-i.i-iterator.start k a.of.key.now a.to.now c.loop-i.low c.loop-i.to c.loop-i.s v.0)

pub is_used-requires : goal.is_used-requires
is_used-requires c =
    let a = c.args in
    let P = c.requires.0.joinable.prefix in
    let v = c.loop-i.invariant in
    let r = c.run_of.ensures in
    let es = c.entries-i-items.ensures in
    let g = c.into_iter-i-iterator.ensures.into_iter_gives in
    let at : c.in-Some.i ≡ c.loop-i.i-iterator.start = search rules in
    let more : c.loop-i.i-iterator.start < c.loop-i.i-iterator.end = search rules in
    let k = turn a.z a.s.now a.of.n a.of.x a.of.j P _ c.get32-d.ensures.0 _ _ r.0 r.1 r.3 c.loop-i.i-iterator.start (omega (arith, v.2, es.0, ap (λ y. y.start) g)) (omega (arith, more, v.4, es.1, ap (λ y. y.end) g)) in
    let e = its a.z a.s.now a.of.n a.of.x a.of.j P c.loop-i.i-iterator.start k a.of.key.now a.to.now c.loop-i.low c.loop-i.to c.loop-i.s v.0 _ _ _ c.size.ensures at c.get32-p.ensures.0 in
    subst (λ m. m * size a.z + size a.z ≤ length c.loop-i.s) (sym e) (entry_there a.z fnv a.s.now a.of.n a.of.x a.of.j P a.of.key.now a.to.now c.loop-i.i-iterator.start c.loop-i.low c.loop-i.to c.loop-i.s v.0 k)

pub take_page-low-requires : goal.take_page-low-requires
take_page-low-requires c =
    let a = c.args in
    let P = c.requires.0.joinable.prefix in
    let v = c.loop-i.invariant in
    let r = c.run_of.ensures in
    let es = c.entries-i-items.ensures in
    let g = c.into_iter-i-iterator.ensures.into_iter_gives in
    let at : c.in-Some.i ≡ c.loop-i.i-iterator.start = search rules in
    let more : c.loop-i.i-iterator.start < c.loop-i.i-iterator.end = search rules in
    let k = turn a.z a.s.now a.of.n a.of.x a.of.j P _ c.get32-d.ensures.0 _ _ r.0 r.1 r.3 c.loop-i.i-iterator.start (omega (arith, v.2, es.0, ap (λ y. y.start) g)) (omega (arith, more, v.4, es.1, ap (λ y. y.end) g)) in
    let e = its a.z a.s.now a.of.n a.of.x a.of.j P c.loop-i.i-iterator.start k a.of.key.now a.to.now c.loop-i.low c.loop-i.to c.loop-i.s v.0 _ _ _ c.size.ensures at c.get32-p.ensures.0 in
    let u : Used a.z c.loop-i.s (entry_at a.z a.s.now c.loop-i.i-iterator.start) = subst (Used a.z c.loop-i.s) e (says_true {P = Used a.z c.loop-i.s c.get32-p.result} c.is_used.result c.if-is_used.true c.is_used.ensures) in (
      subst (λ m. PageTaking a.z c.loop-i.to c.loop-i.s m a.of.key.now) (sym e) (page_taking a.z fnv a.s.now a.of.n a.of.x a.of.j P a.of.key.now a.to.now c.loop-i.i-iterator.start c.loop-i.low c.loop-i.to c.loop-i.s v.0 k u c.requires.1),
      v.1,
    )

pub loop-i-preserved-then-is_used : goal.loop-i-preserved-then-is_used
loop-i-preserved-then-is_used c =
    let a = c.args in
    let P = c.requires.0.joinable.prefix in
    let v = c.loop-i.invariant in
    let r = c.run_of.ensures in
    let es = c.entries-i-items.ensures in
    let g = c.into_iter-i-iterator.ensures.into_iter_gives in
    let at : c.in-Some.i ≡ c.loop-i.i-iterator.start = search rules in
    let more : c.loop-i.i-iterator.start < c.loop-i.i-iterator.end = search rules in
    let k = turn a.z a.s.now a.of.n a.of.x a.of.j P _ c.get32-d.ensures.0 _ _ r.0 r.1 r.3 c.loop-i.i-iterator.start (omega (arith, v.2, es.0, ap (λ y. y.start) g)) (omega (arith, more, v.4, es.1, ap (λ y. y.end) g)) in
    let e = its a.z a.s.now a.of.n a.of.x a.of.j P c.loop-i.i-iterator.start k a.of.key.now a.to.now c.loop-i.low c.loop-i.to c.loop-i.s v.0 _ _ _ c.size.ensures at c.get32-p.ensures.0 in
    let u : Used a.z c.loop-i.s (entry_at a.z a.s.now c.loop-i.i-iterator.start) = subst (Used a.z c.loop-i.s) e (says_true {P = Used a.z c.loop-i.s c.get32-p.result} c.is_used.result c.if-is_used.true c.is_used.ensures) in
    let next : c.next.new.self.start ≡ c.loop-i.i-iterator.start + 1 = search rules in
    let end : c.next.new.self.end ≡ c.loop-i.i-iterator.end = search rules in
    let w = c.take_page-low in (
      subst (λ m. Taken a.z fnv a.s.now a.of.n a.of.x a.of.j a.of.key.now a.to.now m w.result w.new.to w.new.s) (sym next)
          (subst (Taken a.z fnv a.s.now a.of.n a.of.x a.of.j a.of.key.now a.to.now (c.loop-i.i-iterator.start + 1) w.result w.new.to) (sym (w.ensures.wrote ∙ ap (λ m. set_page a.z c.loop-i.s m (replicate (size a.z) 0)) e))
          (taken_next a.z fnv a.s.now a.of.n a.of.x a.of.j P a.of.key.now a.to.now c.loop-i.i-iterator.start c.loop-i.low c.loop-i.to c.loop-i.s v.0 k u w.result w.new.to
          (subst (λ m. Gathered c.loop-i.to (cut a.of.key.now (rows_at (page a.z c.loop-i.s m))) w.new.to) e w.ensures.gathered) (w.ensures.lowest ∙ ap (min c.loop-i.low) e))),
      w.ensures.counted,
      omega (arith, next, v.2),
      omega (arith, next, end, more),
      end ∙ v.4,
    )

pub loop-i-preserved : goal.loop-i-preserved
loop-i-preserved c =
    let a = c.args in
    let P = c.requires.0.joinable.prefix in
    let v = c.loop-i.invariant in
    let r = c.run_of.ensures in
    let es = c.entries-i-items.ensures in
    let g = c.into_iter-i-iterator.ensures.into_iter_gives in
    let at : c.in-Some.i ≡ c.loop-i.i-iterator.start = search rules in
    let more : c.loop-i.i-iterator.start < c.loop-i.i-iterator.end = search rules in
    let k = turn a.z a.s.now a.of.n a.of.x a.of.j P _ c.get32-d.ensures.0 _ _ r.0 r.1 r.3 c.loop-i.i-iterator.start (omega (arith, v.2, es.0, ap (λ y. y.start) g)) (omega (arith, more, v.4, es.1, ap (λ y. y.end) g)) in
    let e = its a.z a.s.now a.of.n a.of.x a.of.j P c.loop-i.i-iterator.start k a.of.key.now a.to.now c.loop-i.low c.loop-i.to c.loop-i.s v.0 _ _ _ c.size.ensures at c.get32-p.ensures.0 in
    let next : c.next.new.self.start ≡ c.loop-i.i-iterator.start + 1 = search rules in
    let end : c.next.new.self.end ≡ c.loop-i.i-iterator.end = search rules in (
      subst (λ m. Taken a.z fnv a.s.now a.of.n a.of.x a.of.j a.of.key.now a.to.now m c.loop-i.low c.loop-i.to c.loop-i.s) (sym next)
          (taken_skip a.z fnv a.s.now a.of.n a.of.x a.of.j P a.of.key.now a.to.now c.loop-i.i-iterator.start c.loop-i.low c.loop-i.to c.loop-i.s v.0 k
          (λ u. says_false {P = Used a.z c.loop-i.s c.get32-p.result} c.is_used.result c.if-is_used.false c.is_used.ensures (subst (Used a.z c.loop-i.s) (sym e) u))),
      v.1,
      omega (arith, next, v.2),
      omega (arith, next, end, more),
      end ∙ v.4,
    )

pub returns-clause-gathered : goal.returns-clause-gathered
returns-clause-gathered c =
    let a = c.args in
    let P = c.requires.0.joinable.prefix in
    let l = c.loop-i in
    let r = c.run_of.ensures in
    let es = c.entries-i-items.ensures in
    let g = c.into_iter-i-iterator.ensures.into_iter_gives in
    let past : l.i-iterator.end ≤ l.i-iterator.start = search rules in
    let done : after (dir_depth a.s.now) (pfx a.of.j (top a.of.j a.of.x)) ≤ l.i-iterator.start = omega (arith, r.1 ∙ ap (λ m. after m (pfx a.of.j (top a.of.j a.of.x))) c.get32-d.ensures.0, past, l.invariant.4, es.1, ap (λ y. y.end) g) in
    taken_all a.z fnv a.s.now a.of.n a.of.x a.of.j P a.of.key.now a.to.now l.i-iterator.start l.low l.to l.s l.invariant.0 done

pub returns-clause-cleared : goal.returns-clause-cleared
returns-clause-cleared c =
    let a = c.args in
    let P = c.requires.0.joinable.prefix in
    let l = c.loop-i in
    let r = c.run_of.ensures in
    let es = c.entries-i-items.ensures in
    let g = c.into_iter-i-iterator.ensures.into_iter_gives in
    let past : l.i-iterator.end ≤ l.i-iterator.start = search rules in
    let done : after (dir_depth a.s.now) (pfx a.of.j (top a.of.j a.of.x)) ≤ l.i-iterator.start = omega (arith, r.1 ∙ ap (λ m. after m (pfx a.of.j (top a.of.j a.of.x))) c.get32-d.ensures.0, past, l.invariant.4, es.1, ap (λ y. y.end) g) in
    taken_emptied a.z fnv a.s.now a.of.n a.of.x a.of.j P a.of.key.now a.to.now l.i-iterator.start l.low l.to l.s l.invariant.0 done

pub returns-clause-lowest : goal.returns-clause-lowest
returns-clause-lowest c =
    let a = c.args in
    let P = c.requires.0.joinable.prefix in
    let l = c.loop-i in
    let r = c.run_of.ensures in
    let es = c.entries-i-items.ensures in
    let g = c.into_iter-i-iterator.ensures.into_iter_gives in
    let past : l.i-iterator.end ≤ l.i-iterator.start = search rules in
    let done : after (dir_depth a.s.now) (pfx a.of.j (top a.of.j a.of.x)) ≤ l.i-iterator.start = omega (arith, r.1 ∙ ap (λ m. after m (pfx a.of.j (top a.of.j a.of.x))) c.get32-d.ensures.0, past, l.invariant.4, es.1, ap (λ y. y.end) g) in
    taken_low a.z fnv a.s.now a.of.n a.of.x a.of.j P a.of.key.now a.to.now l.i-iterator.start l.low l.to l.s l.invariant.0 done c.requires.0.joinable.there
