-- What a turn shows of page p, and how each way out ends the pass.
use Rattle.std.proofs.Common.{◌≡◌, refl, sym, ap, subst, ◌∙◌, ℕ, List, ◌-◌, ◌^◌, ◌<◌, ◌≤◌, length, bit_xor, below_more, get_or-set_other, arith}
use mathlib.Core.Logic.{⊎_elim}
use Rattle.ground.proofs.Sides.{side}
use Rattle.hash.specs.Fnv.{fnv}
use Rattle.partition.specs.declared.Shape.{Shape}
use Rattle.partition.specs.Bits.{top}
use Rattle.partition.proofs.Sizes.{twelve}
use Rattle.page.specs.Page.{depth, code}
use Rattle.page_check.proofs.Prefixes.{near}
use Rattle.store.specs.Accepted.{Stands}
use Rattle.store.specs.Pages.{size, page}
use Rattle.store.proofs.Accepted.Unique.{page_long}
use Rattle.store_check.specs.Directory.{NamesCounted, Named}
use Rattle.store_check.specs.Begun.{Begun, FreeAndUnnamed, Own, Pass1}
use Rattle.store_check.specs.Digest.{first_of}
use Rattle.store_check.proofs.Naming.{room}
use Rattle.store_check.proofs.Parting.{hashed_more, hashed_free, first_used}
use Rattle.store_check.proofs.Standing.{ends_bad, Like, free_stands, used_stands, stands_free, stands_own, stands_like, stands_named}
use Rattle.store_check.proofs.pages.first_unsound.Goals as goal

-- hashes that are near are like
module _ (g : List ℕ) (d : ℕ) (own : Own g d) (shallow : d ≤ 12) (one two m i : ℕ) (a : one ≡ fnv (code g 0)) (b : two ≡ fnv (code g i)) (e : m ≡ 2 ^ (32 - depth g)) where
  like_of : bit_xor one two < m → Like g i
  like_of h = ap (top (depth g)) (sym a) ∙ (near (depth g) (omega (arith, own.deep)) one two).0 (subst (λ v. bit_xor one two < v) e h) ∙ ap (top (depth g)) b

  of_like : Like g i → bit_xor one two < m
  of_like h = subst (λ v. bit_xor one two < v) (sym e) ((near (depth g) (omega (arith, own.deep)) one two).1 (ap (top (depth g)) a ∙ h ∙ sym (ap (top (depth g)) b)))

shallow : (S : Shape) (s dir counts tab hashes : List ℕ) (n d : ℕ) → Pass1 S s dir counts n d tab hashes → d ≤ 12
shallow S s dir counts tab hashes n d r = omega (arith, r.begun.deep, twelve S r.begun.sized)

pub pages-preserved-then-pg-eq0 : goal.pages-preserved-then-pg-eq0
pages-preserved-then-pg-eq0 c =
    let a = c.args in
    let b = c.requires.begun in
    let v = c.pages.invariant in
    let f = c.skip_free-q.ensures in
    record {
      tab_long = v.tab_long;
      no_tab = v.no_tab;
      some = omega (arith, f.start, v.some);
      within = omega (arith, f.within, b.number);
      stand = λ k l m. ⊎_elim
          (λ lt. v.stand k lt m)
          (λ ge. free_stands a.z a.s.now a.dir.now a.counts.now a.n a.d k b c.requires.counted m (omega (arith, f.within, b.number)) (page a.z a.s.now k) refl (f.before k l ge))
          (side k c.pages.p);
      hashed = hashed_free a.z a.s.now v.hashed v.no_more (λ k m g. (f.before k m g).zero);
      no_more = λ q m. v.no_more q (omega (arith, f.start));
    }

-- page p, as it is lent
module _ (S : Shape) (s dir : List ℕ) (n d p : ℕ) (b : Begun S s dir n d) (there : p < n) (g : List ℕ) (e : g ≡ page S s p) where
  long : length g ≡ size S
  long = ap length e ∙ page_long S s p (omega (arith, there, b.number))

pub bounds-pg-0 : goal.bounds-pg-0
bounds-pg-0 c = omega (arith, long c.args.z c.args.s.now c.args.dir.now c.args.n c.args.d c.pages.p c.requires.begun c.if-n-p.false c.page_at-pg.result.now c.page_at-pg.ensures, c.requires.begun.sized.least)

pub own_ok-requires : goal.own_ok-requires
own_ok-requires c =
    (c.pages.invariant.tab_long ∙ sym (long c.args.z c.args.s.now c.args.dir.now c.args.n c.args.d c.pages.p c.requires.begun c.if-n-p.false c.page_at-pg.result.now c.page_at-pg.ensures), c.pages.invariant.no_tab)

pub share_limit-m-requires : goal.share_limit-m-requires
share_limit-m-requires c = omega (arith, c.if-not-own_ok.ensures.says.deep, shallow _ _ _ _ _ _ _ _ c.requires)

pub slots-init : goal.slots-init
slots-init c =
    let g = c.page_at-pg.result.now in
    let far = c.near_where_long-near.ensures in λ j h.
    ⊎_elim
    (λ lt. let e : j ≡ 0 = omega arith in rw e refl)
    (λ ge. like_of g c.args.d c.if-not-own_ok.ensures.says (shallow _ _ _ _ _ _ _ _ c.requires) c.hash_slot-first.result (fnv (code g j)) c.share_limit-m.result j c.hash_slot-first.ensures refl c.share_limit-m.ensures (far.near j ge h))
    (side j 1)

pub slots-preserved : goal.slots-preserved
slots-preserved c =
    let g = c.page_at-pg.result.now in
    below_more (Like g) _ c.slots.invariant
    (like_of g c.args.d c.if-not-own_ok.ensures.says (shallow _ _ _ _ _ _ _ _ c.requires) c.hash_slot-first.result c.hash_in_place.result c.share_limit-m.result c.slots.i c.hash_slot-first.ensures c.hash_in_place.ensures c.share_limit-m.ensures c.if-not-differ_below.ensures)

pub named-requires : goal.named-requires
named-requires c =
    let a = c.args in
    let b = c.requires.begun in
    record {
      inside = omega (arith, room a.z b.sized a.d b.deep, b.entries.long);
      few = shallow _ _ _ _ _ _ _ _ c.requires;
      depth = c.if-not-own_ok.ensures.says.deep;
      from = c.pages.invariant.some;
      to = omega (arith, c.if-n-p.false, b.most, c.requires.counted.long);
      beyond = b.beyond;
      counted = subst (λ m. NamesCounted a.dir.now (2 ^ a.d) m a.counts.now) (sym c.requires.counted.long) c.requires.counted;
    }

pub pages-preserved : goal.pages-preserved
pages-preserved c =
    let a = c.args in
    let b = c.requires.begun in
    let v = c.pages.invariant in
    let g = c.page_at-pg.result.now in
    let lent : g ≡ page a.z a.s.now c.pages.p = c.page_at-pg.ensures in
    let x : c.hash_slot-first.result ≡ first_of g = c.hash_slot-first.ensures ∙ sym (first_used g c.if-pg-eq0.false) in
    record {
      tab_long = c.own_ok.auto.tab ∙ v.tab_long;
      no_tab = c.own_ok.ensures.zero;
      some = omega (arith, v.some);
      within = omega (arith, c.if-n-p.false);
      stand = below_more (λ q. 2 ≤ q → Stands a.z fnv a.s.now q) _ v.stand (λ _.
          used_stands a.z a.s.now a.dir.now a.counts.now a.n a.d c.pages.p b c.requires.counted v.some c.if-n-p.false g lent c.if-not-own_ok.ensures.says
          (λ i m. c.slots.invariant i (omega (arith, m, c.get16-count.ensures.0, c.near_where_long-near.ensures.within)))
          (subst (λ y. Named a.dir.now a.d (depth g) (top (depth g) y) c.pages.p) c.hash_slot-first.ensures c.if-not-named.ensures));
      hashed = hashed_more a.z a.s.now v.hashed v.some (omega (arith, c.if-n-p.false, b.most)) (x ∙ ap first_of lent);
      no_more = λ q m. get_or-set_other c.pages.hashes c.pages.p q _ 0 (λ e. omega arith) ∙ v.no_more q (omega arith);
    }

pub returns-then-q-p-clause-first : goal.returns-then-q-p-clause-first
returns-then-q-p-clause-first c =
    let a = c.args in
    let b = c.requires.begun in
    let v = c.pages.invariant in
    let f = c.skip_free-q.ensures in
    let g = c.page_at-pg.result.now in
    let lent : g ≡ page a.z a.s.now c.pages.p = c.page_at-pg.ensures in
    let same : c.skip_free-q.result ≡ c.pages.p = omega (arith, f.start, c.if-q-p.true) in
    ends_bad _ _ c.pages.p v.some c.if-n-p.false v.stand (λ st. f.bad (omega (arith, same, c.if-n-p.false, b.number))
    (subst (λ k. FreeAndUnnamed (page a.z a.s.now k) a.counts.now k) (sym same) (subst (λ y. FreeAndUnnamed y a.counts.now c.pages.p) lent
    (stands_free a.z a.s.now a.dir.now a.counts.now a.n a.d c.pages.p b c.requires.counted v.some c.if-n-p.false g lent c.if-pg-eq0.true st))))

pub returns-then-not-own_ok-clause-first : goal.returns-then-not-own_ok-clause-first
returns-then-not-own_ok-clause-first c =
    let a = c.args in
    let v = c.pages.invariant in
    ends_bad _ _ c.pages.p v.some c.if-n-p.false v.stand (λ st. c.if-not-own_ok.ensures.says
    (stands_own a.z a.s.now a.dir.now a.counts.now a.n a.d c.pages.p c.requires.begun c.requires.counted v.some c.if-n-p.false c.page_at-pg.result.now c.page_at-pg.ensures c.if-pg-eq0.false st))

pub returns-then-not-differ_below-clause-first : goal.returns-then-not-differ_below-clause-first
returns-then-not-differ_below-clause-first c =
    let a = c.args in
    let v = c.pages.invariant in
    let g = c.page_at-pg.result.now in
    ends_bad _ _ c.pages.p v.some c.if-n-p.false v.stand (λ st. c.if-not-differ_below.ensures
    (of_like g a.d c.if-not-own_ok.ensures.says (shallow _ _ _ _ _ _ _ _ c.requires) c.hash_slot-first.result c.hash_in_place.result c.share_limit-m.result c.slots.i c.hash_slot-first.ensures c.hash_in_place.ensures c.share_limit-m.ensures
    (stands_like a.z a.s.now a.dir.now a.counts.now a.n a.d c.pages.p c.requires.begun c.requires.counted v.some c.if-n-p.false g c.page_at-pg.ensures c.if-pg-eq0.false st c.slots.i (omega (arith, c.get16-count.ensures.0)))))

pub returns-then-not-named-clause-first : goal.returns-then-not-named-clause-first
returns-then-not-named-clause-first c =
    let a = c.args in
    let v = c.pages.invariant in
    let g = c.page_at-pg.result.now in
    ends_bad _ _ c.pages.p v.some c.if-n-p.false v.stand (λ st. c.if-not-named.ensures
    (subst (λ y. Named a.dir.now a.d (depth g) (top (depth g) y) c.pages.p) (sym c.hash_slot-first.ensures)
    (stands_named a.z a.s.now a.dir.now a.counts.now a.n a.d c.pages.p c.requires.begun c.requires.counted v.some c.if-n-p.false g c.page_at-pg.ensures c.if-pg-eq0.false st)))

pub returns-then-n-p-clause-first : goal.returns-then-n-p-clause-first
returns-then-n-p-clause-first c q a b = c.pages.invariant.stand q (omega (arith, b, c.if-n-p.true)) a
