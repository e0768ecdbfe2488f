-- `report::tally::tally`: a row whose place is in the sheet is one code more; at the first that is not, and after the last row, the tally is what was gone through.
use Rattle.std.specs.Prelude.{Some, None}
use Rattle.std.proofs.Common.{◌≡◌, ℕ, ◌*◌, ◌<◌, ◌≤◌, List, length, map, get_or, refl, sym, ap, ◌∙◌, subst, arith}
use lib.ListN.{length-map}
use Rattle.hash.specs.Fnv.{fnv}
use Rattle.page.specs.declared.Place.{Place}
use Rattle.partition.specs.declared.Shape.{Shape}
use Rattle.partition.specs.Partition.{Row}
use Rattle.partition.specs.Listing.{listing}
use Rattle.store.specs.Pages.{rows_held}
use Rattle.query.specs.Cursors.{At}
use Rattle.report.specs.Report.{PlaceAt}
use Rattle.report.specs.Numbers.{rank, rank_on, index_of, Follows, Finds, SheetReady}
use Rattle.report.proofs.Few.{few}
use Rattle.report.proofs.Counts.{counting_next}
use Rattle.report.proofs.Runs.{going_stop, going_end, going_to, listed_below, listed_rank, unlisted}
use Rattle.report.proofs.tally.tally.Invariants.{ranks_in}
use Rattle.report.proofs.tally.tally.Goals as goal

-- before row k, which has the place p
module _ (S : Shape) (s : List ℕ) (k : ℕ) (p : Place) (a : PlaceAt (listing S fnv (rows_held S s)) k p) where
  below : k < length (ranks_in S s)
  below =
      let rs : List Row = listing S fnv (rows_held S s) in
      let l : k < length rs = listed_below rs k a.row a.there in
      let m : length (map rank_on rs) ≡ length rs = length-map rs rank_on in
      omega (arith, l, m)

  its_rank : rank p ≡ get_or {A = ℕ} (ranks_in S s) k 0
  its_rank = ap rank a.is ∙ sym (listed_rank (listing S fnv (rows_held S s)) k a.row a.there)

  few_codes : (ps ls : List ℕ) → SheetReady S s ps ls → k < 5200000
  few_codes ps ls r =
      let rs : List Row = listing S fnv (rows_held S s) in
      let l : k < length rs = listed_below rs k a.row a.there in
      let f : length rs ≤ 5200000 = few S r.sized s r.accepted in
      omega (arith, l, f)

pub returns-in_default-find : goal.returns-in_default-find
returns-in_default-find c =
    let t = c.loop-place.t in
    let ps = c.args.sheet.ranks.now in
    let z = c.args.z in
    let s = c.args.s.now in
    let p = c.in-Some.place in
    let f : Follows z s t.codes (Some (p, c.in-Some.next)) = subst (Follows z s t.codes) c.in-Some.is (c.next_place.ensures t.codes c.loop-place.invariant.2) in
    let w = get_or {A = ℕ} (ranks_in z s) t.codes 0 in
    let none : Finds c.rank_of.result ps None = subst (Finds c.rank_of.result ps) c.in_default-find.is c.find.ensures in
    let past : length ps ≤ index_of w ps = subst (λ (v : ℕ). length ps ≤ index_of v ps) (c.rank_of.ensures ∙ its_rank z s t.codes p f.0) none in
    subst (λ (k : ℕ). PlaceAt (listing z fnv (rows_held z s)) k p) (ap (λ r. r.0) (going_stop c.loop-place.invariant.0 (below z s t.codes p f.0) (index_of w ps) refl past)) f.0

pub count_one-t-requires : goal.count_one-t-requires
count_one-t-requires c =
    let t = c.loop-place.t in
    let ls = c.args.sheet.raised.now in
    let i = c.in-Some-find.i in
    let f : Follows c.args.z c.args.s.now t.codes (Some (c.in-Some.place, c.in-Some.next)) = subst (Follows c.args.z c.args.s.now t.codes) c.in-Some.is (c.next_place.ensures t.codes c.loop-place.invariant.2) in
    let there : i < length ls = omega (arith, c.in-Some-find.ensures.1, c.requires.0.sheet.paired) in
    let x : get_or {A = ℕ} ls i 0 ≤ 2000000000000 = c.requires.0.sheet.sound.amounts.le i there in
    let h : t.sum ≤ t.codes * 2000000000000 = c.loop-place.invariant.0.sum_le in
    let k : t.codes < 5200000 = few_codes c.args.z c.args.s.now t.codes c.in-Some.place f.0 c.args.sheet.ranks.now ls c.requires.0 in
    let w = c.loop-place.invariant.1 in
    record { codes = omega (arith, k); sum = omega (arith, x, h, k); named = omega (arith, k, w.named_le); once = omega (arith, x, h, k, w.once_le); doubled = omega (arith, k, w.doubled_le) }

pub loop-place-smaller : goal.loop-place-smaller
loop-place-smaller c =
    let t = c.loop-place.t in
    let rs = listing c.args.z fnv (rows_held c.args.z c.args.s.now) in
    let f : Follows c.args.z c.args.s.now t.codes (Some (c.in-Some.place, c.in-Some.next)) = subst (Follows c.args.z c.args.s.now t.codes) c.in-Some.is (c.next_place.ensures t.codes c.loop-place.invariant.2) in
    let l : t.codes < length rs = listed_below rs t.codes f.0.row f.0.there in
    omega (arith, l, c.count_one-t.ensures.codes)

pub loop-place-preserved : goal.loop-place-preserved
loop-place-preserved c =
    let t = c.loop-place.t in
    let z = c.args.z in
    let s = c.args.s.now in
    let p = c.in-Some.place in
    let i = c.in-Some-find.i in
    let m = c.requires.0.sheet in
    let f : Follows z s t.codes (Some (p, c.in-Some.next)) = subst (Follows z s t.codes) c.in-Some.is (c.next_place.ensures t.codes c.loop-place.invariant.2) in
    let is : i ≡ index_of (get_or {A = ℕ} (ranks_in z s) t.codes 0) c.args.sheet.ranks.now = c.in-Some-find.ensures.0 ∙ ap (λ (v : ℕ). index_of v c.args.sheet.ranks.now) (c.rank_of.ensures ∙ its_rank z s t.codes p f.0) in
    let there : i < length c.args.sheet.raised.now = omega (arith, c.in-Some-find.ensures.1, m.paired) in
    let r = c.count_one-t.result in
    let o = c.count_one-t.ensures in
    let k = c.mark-m in (
      going_to c.loop-place.invariant.0 (below z s t.codes p f.0) m.sound.amounts m.paired i is c.in-Some-find.ensures.1 k.new.counts k.ensures.1 r.codes r.sum o.codes o.sum,
      counting_next c.loop-place.invariant.1 i there (omega (arith, c.in-Some-find.ensures.1, c.loop-place.invariant.0.len)) k.result k.ensures.0 r o k.new.counts k.ensures.1,
      subst (λ (n : ℕ). At z s n c.in-Some.next) (sym o.codes) f.1,
    )

pub returns : goal.returns
returns c =
    let t = c.loop-place.t in
    let rs = listing c.args.z fnv (rows_held c.args.z c.args.s.now) in
    let f : Follows c.args.z c.args.s.now t.codes None = subst (Follows c.args.z c.args.s.now t.codes) c.in_default.is (c.next_place.ensures t.codes c.loop-place.invariant.2) in
    let e : length rs ≤ t.codes = unlisted rs t.codes f in
    let m : length (map rank_on rs) ≡ length rs = length-map rs rank_on in
    let g = c.loop-place.invariant.0 in
    record { codes = omega (arith, e, g.k_le, m); all = going_end g (omega (arith, e, m)); marks = c.loop-place.invariant.1.marks }
