-- `putting::write_below` meets its contract, by the cases of `below`. Assumes nothing.
use Rattle.std.proofs.Common.{◌≡◌, ℕ, ◌+◌, ◌*◌, ◌^◌, ◌≤◌, ◌<◌, List, map, length, arith, refl, sym, ap, ◌∙◌}
use lib.Pow.{pow_mono}
use Rattle.putting.proofs.Splits.{bare_wrote, deep_wrote, one_free, one_wrote, half_ready, other_ready, both_wrote}
use Rattle.putting.proofs.Weighs.{load_any}
use Rattle.putting.proofs.Puts.{lent_by, back_by, inside_by}
use Rattle.putting.specs.Put.{new_row}
use Rattle.putting.specs.declared.weigh.Weight.{Weight}
use Rattle.putting.specs.Split.{keyed, with_new, Bucketed, Spread, BucketsWritten}
use Rattle.store.proofs.Accepted.Unique.{within, page_long}
use Rattle.store.proofs.Paging.Views.{set_long}
use Rattle.store.specs.Pages.{page, as_row}
use Rattle.partition.proofs.Sizes.{twelve}
use Rattle.partition.specs.declared.Shape.{Shape}
use Rattle.partition.specs.Partition.{Row, needs, rows_of}
use Rattle.page.specs.Page.{rows}
use Rattle.hash.specs.Fnv.{fnv}
use Rattle.putting.proofs.split.+write_below.Goals as goal

-- what the rows of the prefix need
module _ (S : Shape) (d : ℕ) (s from : List ℕ) (i : ℕ) (key place : List ℕ) (ws : List Weight) (k v at : ℕ) (C : Spread S fnv d s from i key place ws k v at) where
  abbrev rs : List Row
  rs = with_new from (new_row key place)

  low : k ≤ 12
  low = omega (arith, C.writable.prefix.deep, twelve S C.writable.prefix.sized)

  small : v < 4096
  small = let m : 2 ^ k ≤ 2 ^ 12 = pow_mono low in omega (arith, C.writable.prefix.bits)

  module _ (n : ℕ) (w : n ≡ needs (rows_of fnv (with_new from (keyed key)) k v)) where
    weight : n ≡ needs (rows_of fnv rs k v)
    weight = let l : List Row = map as_row (rows from) in w ∙ load_any fnv (keyed key) (new_row key place) refl l l k v refl

    bare : n ≡ 0 → BucketsWritten S fnv d rs k v s at s at
    bare e = bare_wrote S fnv d rs k v s at C.depth C.writable (sym weight ∙ e)

    -- the rows fit: one bucket
    module _ (some : n ≡ 0 → ⊥) (fit : n ≤ S.capacity) where
      pos : 0 < needs (rows_of fnv rs k v)
      pos = omega (arith, weight, some)

      most : needs (rows_of fnv rs k v) ≤ S.capacity
      most = omega (arith, weight)

    -- they do not
    module _ (o : S.capacity < n) where
      over : S.capacity < needs (rows_of fnv rs k v)
      over = omega (arith, weight)

      deepest : k ≡ S.deepest → BucketsWritten S fnv d rs k v s at s at
      deepest e = deep_wrote S fnv d rs k v s at C.depth C.writable over e

      -- two halves
      module _ (more : k ≡ S.deepest → ⊥) where
        shallow : k < S.deepest
        shallow = omega (arith, C.writable.prefix.deep, more)

        left : Spread S fnv d s from i key place ws (k + 1) (2 * v) at
        left = record { depth = C.depth; source = C.source; weighed = C.weighed; writable = half_ready S fnv d rs k v s at C.depth C.writable shallow over }

        module _ (t : List ℕ) (p : ℕ) (A : BucketsWritten S fnv d rs (k + 1) (2 * v) s at t p) where
          right : Spread S fnv d t from i key place ws (k + 1) (2 * v + 1) p
          right = record { depth = C.depth; source = C.source; weighed = C.weighed; writable = other_ready S fnv d rs k v s at C.depth C.writable shallow over t p A }

          whole : (u : List ℕ) (q : ℕ) → BucketsWritten S fnv d rs (k + 1) (2 * v + 1) t p u q → BucketsWritten S fnv d rs k v s at u q
          whole u q B = both_wrote S fnv d rs k v s at C.depth C.writable shallow over t p A u q B

pub load-need-requires : goal.load-need-requires
load-need-requires t c = (c.requires.weighed, low _ _ _ _ _ _ _ _ _ _ _ c.requires)

pub returns-then-need-eq0 : goal.returns-then-need-eq0
returns-then-need-eq0 t c = bare _ _ _ _ _ _ _ _ _ _ _ c.requires c.load-need.result c.load-need.ensures c.if-need-eq0.true

pub next_page-p-requires : goal.next_page-p-requires
next_page-p-requires t c =
    let a = c.args in
    let C = c.requires in
    let W = C.writable in
    let w = c.load-need in
    let n = c.if-need-eq0.false in
    let l = c.if-need-z.true in
    record {
      from = W.from;
      to = W.to;
      free = one_free a.z fnv a.d (with_new a.rows.from.now (new_row a.rows.row.code.now a.rows.row.place.now)) a.k a.v a.s.now a.at C.depth W
          (pos _ _ _ _ _ _ _ _ _ _ _ C w.result w.ensures n l) (most _ _ _ _ _ _ _ _ _ _ _ C w.result w.ensures n l);
    }

-- the page that is taken
pub overflow_mul-start : goal.overflow_mul-start
overflow_mul-start t c = let e = c.size-size.ensures in omega (arith, inside_by c.args.z c.args.s.now c.next_page-p.result c.size-size.result e (within c.args.z c.args.s.now c.next_page-p.result c.next_page-p.ensures.1))

pub overflow_add-start : goal.overflow_add-start
overflow_add-start t c = let e = c.size-size.ensures in omega (arith, inside_by c.args.z c.args.s.now c.next_page-p.result c.size-size.result e (within c.args.z c.args.s.now c.next_page-p.result c.next_page-p.ensures.1))

pub slice_bounds-write_bucket-end : goal.slice_bounds-write_bucket-end
slice_bounds-write_bucket-end t c = let e = c.size-size.ensures in omega (arith, inside_by c.args.z c.args.s.now c.next_page-p.result c.size-size.result e (within c.args.z c.args.s.now c.next_page-p.result c.next_page-p.ensures.1))

pub write_bucket-requires : goal.write_bucket-requires
write_bucket-requires t c =
    let a = c.args in
    let C = c.requires in
    let p = c.next_page-p.result in
    let w = c.load-need in
    let n = c.if-need-eq0.false in
    let l = c.if-need-z.true in
    let long = ap length (lent_by a.z a.s.now p c.size-size.result c.size-size.ensures) ∙ page_long a.z a.s.now p c.next_page-p.ensures.1 in
    let Z = C.writable.prefix.sized in
    record {
      source = C.source;
      hashes = C.weighed.hashes;
      deep = low _ _ _ _ _ _ _ _ _ _ _ C;
      least = omega (arith, long, Z.least);
      most = omega (arith, long, Z.most);
      some = pos _ _ _ _ _ _ _ _ _ _ _ C w.result w.ensures n l;
      fits = omega (arith, long, most _ _ _ _ _ _ _ _ _ _ _ C w.result w.ensures n l);
    }

-- the bucket written
pub name_bucket-requires : goal.name_bucket-requires
name_bucket-requires t c =
    let a = c.args in
    let C = c.requires in
    let W = C.writable in
    let Z = W.prefix.sized in
    let p = c.next_page-p.result in
    let q = c.write_bucket.new.page in
    let to = c.next_page-p.ensures.1 in
    let B : Bucketed fnv (with_new a.rows.from.now (new_row a.rows.row.code.now a.rows.row.place.now)) a.k a.v (page a.z a.s.now p) q = rw (lent_by a.z a.s.now p c.size-size.result c.size-size.ensures) at c.write_bucket.ensures in
    let whole = set_long a.z a.s.now p q to (B.size ∙ page_long a.z a.s.now p to) in record {
      prefix = W.prefix;
      directory = rw (back_by a.z a.s.now p c.size-size.result c.size-size.ensures q)
          (record { sized = Z; long = omega (arith, whole, within a.z a.s.now 1 (omega (arith, W.long.least))); deep = C.depth });
      word = omega (arith, to, W.long.most, Z.whole, Z.most);
    }

pub returns-then-need-z : goal.returns-then-need-z
returns-then-need-z t c =
    let a = c.args in
    let C = c.requires in
    let p = c.next_page-p in
    let q = c.write_bucket.new.page in
    let w = c.load-need in
    let n = c.if-need-eq0.false in
    let l = c.if-need-z.true in
    let rs = with_new a.rows.from.now (new_row a.rows.row.code.now a.rows.row.place.now) in
    let B : Bucketed fnv rs a.k a.v (page a.z a.s.now p.result) q = rw (lent_by a.z a.s.now p.result c.size-size.result c.size-size.ensures) at c.write_bucket.ensures in
    one_wrote a.z fnv a.d rs a.k a.v a.s.now a.at C.depth C.writable
    (pos _ _ _ _ _ _ _ _ _ _ _ C w.result w.ensures n l) (most _ _ _ _ _ _ _ _ _ _ _ C w.result w.ensures n l)
    p.result p.ensures.0 p.ensures.1 q B
    c.name_bucket.new.s (rw (back_by a.z a.s.now p.result c.size-size.result c.size-size.ensures q) at c.name_bucket.ensures)

pub returns-then-k-z : goal.returns-then-k-z
returns-then-k-z t c = deepest _ _ _ _ _ _ _ _ _ _ _ c.requires c.load-need.result c.load-need.ensures c.if-need-z.false c.if-k-z.true

pub overflow_add-k : goal.overflow_add-k
overflow_add-k t c = omega (arith, low _ _ _ _ _ _ _ _ _ _ _ c.requires)

pub overflow_mul-v : goal.overflow_mul-v
overflow_mul-v t c = omega (arith, small _ _ _ _ _ _ _ _ _ _ _ c.requires)

pub write_below-next-requires : goal.write_below-next-requires
write_below-next-requires t c =
    let w = c.load-need in
    let o = c.if-need-z.false in
    let n = c.if-k-z.false in (
      omega (arith, c.decreases, shallow _ _ _ _ _ _ _ _ _ _ _ c.requires w.result w.ensures o n),
      left _ _ _ _ _ _ _ _ _ _ _ c.requires w.result w.ensures o n,
    )

pub overflow_add-k-2 : goal.overflow_add-k-2
overflow_add-k-2 t c = omega (arith, low _ _ _ _ _ _ _ _ _ _ _ c.requires)

pub overflow_mul-v-2 : goal.overflow_mul-v-2
overflow_mul-v-2 t c = omega (arith, small _ _ _ _ _ _ _ _ _ _ _ c.requires)

pub overflow_add-v : goal.overflow_add-v
overflow_add-v t c = omega (arith, small _ _ _ _ _ _ _ _ _ _ _ c.requires)

pub write_below-requires : goal.write_below-requires
write_below-requires t c =
    let w = c.load-need in
    let o = c.if-need-z.false in
    let n = c.if-k-z.false in
    let A = c.write_below-next in (
      omega (arith, c.decreases, shallow _ _ _ _ _ _ _ _ _ _ _ c.requires w.result w.ensures o n),
      right _ _ _ _ _ _ _ _ _ _ _ c.requires w.result w.ensures o n A.new.s A.result A.ensures,
    )

pub returns : goal.returns
returns t c =
    let w = c.load-need in
    let o = c.if-need-z.false in
    let n = c.if-k-z.false in
    let A = c.write_below-next in
    let B = c.write_below in
    whole _ _ _ _ _ _ _ _ _ _ _ c.requires w.result w.ensures o n A.new.s A.result A.ensures B.new.s B.result B.ensures
