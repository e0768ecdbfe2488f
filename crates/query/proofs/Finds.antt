-- What a search finds on an accepted store, and how rows are counted. Assumes nothing.
use borrow.Author.Tests.{le-leb, lt-leb}
use mathlib.Core.Path.{◌≡◌, refl, sym, ap, subst, ◌∙◌}
use mathlib.Core.List.{List, [], ◌∷◌, map, flat_map}
use mathlib.Core.Logic.{⊎_elim}
use Prim.Native.Nat.{ℕ, ◌+◌, ◌*◌, ◌-◌, ◌^◌, ◌≤◌, ◌<◌, zero-le}
use native.Mathlib.Omega.{arith}
use native.Mathlib.Nat.{add-zero, mul-le-mul_right, div-mul-le_self}
use lib.ListN.{length, get_elem?}
use lib.Pow.{pow_mono}
use Rattle.ground.specs.Lists.{byte}
use Rattle.ground.proofs.Sides.{side}
use Rattle.hash.specs.Fnv.{fnv, fnv_lt}
use Rattle.page.specs.Page.{BucketPage, Belongs, count, rows, code}
use Rattle.partition.specs.Bits.{top}
use Rattle.partition.specs.declared.Shape.{Shape}
use Rattle.partition.specs.Partition.{Prefix, rows_of, buckets, first, after}
use Rattle.partition.specs.Listing.{in_order, listing, place_of}
use Rattle.partition.proofs.Bits.{top_lt}
use Rattle.partition.proofs.Directory.{holds_range}
use Rattle.store.specs.Pages.{size, page, as_row, rows_on, rows_held, dir_depth, entry_at}
use Rattle.store.specs.Accepted.{Accepted}
use Rattle.store.specs.Demands.{Sized}
use Rattle.store.proofs.Accepted.Rules.{Opened, opened}
use Rattle.store.proofs.Accepted.Unique.{read_used, within, page_long}
use Rattle.store.proofs.Paging.Depths.{page_byte}
use Rattle.store.proofs.Accepted.Reading.{entry_of, Naming, naming, lookup_none, lookup_page}
use Rattle.store.proofs.Paging.PageTies.{found_at, found_not}
use Rattle.store.proofs.Showing.Walked.{from, walk_from, Start, behind, walk_start, walk_end, walk_none, walk_page, walk_here, walk_past}
use Rattle.query.specs.Spots.{StandsAt, Listed}
use Rattle.query.specs.Cursors.{later, listed_from, At, Along}
use Rattle.query.specs.declared.Cursor.{Cursor}
use Rattle.std.specs.Prelude.{Some, None}

module _ (S : Shape) (sz : Sized S) (s : List ℕ) (a : Accepted S fnv s) where
  T : Opened S fnv s
  T = opened S fnv s a

  pub long_enough : 3 * size S ≤ length s
  long_enough = omega (arith, mul-le-mul_right (size S) T.long.least, div-mul-le_self (length s) (size S))

  pub shallow : dir_depth s ≤ S.deepest
  shallow = T.page0.depth

  module _ (c : List ℕ) where
    pub not_named : entry_of S fnv s c ≡ 0 → StandsAt S s c None
    not_named e = lookup_none S fnv sz fnv_lt s a c e

    module _ (n : entry_of S fnv s c ≡ 0 → ⊥) where
      abbrev p : ℕ
      p = entry_of S fnv s c

      abbrev g : List ℕ
      g = page S s p

      its : Naming S fnv s (top (dir_depth s) (fnv c)) p
      its = (lookup_page S fnv sz fnv_lt s a c n).0

      pub inside : p * size S + size S ≤ length s
      inside = within S s p its.to

      pub from_two : 2 ≤ p
      from_two = its.from

      pub keeps : BucketPage g
      keeps = its.bytes.rules

      on_it : place_of (rows_held S s) c ≡ place_of (map as_row (rows g)) c
      on_it = (lookup_page S fnv sz fnv_lt s a c n).1 ∙ ap (λ x. place_of (rows_on x) c) (read_used g keeps)

      pub here : (i : ℕ) → i < count g → code g i ≡ c → StandsAt S s c (Some (record { page = p; slot = i }))
      here i l e = (record { from = from_two; within = inside; rules = keeps; slot = l }, e, on_it ∙ found_at g keeps.rules c i l e)

      pub nowhere : (i : ℕ) → Belongs g i c → StandsAt S s c None
      nowhere i b = on_it ∙ found_not g keeps.rules c i b

-- an entry of a directory lies in page 1
pub entry_inside : (S : Shape) → Sized S → (d x : ℕ) → d ≤ S.deepest → x < 2 ^ 32 → top d x < S.entries
entry_inside S sz d x l h = let m : 2 ^ d ≤ 2 ^ S.deepest = pow_mono l in omega (arith, top_lt x d h, sz.deep)

-- ---- the listing, from an entry on

-- the rows of the listing from place n on are those from `left` on of what the entries from i on list
pub record From (S : Shape) (s : List ℕ) (n i left : ℕ) : Type 0 where
  pub here : (j : ℕ) → get_elem? (listing S fnv (rows_held S s)) (n + j) ≡ get_elem? (walk_from S fnv s i) (left + j)
  pub starts : Start S fnv s i
  pub most : i ≤ 2 ^ dir_depth s

later_from : (d i : ℕ) (l : List Prefix) → later d i l ≡ from d i l
unfolding later from
later_from d i [] = refl
later_from d i (p ∷ l) = ⊎_elim
    (λ b. rw (lt-leb i (first d p) b) (later_from d i l))
    (λ b. rw (le-leb i (first d p) b) (ap (λ m. p ∷ m) (later_from d i l))) (side (first d p) i)

-- a cursor stands so
module _ (S : Shape) (s : List ℕ) (n : ℕ) where
  listed_walk : (i : ℕ) → listed_from S s i ≡ walk_from S fnv s i
  unfolding listed_from walk_from
  listed_walk i = ap (flat_map (λ (p : Prefix). in_order (rows_of fnv (rows_held S s) p.bits p.value))) (later_from (dir_depth s) i (buckets S fnv (rows_held S s)))

  pub at_from : (c : Cursor) → At S s n c → From S s n c.entry c.slot
  at_from c a = record {
    here = λ j. a.rest j ∙ ap (λ l. get_elem? l (c.slot + j)) (listed_walk c.entry);
    starts = record { begins = λ p m x. let r = (holds_range (dir_depth s) c.entry p).0 x in ⊎_elim (λ b. absurd (omega (arith, a.whole p m b, r.1))) (λ b. omega (arith, r.0)) (side (first (dir_depth s) p) c.entry) };
    most = a.most;
  }

  pub from_at : (i left : ℕ) → From S s n i left → At S s n (record { entry = i; slot = left })
  from_at i left f = record {
    rest = λ j. f.here j ∙ ap (λ l. get_elem? l (left + j)) (sym (listed_walk i));
    whole = λ p m b. ⊎_elim (λ l. absurd (omega (arith, b, f.starts.begins p m ((holds_range (dir_depth s) i p).1 (omega arith, l))))) (λ l. l) (side i (after (dir_depth s) p));
    most = f.most;
  }

module _ (S : Shape) (sz : Sized S) (s : List ℕ) (a : Accepted S fnv s) (n : ℕ) where
  abbrev d : ℕ
  d = dir_depth s

  pub from_first : From S s n 0 n
  from_first = let w = walk_start S fnv sz fnv_lt s a in record { here = λ j. ap (λ l. get_elem? l (n + j)) w.0; starts = w.1; most = zero-le }

  -- place n itself
  first_of : (i left : ℕ) → From S s n i left → get_elem? (listing S fnv (rows_held S s)) n ≡ get_elem? (walk_from S fnv s i) left
  first_of i left f = ap (get_elem? (listing S fnv (rows_held S s))) (sym (add-zero n)) ∙ f.here 0 ∙ ap (get_elem? (walk_from S fnv s i)) (add-zero left)

  -- the cursor a slot further stands before the next place
  pub at_next : (i left m : ℕ) → m ≡ left + 1 → From S s n i left → At S s (n + 1) (record { entry = i; slot = m })
  at_next i left m q f = from_at S s (n + 1) i m (record {
    here = λ j. let e : n + 1 + j ≡ n + (1 + j) = omega arith in
        let g : left + (1 + j) ≡ m + j = omega arith in
        ap (get_elem? (listing S fnv (rows_held S s))) e ∙ f.here (1 + j) ∙ ap (get_elem? (walk_from S fnv s i)) g;
    starts = f.starts;
    most = f.most;
  })

  pub from_end : (i left : ℕ) → 2 ^ d ≤ i → From S s n i left → Listed S s n None
  from_end i left l f = first_of i left f ∙ ap (λ l. get_elem? l left) (walk_end S fnv sz fnv_lt s a i l)

  pub from_none : (i left : ℕ) → i < 2 ^ d → entry_at S s i ≡ 0 → From S s n i left → From S s n (i + 1) left
  from_none i left l z f = let w = walk_none S fnv sz fnv_lt s a i l z in record { here = λ j. f.here j ∙ ap (λ l. get_elem? l (left + j)) w.0; starts = w.1; most = omega arith }

  pub entry_low : (i : ℕ) → i < 2 ^ d → i < S.entries
  entry_low i l = let m : 2 ^ d ≤ 2 ^ S.deepest = pow_mono (shallow S sz s a) in omega (arith, sz.deep)

  -- p is the page that entry i names
  module _ (i p : ℕ) (l : i < 2 ^ d) (e : p ≡ entry_at S s i) (z : p ≡ 0 → ⊥) where
    abbrev q : ℕ
    q = entry_at S s i

    named : Naming S fnv s i q
    named = naming S fnv sz fnv_lt s a i (entry_low i l) (λ o. z (e ∙ o))

    pub page_inside : p * size S + size S ≤ length s
    page_inside = subst (λ p. p * size S + size S ≤ length s) (sym e) (within S s q named.to)

    pub page_head : 4 ≤ length (page S s p)
    page_head = subst (λ p. 4 ≤ length (page S s p)) (sym e) (omega (arith, page_long S s q named.to, sz.least))

    pub page_deep : byte s (p * size S + 1) ≤ d
    page_deep = subst (λ p. byte s (p * size S + 1) ≤ d) (sym e) (subst (λ m. m ≤ d) (page_byte S s q 1 (omega arith)) named.low)

    module _ (left : ℕ) (f : From S s n i left) where
      pub from_here : left < count (page S s p) → Listed S s n (Some (record { page = p; slot = left }))
      from_here = subst (λ p. left < count (page S s p) → Listed S s n (Some (record { page = p; slot = left }))) (sym e)
          (λ b. (record { from = named.from; within = within S s q named.to; rules = named.bytes.rules; slot = b }, first_of i left f ∙ walk_here S fnv sz fnv_lt s a i left l (λ o. z (e ∙ o)) f.starts b))

      pub from_along : Along S s n p left
      from_along = subst (λ p. Along S s n p left) (sym e) (λ j b. f.here j ∙ walk_here S fnv sz fnv_lt s a i (left + j) l (λ o. z (e ∙ o)) f.starts b)

      pub from_past : (w : ℕ) → w ≡ 2 ^ (d - byte s (p * size S + 1)) → count (page S s p) ≤ left → From S s n (i + w) (left - count (page S s p))
      from_past = subst (λ p. (w : ℕ) → w ≡ 2 ^ (d - byte s (p * size S + 1)) → count (page S s p) ≤ left → From S s n (i + w) (left - count (page S s p))) (sym e) (λ w u m.
          let v = walk_page S fnv sz fnv_lt s a i l (λ o. z (e ∙ o)) f.starts in
          let y : behind S s i ≡ i + w = ap (λ m. i + 2 ^ (d - m)) (page_byte S s q 1 (omega arith)) ∙ ap (λ m. i + m) (sym u) in
          subst (λ j. From S s n j (left - count (page S s q))) y (record {
            here = λ j. let k : left + j - count (page S s q) ≡ left - count (page S s q) + j = omega (arith, m) in
                f.here j ∙ walk_past S fnv sz fnv_lt s a i (left + j) l (λ o. z (e ∙ o)) f.starts (omega (arith, m)) ∙ ap (get_elem? (walk_from S fnv s (behind S s i))) k;
            starts = v.2;
            most = v.3;
          }))
