-- Records that can lie in a page together: those of a page do, and those that a put or a remove leaves still do. Assumes nothing.
use borrow.Author.Tests.{leb-true}
use mathlib.Core.Path.{◌≡◌, refl, sym, ap, subst, ◌∙◌}
use mathlib.Core.Bool.{Bool, true, false}
use mathlib.Core.List.Memᴰ
use mathlib.Core.List.{List, [], ◌∷◌, map, Memᴰ}
use mathlib.Core.Logic.{◌⊎◌, inl, inr, ⊎_elim}
use Prim.Native.Nat.{ℕ, suc, ◌+◌, ◌-◌, ◌*◌, ◌≤◌, ◌<◌, Ordering}
use native.Mathlib.Omega.{arith}
use lib.Dec.{leb}
use lib.ListN.{length, length-map, get_or-eq_default}
use Rattle.ground.specs.Lists.{byte, part}
use Rattle.ground.proofs.Parts.{byte_part, length_part}
use Rattle.ground.proofs.Sides.{side}
use Rattle.ground.proofs.Tables.{length_tab}
use Rattle.words.specs.Codes.{order}
use Rattle.words.proofs.Bytes.{Small}
use Rattle.words.proofs.Orders.{order_eq}
use Rattle.partition.specs.declared.Shape.{Shape}
use Rattle.partition.specs.Partition.{Row, need, needs}
use Rattle.partition.specs.Listing.{by, insert, without}
use Rattle.partition.proofs.Rising.{tab_member, insert_member, without_member}
use Rattle.page.specs.Page.{Slotted, Record, rows, row_at, count, off, len, place, code}
use Rattle.page.proofs.Slots.{Lies, lies}
use Rattle.page.proofs.Sums.{len_of_code}
use Rattle.store.specs.Pages.{size, as_row}
use Rattle.store.specs.Moves.{pick, record_at, pack_from, frontier_of, at_frontier, added, place_on}
use Rattle.store.proofs.Result.Encoded.{Of, Storable}
use Rattle.store.proofs.Paging.PageTies.{page_frontier}
use Rattle.store.proofs.Paging.Slotwise.{needs_span, pack_rows, pack_top}

-- where a record ends
abbrev end : Record → ℕ
end r = r.start + (8 + length r.code)

abbrev pub Stores : Row → Type 0
Stores r = Storable r.place r.code

-- the records rs can lie in a page of z bytes
pub record Fit (z : ℕ) (rs : List Record) : Type 0 where
  pub after : (r : Record) → Memᴰ r rs → 8 ≤ r.start
  pub good : (r : Record) → Memᴰ r rs → Stores (as_row r)
  pub apart : (r q : Record) → Memᴰ r rs → Memᴰ q rs → (k : ℕ) → Of r k → Of q k → r.code ≡ q.code
  pub room : frontier_of rs + 4 * length rs ≤ z

-- ---- members

pub mapped : {A B : Type 0} (f : A → B) (l : List A) (b : B) → Memᴰ b (map f l) → (a : A) × Memᴰ a l × (b ≡ f a)
mapped f [] b m = absurd (Memᴰ.not-nil m)
mapped f (x ∷ l) b m = ⊎_elim (λ e. (x, Memᴰ.head refl, e)) (λ t. let w = mapped f l b t in (w.0, Memᴰ.tail w.1, w.2)) (Memᴰ.cases_cons m)

pub rows_store : {z : ℕ} {rs : List Record} → Fit z rs → (r : Row) → Memᴰ r (map as_row rs) → Stores r
rows_store {z} {rs} F r m = let w = mapped as_row rs r m in subst Stores (sym w.2) (F.good w.0 w.1)

-- no record ends behind the frontier, and the frontier is no further than that
frontier_most : (rs : List Record) (r : Record) → Memᴰ r rs → end r ≤ frontier_of rs
unfolding frontier_of
frontier_most [] r m = absurd (Memᴰ.not-nil m)
frontier_most (q ∷ rs) r m = ⊎_elim (λ e. let f : end r ≡ end q = ap end e in omega arith) (λ t. omega (arith, frontier_most rs r t)) (Memᴰ.cases_cons m)

frontier_least : (rs : List Record) (m : ℕ) → 8 ≤ m → ((r : Record) → Memᴰ r rs → end r ≤ m) → frontier_of rs ≤ m
unfolding frontier_of
frontier_least [] m l f = l
frontier_least (q ∷ rs) m l f = omega (arith, f q (Memᴰ.head refl), frontier_least rs m l (λ r t. f r (Memᴰ.tail t)))

frontier_start : (rs : List Record) → 8 ≤ frontier_of rs
unfolding frontier_of
frontier_start [] = omega arith
frontier_start (q ∷ rs) = omega (arith, frontier_start rs)

-- ---- the records of a page

pub part_small : (g : List ℕ) (k n : ℕ) → ((i : ℕ) → byte g i < 256) → k + n ≤ length g → Small (part g k n)
part_small g k n b l = record {
  at = λ i. ⊎_elim
      (λ h. rw (byte_part g k n i h) (b (k + i)))
      (λ h. let e : byte (part g k n) i ≡ 0 = get_or-eq_default (part g k n) 0 (omega (arith, length_part g k n l)) in omega arith)
      (side i n);
}

module _ (g : List ℕ) (P : Slotted g) where
  slot_end : (i : ℕ) → i < count g → end (row_at g i) ≡ off g i + len g i
  slot_end i l = omega (arith, len_of_code g i P l)

  slot_stores : (i : ℕ) → i < count g → Storable (place g i) (code g i)
  unfolding place code
  slot_stores i l =
      let w : Lies g i = lies i P l in
      let c = len_of_code g i P l in
      record {
        natural = P.places i l;
        some = omega (arith, c);
        most = omega (arith, c);
        placed = part_small g (off g i) 8 P.bytes (omega arith);
        coded = part_small g (off g i + 8) (len g i - 8) P.bytes (omega arith);
      }

  pub slotted_fit : Fit (length g) (rows g)
  slotted_fit = record {
    after = λ r m. let w = slot r m in subst (λ q. 8 ≤ q.start) (sym w.2) (P.after w.0 w.1);
    good = λ r m. let w = slot r m in subst (λ q. Stores (as_row q)) (sym w.2) (slot_stores w.0 w.1);
    apart = λ r q m n k a b.
        let u = slot r m in let v = slot q n in
        let x : Of (row_at g u.0) k = subst (λ t. Of t k) u.2 a in
        let y : Of (row_at g v.0) k = subst (λ t. Of t k) v.2 b in
        let e = P.apart u.0 v.0 k u.1 v.1
        (record { from = x.from; to = omega (arith, x.to, slot_end u.0 u.1) })
        (record { from = y.from; to = omega (arith, y.to, slot_end v.0 v.1) }) in
        ap (λ t. t.code) u.2 ∙ ap (code g) e ∙ sym (ap (λ t. t.code) v.2);
    room = omega (arith, page_frontier g P, length_tab (row_at g) (count g), P.room);
  }
    where
      slot : (r : Record) → Memᴰ r (rows g) → (i : ℕ) × (i < count g) × (r ≡ row_at g i)
      slot r m = tab_member (row_at g) (count g) r m

-- ---- records that stay where they were

-- q lies where p did, with the same code
pub record Stayed (rs : List Record) (q : Record) : Type 0 where
  pub was : Record
  pub there : Memᴰ was rs
  pub start : was.start ≡ q.start
  pub code : was.code ≡ q.code
  pub stores : Stores (as_row q)

pub stayed_fit : {z : ℕ} {rs qs : List Record} → Fit z rs → length qs ≤ length rs → ((q : Record) → Memᴰ q qs → Stayed rs q) → Fit z qs
stayed_fit {z} {rs} {qs} F l f = record {
  after = λ q m. let w = f q m in subst (λ n. 8 ≤ n) w.start (F.after w.was w.there);
  good = λ q m. (f q m).stores;
  apart = λ r q m n k a b. let u = f r m in let v = f q n in sym u.code ∙ F.apart u.was v.was u.there v.there k (of u a) (of v b) ∙ v.code;
  room = omega (arith, F.room, frontier_least qs (frontier_of rs) (frontier_start rs) (λ q m. let w = f q m in omega (arith, frontier_most rs w.was w.there, w.start, ap length w.code)));
}
  where
    of : {q : Record} {k : ℕ} (w : Stayed rs q) → Of q k → Of w.was k
    of w a = record { from = omega (arith, a.from, w.start); to = omega (arith, a.to, w.start, ap length w.code) }

-- a code left out
length_without : (c : List ℕ) (rs : List Record) → length (without (λ q. q.code) c rs) ≤ length rs
unfolding without
length_without c [] = omega arith
length_without c (q ∷ rs) = go (order c q.code) (length_without c rs)
  where
    rest : List Record
    rest = without (λ q. q.code) c rs

    go : (o : Ordering) → length rest ≤ length rs → length (by o (q ∷ rest) rest (q ∷ rest)) ≤ length (q ∷ rs)
    go Ordering.lt l = omega arith
    go Ordering.eq l = omega arith
    go Ordering.gt l = omega arith

pub without_fit : {z : ℕ} (c : List ℕ) {rs : List Record} → Fit z rs → Fit z (without (λ q. q.code) c rs)
without_fit {z} c {rs} F = stayed_fit F (length_without c rs) (λ q m. let t = without_member (λ q. q.code) c rs q m in record { was = q; there = t; start = refl; code = refl; stores = F.good q t })

-- a place overwritten
pub over_fit : {z : ℕ} (r : Row) {rs : List Record} → Stores r → Fit z rs → Fit z (map (place_on r) rs)
over_fit {z} r {rs} s F = stayed_fit F (omega (arith, length-map rs (place_on r))) (λ q m. let w = mapped (place_on r) rs q m in subst (Stayed rs) (sym w.2) (stays w.0 w.1))
  where
    stays : (q : Record) → Memᴰ q rs → Stayed rs (place_on r q)
    stays q m = go (order r.code q.code) refl
      where
        go : (o : Ordering) → order r.code q.code ≡ o → Stayed rs (by o q (record_at q.start r) q)
        go Ordering.lt e = record { was = q; there = m; start = refl; code = refl; stores = F.good q m }
        go Ordering.eq e = record { was = q; there = m; start = refl; code = sym (order_eq r.code q.code e); stores = s }
        go Ordering.gt e = record { was = q; there = m; start = refl; code = refl; stores = F.good q m }

-- ---- packed records

pack_from_lem : (rs : List Row) (o : ℕ) (q : Record) → Memᴰ q (pack_from o rs) → o ≤ q.start
unfolding pack_from
pack_from_lem [] o q m = absurd (Memᴰ.not-nil m)
pack_from_lem (r ∷ rs) o q m = ⊎_elim
    (λ e. let f : q.start ≡ o = ap (λ t. t.start) e in omega arith)
    (λ t. omega (arith, pack_from_lem rs (o + (8 + length r.code)) q t))
    (Memᴰ.cases_cons m)

pack_row : (rs : List Row) (o : ℕ) (q : Record) → Memᴰ q (pack_from o rs) → Memᴰ (as_row q) rs
unfolding pack_from
pack_row [] o q m = absurd (Memᴰ.not-nil m)
pack_row (r ∷ rs) o q m = ⊎_elim (λ e. Memᴰ.head (ap as_row e)) (λ t. Memᴰ.tail (pack_row rs (o + (8 + length r.code)) q t)) (Memᴰ.cases_cons m)

pack_apart : (rs : List Row) (o : ℕ) (p q : Record) → Memᴰ p (pack_from o rs) → Memᴰ q (pack_from o rs) → (k : ℕ) → Of p k → Of q k → p.code ≡ q.code
unfolding pack_from
pack_apart [] o p q m n k a b = absurd (Memᴰ.not-nil m)
pack_apart (r ∷ rs) o p q m n k a b = go (Memᴰ.cases_cons m) (Memᴰ.cases_cons n) (λ t u. pack_apart rs (o + (8 + length r.code)) p q t u k a b)
  where
    next : ℕ
    next = o + (8 + length r.code)

    -- the first ends where the others begin
    first : (x y : Record) → x ≡ record_at o r → Memᴰ y (pack_from next rs) → Of x k → Of y k → ⊥
    first x y e t u v = let f : end x ≡ next = ap end e in omega (arith, pack_from_lem rs next y t, u.to, v.from)

    go : (p ≡ record_at o r) ⊎ Memᴰ p (pack_from next rs) → (q ≡ record_at o r) ⊎ Memᴰ q (pack_from next rs)
        → (Memᴰ p (pack_from next rs) → Memᴰ q (pack_from next rs) → p.code ≡ q.code) → p.code ≡ q.code
    go (inl e) (inl f) rest = ap (λ t. t.code) (e ∙ sym f)
    go (inl e) (inr t) rest = absurd (first p q e t a b)
    go (inr t) (inl e) rest = absurd (first q p e t b a)
    go (inr t) (inr u) rest = rest t u

length_pack : (rs : List Row) (o : ℕ) → length (pack_from o rs) ≡ length rs
length_pack rs o = sym (length-map (pack_from o rs) as_row) ∙ ap length (pack_rows rs o)

pub packed_reach : (rs : List Row) → frontier_of (pack_from 8 rs) + 4 * length (pack_from 8 rs) ≡ 8 + needs rs
packed_reach rs = omega (arith, pack_top rs 8 (omega arith), frontier_start (pack_from 8 rs), needs_span rs, length_pack rs 8)

pub pack_fit : (z : ℕ) (rs : List Row) → ((r : Row) → Memᴰ r rs → Stores r) → 8 + needs rs ≤ z → Fit z (pack_from 8 rs)
pack_fit z rs f l = record {
  after = λ q m. pack_from_lem rs 8 q m;
  good = λ q m. f (as_row q) (pack_row rs 8 q m);
  apart = pack_apart rs 8;
  room = omega (arith, packed_reach rs);
}

-- ---- a record more

length_insert : (r : Record) (rs : List Record) → length (insert (λ q. q.code) r rs) ≡ suc (length rs)
unfolding insert
length_insert r [] = refl
length_insert r (q ∷ rs) = go (order r.code q.code) (length_insert r rs)
  where
    rest : List Record
    rest = insert (λ q. q.code) r rs

    go : (o : Ordering) → length rest ≡ suc (length rs) → length (by o (r ∷ q ∷ rs) (r ∷ q ∷ rs) (q ∷ rest)) ≡ suc (length (q ∷ rs))
    go Ordering.lt e = refl
    go Ordering.eq e = refl
    go Ordering.gt e = ap suc e

pub frontier_fit : {z : ℕ} {rs : List Record} (r : Row) → Fit z rs → Stores r → frontier_of rs + 4 * length rs + need r ≤ z → Fit z (at_frontier rs r)
unfolding at_frontier need
frontier_fit {z} {rs} r F s l = record {
  after = λ q m. ⊎_elim (λ e. let f : q.start ≡ frontier_of rs = ap (λ t. t.start) e in omega (arith, frontier_start rs)) (F.after q) (member q m);
  good = λ q m. ⊎_elim (λ e. subst (λ t. Stores (as_row t)) (sym e) s) (F.good q) (member q m);
  apart = λ p q m n k a b. go p q k a b (member p m) (member q n);
  room = omega (
    arith,
    length_insert new rs,
    frontier_least (insert (λ q. q.code) new rs) (end new) (omega (arith, frontier_start rs)) (λ q m. ⊎_elim
        (λ e. let f : end q ≡ end new = ap end e in omega arith) (λ t. omega (arith, frontier_most rs q t)) (member q m)),
  );
}
  where
    new : Record
    new = record_at (frontier_of rs) r

    member : (q : Record) → Memᴰ q (insert (λ q. q.code) new rs) → (q ≡ new) ⊎ Memᴰ q rs
    member q m = insert_member (λ q. q.code) new rs q m

    -- the new one begins where the others end
    behind : (x y : Record) (k : ℕ) → x ≡ new → Memᴰ y rs → Of x k → Of y k → ⊥
    behind x y k e t u v = let f : x.start ≡ frontier_of rs = ap (λ t. t.start) e in omega (arith, frontier_most rs y t, u.from, v.to)

    go : (p q : Record) (k : ℕ) → Of p k → Of q k → (p ≡ new) ⊎ Memᴰ p rs → (q ≡ new) ⊎ Memᴰ q rs → p.code ≡ q.code
    go p q k a b (inl e) (inl f) = ap (λ t. t.code) (e ∙ sym f)
    go p q k a b (inl e) (inr t) = absurd (behind p q k e t a b)
    go p q k a b (inr t) (inl e) = absurd (behind q p k e t b a)
    go p q k a b (inr t) (inr u) = F.apart p q t u k a b

pub added_fit : (S : Shape) {rs : List Record} (r : Row) → Fit (size S) rs → Stores r → needs (r ∷ map as_row rs) ≤ S.capacity → Fit (size S) (added S rs r)
unfolding added needs
added_fit S {rs} r F s l = go (leb (frontier_of rs + 4 * length rs + need r) (size S)) refl
  where
    go : (b : Bool) → leb (frontier_of rs + 4 * length rs + need r) (size S) ≡ b → Fit (size S) (pick b (at_frontier rs r) (at_frontier (pack_from 8 (map as_row rs)) r))
    go true e = frontier_fit r F s (leb-true _ _ e)
    go false e = frontier_fit r (pack_fit (size S) (map as_row rs) (rows_store F) (omega arith)) s (omega (arith, packed_reach (map as_row rs)))
