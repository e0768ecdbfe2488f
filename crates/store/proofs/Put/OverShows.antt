-- A put on a known code: the pages then show the rows with the new place, and the page that holds the code is the only one that changes.
-- Assumes nothing.
use mathlib.Core.Path.{◌≡◌, refl, sym, ap, ap₂, subst, ◌∙◌}
use mathlib.Core.Bool.{Bool, true, false}
use mathlib.Core.List.{List, [], ◌∷◌, map, Memᴰ}
use mathlib.Core.Option.{some, none}
use Prim.Native.Nat.{ℕ, ◌+◌, ◌/◌, ◌≤◌, ◌<◌, Ordering}
use native.Mathlib.Decide.{ℕ_discrete}
use native.Mathlib.Omega.{arith}
use lib.Dec.{eqb}
use lib.ListN.{length, get_or, set, length-map, length-set, get_or-map}
use lib.Seq.{ext_get_or, get_or-set_same, get_or-set_other}
use Rattle.ground.proofs.Tests.{none_some}
use Rattle.words.specs.Codes.{order}
use Rattle.words.proofs.Orders.{order_eq}
use Rattle.page.specs.Page.{Record}
use Rattle.partition.specs.Bits.{top}
use Rattle.partition.specs.declared.Shape.{Shape}
use Rattle.partition.specs.Partition.{Row, need, needs, keep, rows_of, IsBucket, Reordered, empty, front, swap, chain}
use Rattle.partition.specs.Listing.{by, insert, without, in_order, place_of, Once}
use Rattle.partition.proofs.Rising.{insert_map}
use Rattle.partition.proofs.Rows.{load, to_load, of_load}
use Rattle.partition.proofs.Sorted.{by_code}
use Rattle.partition.proofs.Tree.{Bucket}
use Rattle.store.specs.Pages.{Page, free, bucket, as_row}
use Rattle.store.specs.Moves.{find, holds, place_on, overwrite_on, overwritten}
use Rattle.store.proofs.Showing.Shows.{first_code, prefix_on, OnPage, Holding, Shows}
use Rattle.store.proofs.Showing.Shown.{shows_reordered}
use Rattle.store.proofs.Showing.Known.{only_page}
use Rattle.store.proofs.Put.Over.{over, many_over, rows_over, known_over}

-- ---- rows that change and keep their codes

map_same : (f : Row → Row) {rs qs : List Row} → Reordered rs qs → Reordered (map f rs) (map f qs)
map_same f empty = empty
map_same f (front r p) = front (f r) (map_same f p)
map_same f (swap r q p) = swap (f r) (f q) (map_same f p)
map_same f (chain p q) = chain (map_same f p) (map_same f q)

module _ (f : Row → Row) (same : (r : Row) → (f r).code ≡ r.code) where
  map_keep : (b : Bool) (r : Row) (l : List Row) → keep b (f r) (map f l) ≡ map f (keep b r l)
  map_keep true r l = refl
  map_keep false r l = refl

  map_rows : (h : List ℕ → ℕ) (rs : List Row) (k v : ℕ) → rows_of h (map f rs) k v ≡ map f (rows_of h rs k v)
  unfolding rows_of
  map_rows h [] k v = refl
  map_rows h (r ∷ rs) k v =
      ap₂ (λ (c : List ℕ) (l : List Row). keep (eqb (top k (h c)) v) (f r) l) (same r) (map_rows h rs k v) ∙ map_keep (eqb (top k (h r.code)) v) r (rows_of h rs k v)

  map_needs : (l : List Row) → needs (map f l) ≡ needs l
  unfolding needs need
  map_needs [] = refl
  map_needs (r ∷ l) = ap₂ (λ (c : List ℕ) (n : ℕ). 12 + length c + n) (same r) (map_needs l)

  map_order : (l : List Row) → in_order (map f l) ≡ map f (in_order l)
  unfolding in_order
  map_order [] = refl
  map_order (r ∷ l) = ap (insert by_code (f r)) (map_order l) ∙ sym (insert_map by_code by_code f same r (in_order l))

  map_none : (l : List Row) (c : List ℕ) → place_of l c ≡ none → place_of (map f l) c ≡ none
  unfolding place_of
  map_none [] c e = refl
  map_none (q ∷ l) c e =
      ap (λ d. by (order c d) (place_of (map f l) c) (some (f q).place) (place_of (map f l) c)) (same q) ∙ go (order c q.code) e (map_none l c)
    where
      go : (o : Ordering) → by o (place_of l c) (some q.place) (place_of l c) ≡ none → (place_of l c ≡ none → place_of (map f l) c ≡ none)
          → by o (place_of (map f l) c) (some (f q).place) (place_of (map f l) c) ≡ none
      go Ordering.lt x i = i x
      go Ordering.eq x i = absurd (none_some x refl)
      go Ordering.gt x i = i x

  map_once : (l : List Row) → Once l → Once (map f l)
  map_once [] o = tt
  map_once (r ∷ l) o = (map_none l (f r).code (subst (λ c. place_of l c ≡ none) (sym (same r)) o.0), map_once l o.1)

-- ---- the place of one code

same_code : (r q : Row) → (over r q).code ≡ q.code
same_code r q = go (order r.code q.code) refl
  where
    go : (o : Ordering) → order r.code q.code ≡ o → (by o q r q).code ≡ q.code
    go Ordering.lt e = refl
    go Ordering.eq e = order_eq r.code q.code e
    go Ordering.gt e = refl

first_over : (r : Row) (rs : List Record) → first_code (map (place_on r) rs) ≡ first_code rs
first_over r [] = refl
first_over r (q ∷ rs) = go (order r.code q.code) refl
  where
    go : (o : Ordering) → order r.code q.code ≡ o → (by o q (record { start = q.start; place = r.place; code = r.code }) q).code ≡ q.code
    go Ordering.lt e = refl
    go Ordering.eq e = order_eq r.code q.code e
    go Ordering.gt e = refl

-- what page i held before
pub record Was (r : Row) (gs : List Page) (i k : ℕ) (qs : List Record) : Type 0 where
  pub records : List Record
  pub there : Holding gs i k records
  pub now : map (place_on r) records ≡ qs

pub was : (r : Row) (gs : List Page) (i k : ℕ) (qs : List Record) → Holding (overwritten gs r) i k qs → Was r gs i k qs
unfolding overwritten
was r gs i k qs e = go (get_or gs i free) refl (sym (get_or-map (overwrite_on r) gs i free) ∙ e)
  where
    go : (g : Page) → get_or gs i free ≡ g → overwrite_on r g ≡ bucket k qs → Was r gs i k qs
    go free p q = absurd (let n : ◌≡◌ {A = ℕ} 0 1 = cc in omega arith)
    go (bucket l rs) p q = record { records = rs; there = p ∙ ap (λ n. bucket n rs) (cc); now = cc }

module _ (S : Shape) (h : List ℕ → ℕ) (r : Row) where
  -- rows that need the same under each prefix have the same buckets
  same_bucket : (rows qs : List Row) → ((k v : ℕ) → load h rows k v ≡ load h qs k v) → (k v : ℕ) → IsBucket S h rows k v → IsBucket S h qs k v
  same_bucket rows qs e k v b =
      let a : Bucket S.capacity (load h rows) k v = to_load S h rows k v b in
      of_load S h qs k v (record { pos = rw e at a.pos; fit = rw e at a.fit; split = λ j q. subst (λ n. S.capacity < n) (e j (v / 2)) (a.split j q) })

  pub prefix_over : (k : ℕ) (rs : List Record) → prefix_on h k (map (place_on r) rs) ≡ prefix_on h k rs
  prefix_over k rs = ap (λ c. top k (h c)) (first_over r rs)

  load_over : (rows : List Row) (k v : ℕ) → load h rows k v ≡ load h (map (over r) rows) k v
  load_over rows k v = sym (ap needs (map_rows (over r) (same_code r) h rows k v) ∙ map_needs (over r) (same_code r) (rows_of h rows k v))

  page_shows : (rows : List Row) (k : ℕ) (rs : List Record) → OnPage S h rows k rs → OnPage S h (map (over r) rows) k (map (place_on r) rs)
  page_shows rows k rs o = record {
    some = subst (λ n. 0 < n) (sym (length-map rs (place_on r))) o.some;
    is = subst (λ v. IsBucket S h (map (over r) rows) k v) (sym (prefix_over k rs)) (same_bucket rows (map (over r) rows) (load_over rows) k (prefix_on h k rs) o.is);
    ordered = many_over r rs ∙ ap (map (over r)) o.ordered ∙ sym (map_order (over r) (same_code r) (rows_of h rows k (prefix_on h k rs)))
        ∙ ap in_order (sym (map_rows (over r) (same_code r) h rows k (prefix_on h k rs))) ∙ ap (λ v. in_order (rows_of h (map (over r) rows) k v)) (sym (prefix_over k rs));
  }

  all_over : (rows : List Row) (gs : List Page) → Shows S h rows gs → Shows S h (map (over r) rows) (overwritten gs r)
  all_over rows gs s = record {
    same = subst (λ l. Reordered l (map (over r) rows)) (sym (rows_over r gs)) (map_same (over r) s.same);
    once = map_once (over r) (same_code r) rows s.once;
    fine = λ v. subst (λ n. n ≤ S.capacity) (load_over rows S.deepest v) (s.fine v);
    page = λ i k qs e. let w = was r gs i k qs e in subst (λ l. OnPage S h (map (over r) rows) k l) w.now (page_shows rows k w.records (s.page i k w.records w.there));
    apart = λ i j k rs qs a b e. let w = was r gs i k rs a in let u = was r gs j k qs b in
        s.apart i j k w.records u.records w.there u.there (sym (prefix_over k w.records) ∙ ap (prefix_on h k) w.now ∙ e ∙ sym (ap (prefix_on h k) u.now) ∙ prefix_over k u.records);
  }

  -- PUT on a known code
  pub over_shows : (rows : List Row) (gs : List Page) (old : List ℕ) → Shows S h rows gs → place_of rows r.code ≡ some old
      → Shows S h (r ∷ without (λ q. q.code) r.code rows) (overwritten gs r)
  over_shows rows gs old s e = shows_reordered S h (overwritten gs r) (known_over r rows old s.once e) (all_over rows gs s)

  -- ---- as the code writes it: one page

  none_on : (rs : List Record) → ((q : Row) → Memᴰ q (map as_row rs) → q.code ≡ r.code → ⊥) → map (place_on r) rs ≡ rs
  none_on [] n = refl
  none_on (q ∷ rs) n = go (order r.code q.code) refl (none_on rs (λ y m. n y (Memᴰ.tail m)))
    where
      go : (o : Ordering) → order r.code q.code ≡ o → map (place_on r) rs ≡ rs → by o q (record { start = q.start; place = r.place; code = r.code }) q ∷ map (place_on r) rs ≡ q ∷ rs
      go Ordering.lt e i = ap (λ l. q ∷ l) i
      go Ordering.eq e i = absurd (n (as_row q) (Memᴰ.head refl) (sym (order_eq r.code q.code e)))
      go Ordering.gt e i = ap (λ l. q ∷ l) i

  module _ (rows : List Row) (gs : List Page) (s : Shows S h rows gs) where
    abbrev here : ℕ
    here = find (holds h (h r.code)) gs

    -- a page without the code keeps its records
    kept_page : (j : ℕ) (g : Page) → get_or gs j free ≡ g → (j ≡ here → ⊥) → overwrite_on r g ≡ g
    kept_page j free e n = refl
    kept_page j (bucket k rs) e n = ap (bucket k) (none_on rs (λ q m y. n (sym (only_page S h rows gs s j k rs e q m) ∙ ap (λ c. find (holds h (h c)) gs) y)))

    pub over_others : (j : ℕ) → (j ≡ here → ⊥) → get_or (overwritten gs r) j free ≡ get_or gs j free
    unfolding overwritten
    over_others j n = get_or-map (overwrite_on r) gs j free ∙ kept_page j (get_or gs j free) refl n

    pub over_one : overwritten gs r ≡ set gs here (overwrite_on r (get_or gs here free))
    unfolding overwritten
    over_one =
        ext_get_or free (overwritten gs r) (set gs here (overwrite_on r (get_or gs here free))) (length-map gs (overwrite_on r) ∙ sym (length-set gs here (overwrite_on r (get_or gs here free)))) at
      where
        at : (j : ℕ) → j < length (overwritten gs r) → get_or (overwritten gs r) j free ≡ get_or (set gs here (overwrite_on r (get_or gs here free))) j free
        at j l = go (ℕ_discrete j here)
          where
            go : Dec (j ≡ here) → get_or (overwritten gs r) j free ≡ get_or (set gs here (overwrite_on r (get_or gs here free))) j free
            go (no n) = over_others j n ∙ sym (get_or-set_other gs here j (overwrite_on r (get_or gs here free)) free n)
            go (yes e) =
                let m : here < length gs = omega (arith, length-map gs (overwrite_on r)) in
                get_or-map (overwrite_on r) gs j free ∙ ap (λ i. overwrite_on r (get_or gs i free)) e
                ∙ sym (get_or-set_same gs here (overwrite_on r (get_or gs here free)) free m) ∙ ap (λ i. get_or (set gs here (overwrite_on r (get_or gs here free))) i free) (sym e)
