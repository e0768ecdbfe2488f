-- Rows gathered on a page of their own, one after another. Assumes nothing.
use mathlib.Core.Path.{◌≡◌, refl, sym, ap, subst, subst₂, ◌∙◌}
use mathlib.Core.List.{List, [], ◌∷◌, ◌++◌, map, append_assoc, append-nil, flat_map}
use mathlib.Core.Bool.{Bool, true, false}
use mathlib.Core.Option.{some, none}
use Prim.Native.Nat.{ℕ, zero, suc, ◌+◌, ◌*◌, ◌≤◌, ◌<◌, max, Ordering}
use native.Mathlib.Omega.{arith}
use native.Mathlib.Numerals.{add-one}
use lib.ListN.{length, get_or, set, drop, length-map}
use lib.Seq.{drop-cons, drop-length}
use Rattle.ground.proofs.Tests.{none_some}
use Rattle.ground.proofs.Tables.{get_d_tab, length_tab}
use Rattle.words.specs.Codes.{order}
use Rattle.words.proofs.Orders.{order_refl, order_eq}
use Rattle.page.specs.Page.{Record, Slotted, BucketPage, Belongs, rows, row_at, count, code, place, frontier, depth, free as spare}
use Rattle.page.specs.Steps.{Insertable, Inserted}
use Rattle.page.proofs.Sums.{count_more, slot_code}
use Rattle.partition.specs.Partition.{Row, need, needs, Reordered, front, chain}
use Rattle.partition.specs.Listing.{by, insert, without, in_order, place_of, Once}
use Rattle.partition.proofs.Reorders.{same_order, turned, append_same, needs_same, needs_append, to_front}
use Rattle.partition.proofs.Maps.{cut, passed}
use Rattle.partition.proofs.Rising.{by_ne, insert_map}
use Rattle.partition.proofs.Sorted.{by_code, same_map, in_order_reordered, order_put}
use Rattle.store.specs.Pages.{Page, free, read, as_row, rows_on, rows_in}
use Rattle.store.specs.Moves.{pick, within, record_at, frontier_of, at_frontier}
use Rattle.store.proofs.Accepted.Unique.{read_used}
use Rattle.store.proofs.Paging.PageTies.{rows_tab, page_needs, page_order, page_frontier, inserted_rows, found_at}
use Rattle.joining.specs.Join.{Housed, Tight, Taking, Gathered, Storable, row_with, rows_at, others_in}

-- ---- rows left out of lists

pub cut_append : (c : List ℕ) (a b : List Row) → cut c (a ++ b) ≡ cut c a ++ cut c b
unfolding without
cut_append c [] b = refl
cut_append c (r ∷ a) b = ap (λ l. by (order c r.code) (r ∷ l) l (r ∷ l)) (cut_append c a b) ∙ go (order c r.code)
  where
    go : (o : Ordering) → by o (r ∷ cut c a ++ cut c b) (cut c a ++ cut c b) (r ∷ cut c a ++ cut c b) ≡ by o (r ∷ cut c a) (cut c a) (r ∷ cut c a) ++ cut c b
    go Ordering.lt = refl
    go Ordering.eq = refl
    go Ordering.gt = refl

pub cut_same : (r : Row) (c : List ℕ) → r.code ≡ c → cut c (r ∷ []) ≡ []
unfolding without
cut_same r c e = ap (λ o. by o (r ∷ []) [] (r ∷ [])) (ap (order c) e ∙ order_refl c)

pub cut_other : (r : Row) (c : List ℕ) → (r.code ≡ c → ⊥) → cut c (r ∷ []) ≡ r ∷ []
unfolding without
cut_other r c n = go (order c r.code) refl
  where
    go : (o : Ordering) → order c r.code ≡ o → by o (r ∷ []) [] (r ∷ []) ≡ r ∷ []
    go Ordering.lt e = refl
    go Ordering.eq e = absurd (n (sym (order_eq c r.code e)))
    go Ordering.gt e = refl

-- ---- rows that go on one page

none_left : (a b : List Row) (c : List ℕ) → place_of (a ++ b) c ≡ none → place_of a c ≡ none
unfolding place_of
none_left [] b c e = refl
none_left (q ∷ a) b c e =
    let t = passed (order c q.code) (place_of (a ++ b) c) q.place e in
    by_ne (order c q.code) (place_of a c) (some q.place) t.0 ∙ none_left a b c t.1

once_left : (a b : List Row) → Once (a ++ b) → Once a
once_left [] b o = tt
once_left (r ∷ a) b o = (none_left a b r.code o.0, once_left a b o.1)

pub housed_left : {n : ℕ} (a b : List Row) {t : List Row} → Reordered (a ++ b) t → Housed n t → Housed n a
housed_left a b {t} e k = record {
  once = once_left a b (same_map (turned e) k.once).0;
  fit = omega (arith, needs_append a b, needs_same e, k.fit);
}

-- ---- rows that come one after another

-- q has the rows of p and all but rest of the rows rs
pub record Coming (p : List ℕ) (rs rest : List Row) (q : List ℕ) : Type 0 where
  pub long : length q ≡ length p
  pub tight : Tight q
  pub deep : depth q ≡ depth p
  pub all : Reordered (rows_at q ++ rest) (rows_at p ++ rs)

pub coming_all : {p : List ℕ} {rs : List Row} → Taking p rs → Coming p rs rs p
coming_all {p} {rs} t = record { long = refl; tight = t.tight; deep = refl; all = same_order (rows_at p ++ rs) }

pub coming_none : {p q : List ℕ} {rs : List Row} → Coming p rs [] q → Gathered p rs q
coming_none {p} {q} {rs} k = record { long = k.long; tight = k.tight; deep = k.deep; all = subst (λ l. Reordered l (rows_at p ++ rs)) (append-nil (rows_at q)) k.all }

module _ {p q : List ℕ} {rs : List Row} (xs rest : List Row) (k : Coming p rs (xs ++ rest) q) where
  split : Reordered ((rows_at q ++ xs) ++ rest) (rows_at p ++ rs)
  split = subst (λ l. Reordered l (rows_at p ++ rs)) (sym (append_assoc (rows_at q) xs rest)) k.all

  pub next_taking : Taking p rs → Taking q xs
  next_taking t = record { tight = k.tight; all = subst (λ n. Housed n (rows_at q ++ xs)) (sym k.long) (housed_left (rows_at q ++ xs) rest split t.all) }

  pub next_coming : {u : List ℕ} → Gathered q xs u → Coming p rs rest u
  next_coming {u} g = record { long = g.long ∙ k.long; tight = g.tight; deep = g.deep ∙ k.deep; all = chain (append_same g.all (same_order rest)) split }

-- ---- one row

end_of : Record → ℕ
end_of r = r.start + (8 + length r.code)

front_insert : (r : Record) (l : List Record) → frontier_of (insert (λ q. q.code) r l) ≡ max (end_of r) (frontier_of l)
unfolding frontier_of insert end_of
front_insert r [] = refl
front_insert r (q ∷ l) = go (order r.code q.code) (front_insert r l)
  where
    go : (o : Ordering) → frontier_of (insert (λ q. q.code) r l) ≡ max (end_of r) (frontier_of l)
        → frontier_of (by o (r ∷ q ∷ l) (r ∷ q ∷ l) (q ∷ insert (λ q. q.code) r l)) ≡ max (end_of r) (frontier_of (q ∷ l))
    go Ordering.lt e = refl
    go Ordering.eq e = refl
    go Ordering.gt e = omega (arith, e)

module _ (p c pl : List ℕ) (K : Storable c pl) (T : Taking p (row_with c pl ∷ [])) where
  abbrev r : Row
  r = row_with c pl

  P : Slotted p
  P = T.tight.page

  last_first : Reordered (rows_at p ++ r ∷ []) (r ∷ rows_at p)
  last_first = subst (λ l. Reordered (rows_at p ++ r ∷ []) (r ∷ l)) (append-nil (rows_at p)) (to_front (rows_at p) r [])

  -- its code is new
  not_there : place_of (rows_at p) c ≡ none
  not_there = (same_map last_first T.all.once).0.0

  fits : 12 + length c ≤ spare p
  unfolding needs need
  fits = omega (arith, T.all.fit, needs_same last_first, page_needs p P)

  pub row_fits : (i : ℕ) → Belongs p i c → Insertable p i c pl
  row_fits i b = record {
    page = P;
    belongs = b;
    natural = K.natural;
    good = K.good;
    fits = fits;
    room = omega (arith, fits, T.tight.full);
  }

  pub row_added : (i : ℕ) (q : List ℕ) → Belongs p i c → Inserted p i c pl q → Gathered p (r ∷ []) q
  unfolding at_frontier needs need end_of
  row_added i q b I = record {
    long = I.long;
    tight = record { page = I.page; full = full };
    deep = I.deep;
    all = chain (subst (λ l. Reordered l (r ∷ rows_at p)) (sym put) (in_order_reordered (r ∷ rows_at p))) (turned last_first);
  }
    where
      its : rows q ≡ at_frontier (rows p) r
      its = inserted_rows p i c pl q P b I

      put : rows_at q ≡ in_order (r ∷ rows_at p)
      put =
          ap (map as_row) its ∙ insert_map (λ x. x.code) (λ x. x.code) as_row (λ x. refl) (record_at (frontier_of (rows p)) r) (rows p)
          ∙ ap (insert by_code r) (sym (page_order p P)) ∙ sym (order_put r (rows_at p))

      full : frontier q + 4 * count q + spare q ≡ length q
      full =
          let f : frontier q ≡ max (frontier p + (8 + length c)) (frontier p) =
          page_frontier q I.page ∙ ap frontier_of its ∙ front_insert (record_at (frontier_of (rows p)) r) (rows p) ∙ ap (λ n. max (n + (8 + length c)) n) (sym (page_frontier p P)) in
          let n : needs (rows_at q) ≡ needs (r ∷ rows_at p) = ap needs put ∙ needs_same (in_order_reordered (r ∷ rows_at p)) in
          omega (arith, f, n, fits, count_more p i c pl q I b.within, page_needs p P, page_needs q I.page, I.long, T.tight.full)

  pub row_known : (i : ℕ) → i < count p → code p i ≡ c → ⊥
  row_known i l e = none_some not_there (found_at p P c i l e)

-- ---- a page's rows

-- the row of slot i, which may be stored
abbrev pub row_in : List ℕ → ℕ → Row
row_in g i = row_with (code g i) (place g i)

pub slot_storable : (g : List ℕ) (i : ℕ) → Slotted g → i < count g → Storable (code g i) (place g i)
slot_storable g i P l = record {
  good = slot_code g i P l;
  natural = P.places i l;
}

-- from slot i on
pub slots_next : (c g : List ℕ) (i : ℕ) → i < count g → cut c (drop i (rows_at g)) ≡ cut c (row_in g i ∷ []) ++ cut c (drop (i + 1) (rows_at g))
slots_next c g i l =
    let n : length (rows_at g) ≡ count g = length-map (rows g) as_row ∙ length_tab (row_at g) (count g) in
    let at : get_or (rows_at g) i (row_in g 0) ≡ row_in g i = ap (λ t. get_or t i (row_in g 0)) (rows_tab g) ∙ get_d_tab (λ k. as_row (row_at g k)) (count g) i (row_in g 0) l in
    let e : drop i (rows_at g) ≡ row_in g i ∷ drop (suc i) (rows_at g) = drop-cons (rows_at g) i (row_in g 0) (omega arith) ∙ ap (λ r. r ∷ drop (suc i) (rows_at g)) at in
    ap (cut c) e ∙ cut_append c (row_in g i ∷ []) (drop (suc i) (rows_at g)) ∙ ap (λ k. cut c (row_in g i ∷ []) ++ cut c (drop k (rows_at g))) (sym (add-one i))

pub slots_end : (c g : List ℕ) → cut c (drop (count g) (rows_at g)) ≡ []
unfolding without
slots_end c g =
    let n : length (rows_at g) ≡ count g = length-map (rows g) as_row ∙ length_tab (row_at g) (count g) in
    ap (λ k. cut c (drop k (rows_at g))) (sym n) ∙ ap (cut c) (drop-length (rows_at g))

pub none_added : {p : List ℕ} → Tight p → Gathered p [] p
none_added {p} t = record { long = refl; tight = t; deep = refl; all = subst (Reordered (rows_at p)) (sym (append-nil (rows_at p))) (same_order (rows_at p)) }

-- ---- the pages of a prefix

-- rows before others
before_rows : (a b c : List Row) → Reordered (a ++ (b ++ c)) (b ++ (a ++ c))
before_rows a [] c = same_order (a ++ c)
before_rows a (y ∷ b) c = chain (to_front a y (b ++ c)) (front y (before_rows a b c))

-- the rows that are still to come, in another order
pub coming_reordered : {p q : List ℕ} {rs xs ys : List Row} → Reordered xs ys → Coming p rs xs q → Coming p rs ys q
coming_reordered {p} {q} e k = record { long = k.long; tight = k.tight; deep = k.deep; all = chain (append_same (same_order (rows_at q)) (turned e)) k.all }

module _ (h : List ℕ → ℕ) (j v : ℕ) (c : List ℕ) where
  -- the rows of another code of a page of the prefix
  abbrev pub others_on : Page → List Row
  others_on g = cut c (rows_on (pick (within h j v g) g free))

  -- a page of the prefix, and another
  pub others_on_lem : (g : List ℕ) → BucketPage g → within h j v (read g) ≡ true → others_on (read g) ≡ cut c (rows_at g)
  others_on_lem g b e = ap (λ t. cut c (rows_on (pick t (read g) free))) e ∙ ap (λ x. cut c (rows_on x)) (read_used g b)

  others_off : (g : Page) → within h j v g ≡ false → others_on g ≡ []
  unfolding without
  others_off g e = ap (λ t. cut c (rows_on (pick t g free))) e

  others_cons : (g : Page) (gs : List Page) → others_in h j v c (g ∷ gs) ≡ others_on g ++ others_in h j v c gs
  unfolding rows_in flat_map
  others_cons g gs = cut_append c (rows_on (pick (within h j v g) g free)) (rows_in (map (λ x. pick (within h j v x) x free) gs))

  -- one page's rows, and those of the pages without it
  pub one_out : (gs : List Page) (m : ℕ) → m < length gs → Reordered (others_in h j v c gs) (others_on (get_or gs m free) ++ others_in h j v c (set gs m free))
  one_out [] m l = absurd (omega arith)
  one_out (g ∷ gs) zero l =
      let e : others_in h j v c (free ∷ gs) ≡ others_in h j v c gs = others_cons free gs ∙ ap (λ x. x ++ others_in h j v c gs) (others_off free refl) in
      subst₂ Reordered (sym (others_cons g gs)) (ap (λ x. others_on g ++ x) (sym e)) (same_order (others_on g ++ others_in h j v c gs))
  one_out (g ∷ gs) (suc m) l =
      subst₂ Reordered (sym (others_cons g gs)) (ap (λ x. others_on (get_or gs m free) ++ x) (sym (others_cons g (set gs m free))))
      (chain (append_same (same_order (others_on g)) (one_out gs m (omega arith))) (before_rows (others_on g) (others_on (get_or gs m free)) (others_in h j v c (set gs m free))))

  -- no page of the prefix is left
  pub all_out : (gs : List Page) → others_in h j v c (map (λ g. pick (within h j v g) free g) gs) ≡ []
  unfolding without rows_in flat_map
  all_out [] = refl
  all_out (g ∷ gs) =
      others_cons (pick (within h j v g) free g) (map (λ x. pick (within h j v x) free x) gs)
      ∙ ap (λ x. x ++ others_in h j v c (map (λ x. pick (within h j v x) free x) gs)) (others_off (pick (within h j v g) free g) (go (within h j v g) refl)) ∙ all_out gs
    where
      go : (b : Bool) → within h j v g ≡ b → within h j v (pick b free g) ≡ false
      go true e = refl
      go false e = e
