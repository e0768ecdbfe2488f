-- A page's rows, and what the page functions leave, in the words of the map, the listing and the moves. Assumes nothing.
use borrow.Author.Tests.{le-leb, lt-leb}
use mathlib.Core.Path.{◌≡◌, sym, ap, subst, ◌∙◌}
use mathlib.Core.Bool.{true, false}
use mathlib.Core.List.{List, [], ◌∷◌, ◌++◌, map, Memᴰ}
use mathlib.Core.Logic.{◌↔◌, ⊎_elim}
use mathlib.Core.Option.{some, none}
use Prim.Native.Nat.{Ordering}
use Prim.Native.Nat.{ℕ, ◌+◌, ◌-◌, ◌*◌, ◌≤◌, ◌<◌}
use native.Mathlib.Omega.{arith}
use lib.Dec.{leb}
use lib.ListN.{length, set, replicate, length-replicate, get_or-replicate, length-map, get_or-eq_default}
use lib.Seq.{take-length, drop-length}
use Rattle.ground.specs.Lists.{tab, total, insert_at, remove_at}
use Rattle.ground.proofs.Sides.{side}
use Rattle.ground.proofs.Tables.{length_tab, tab_same, tab_set, tab_map, total_same}
use Rattle.words.specs.Codes.{GoodCode, order, Before}
use Rattle.words.proofs.Orders.{order_refl, irrefl}
use Rattle.partition.specs.declared.Shape.{Shape}
use Rattle.partition.specs.Partition.{Row, need, needs}
use Rattle.partition.specs.Listing.{by, insert, without, in_order, place_of, Once, Rising}
use Rattle.partition.proofs.Rising.{by_ne, unlike, unlike_after, tab_in, tab_member, rising_tab, insert_tab, without_tab}
use Rattle.partition.proofs.Sorted.{by_code, rising_once, order_own}
use Rattle.partition.proofs.Maps.{placed, missing}
use Rattle.page.specs.Page.{Slotted, Belongs, Natural, Record, rows, row_at, count, frontier, free, depth, off, len, place, code}
use Rattle.page.specs.Steps.{Insertable, Inserted, Removed, Overwritten}
use Rattle.page.specs.Packed.{Packed, Fitting, Added}
use Rattle.page.proofs.Sums.{len_of_code}
use Rattle.page.proofs.Packs.{once_packed}
use Rattle.store.specs.Pages.{size, bucket, read, reading, as_row}
use Rattle.store.specs.Pages as Pages
use Rattle.store.specs.Accepted.{Zero}
use Rattle.store.specs.Moves.{pick, record_at, pack_from, frontier_of, at_frontier, added, place_on}
use Rattle.store.proofs.Accepted.Unique.{read_zero}
use Rattle.store.proofs.Paging.Slotwise.{needs_tab, pack_tab, span, needs_span, pack_rows, pack_more, pack_top, Highest, highest}

-- the row of slot i
abbrev row : List ℕ → ℕ → Row
row p i = as_row (row_at p i)

pub rows_tab : (p : List ℕ) → map as_row (rows p) ≡ tab (row p) (count p)
rows_tab p = tab_map as_row (row_at p) (count p)

-- the page's rows are those of its slots
pub row_in : (p : List ℕ) (i : ℕ) → i < count p → Memᴰ (as_row (row_at p i)) (map as_row (rows p))
row_in p i l = rw rows_tab (tab_in (row p) (count p) i l)

pub slot_of : (p : List ℕ) (r : Row) → Memᴰ r (map as_row (rows p)) → (i : ℕ) × (i < count p) × (r ≡ as_row (row_at p i))
slot_of p r m = tab_member (row p) (count p) r (rw rows_tab at m)

-- put in at the slot where its code belongs
pub insert_belongs : (p : List ℕ) (s : ℕ) (r : Record) → Belongs p s r.code → insert_at s r (rows p) ≡ insert (λ q. q.code) r (rows p)
insert_belongs p s r b = sym (insert_tab (λ q. q.code) (row_at p) (count p) s r b.within b.left b.right)

module _ (p : List ℕ) (P : Slotted p) where
  -- two slots have two codes
  other_code : (s i : ℕ) → s < count p → i < count p → (i ≡ s → ⊥) → order (code p s) (code p i) ≡ Ordering.eq → ⊥
  other_code s i h m ne = ⊎_elim
      (λ l. unlike (code p s) (code p i) (P.ascending s i l m))
      (λ g. unlike_after (code p s) (code p i) (P.ascending i s (omega (arith, ne)) h))
      (side s i)

  -- taken out at slot s, its code is left out
  pub remove_without : (s : ℕ) → s < count p → remove_at s (rows p) ≡ without (λ q. q.code) (code p s) (rows p)
  remove_without s h = sym (without_tab (λ q. q.code) (row_at p) (count p) s h (λ i l. P.ascending i s l h) (λ i l m. P.ascending s i l m))

  -- the place of slot s replaced
  pub set_place_on : (s : ℕ) (pl : List ℕ) → s < count p
      → set (rows p) s (record { start = off p s; place = pl; code = code p s }) ≡ map (place_on (record { code = code p s; place = pl })) (rows p)
  set_place_on s pl h =
      let r : Row = record { code = code p s; place = pl } in
      let here : place_on r (row_at p s) ≡ record_at (off p s) r = ap (λ o. by o (row_at p s) (record_at (off p s) r) (row_at p s)) (order_refl (code p s)) in
      ap (set (rows p) s) (sym here)
      ∙ sym (tab_set (row_at p) (λ i. place_on r (row_at p i)) (count p) s h (λ i m ne. by_ne (order (code p s) (code p i)) (row_at p i) (record_at (off p i) r) (other_code s i h m ne)))
      ∙ sym (tab_map (place_on r) (row_at p) (count p))

  -- rows in code order, no code twice
  rising : Rising by_code (map as_row (rows p))
  rising = rw rows_tab (rising_tab by_code (row p) (count p) P.ascending)

  pub page_once : Once (map as_row (rows p))
  page_once = rising_once (map as_row (rows p)) rising

  pub page_order : in_order (map as_row (rows p)) ≡ map as_row (rows p)
  page_order = order_own (map as_row (rows p)) rising

  -- what a search says of the map
  pub found_at : (c : List ℕ) (i : ℕ) → i < count p → code p i ≡ c → place_of (map as_row (rows p)) c ≡ some (place p i)
  found_at c i h e = subst (λ x. place_of (map as_row (rows p)) x ≡ some (place p i)) e (placed (map as_row (rows p)) page_once (row p i) (row_in p i h))

  pub found_not : (c : List ℕ) (s : ℕ) → Belongs p s c → place_of (map as_row (rows p)) c ≡ none
  found_not c s b = missing (map as_row (rows p)) c (λ r m e. let w = slot_of p r m in ⊎_elim (lower w.0 (e ∙ ap by_code w.2)) (upper w.0 w.1 (e ∙ ap by_code w.2)) (side w.0 s))
    where
      lower : (i : ℕ) → c ≡ code p i → i < s → ⊥
      lower i e l = irrefl c (subst (λ d. Before d c) (sym e) (b.left i l))

      upper : (i : ℕ) → i < count p → c ≡ code p i → s ≤ i → ⊥
      upper i h e g = irrefl c (subst (λ d. Before c d) (sym e) (b.right i g h))

  -- needs and total free
  pub page_needs : free p + needs (map as_row (rows p)) ≡ length p - 8
  unfolding need
  page_needs =
      let t : needs (map as_row (rows p)) ≡ total (λ i. need (row p i)) (count p) = ap needs (rows_tab p) ∙ needs_tab (row p) (count p) in
      let u : total (λ i. need (row p i)) (count p) ≡ total (λ i. 4 + len p i) (count p) =
      total_same (λ i. need (row p i)) (λ i. 4 + len p i) (count p) (λ i h. omega (arith, len_of_code p i P h)) in
      omega (arith, t, u, P.unused)

  -- a row fits exactly when total free is its need
  pub fits_needs : (S : Shape) (r : Row) → length p ≡ size S → (need r ≤ free p) ↔ (needs (r ∷ map as_row (rows p)) ≤ S.capacity)
  unfolding needs
  fits_needs S r l = (λ h. omega (arith, page_needs), λ h. omega (arith, page_needs))

  -- the frontier is the largest record end
  pub page_frontier : frontier p ≡ frontier_of (rows p)
  page_frontier = ⊎_elim empty some (side (count p) 1)
    where
      H : Highest (row_at p) (count p) (frontier_of (rows p))
      H = highest (row_at p) (count p)

      ends : (i : ℕ) → i < count p → off p i + (8 + length (code p i)) ≡ off p i + len p i
      ends i h = omega (arith, len_of_code p i P h)

      below : frontier_of (rows p) ≤ frontier p
      below = ⊎_elim
          (λ a. let r : (i : ℕ) × (i < count p) × (off p i + (8 + length (code p i)) ≡ frontier_of (rows p)) = H.reached a in omega (arith, r.2, ends r.0 r.1, P.inside r.0 r.1))
          (λ b. omega (arith, P.start))
          (side 8 (frontier_of (rows p)))

      empty : count p < 1 → frontier p ≡ frontier_of (rows p)
      empty h = omega (arith, below, P.empty (omega arith), H.least)

      some : 1 ≤ count p → frontier p ≡ frontier_of (rows p)
      some h =
          let t : (i : ℕ) × (i < count p) × (off p i + len p i ≡ frontier p) = P.top h in
          omega (arith, below, t.2, ends t.0 t.1, H.most t.0 t.1)

  -- a packed page
  pub packed_rows : (q : List ℕ) → Packed p q → rows q ≡ pack_from 8 (map as_row (rows p))
  packed_rows q K =
      let l : ℕ → ℕ = λ j. 8 + length (code p j) in
      let starts : (i : ℕ) → i < count p → total (len p) i ≡ total l i = λ i h. total_same (len p) l i (λ j m. len_of_code p j P (omega arith)) in
      rw K.counted (tab_same (row_at q) (λ i. record_at (8 + total l i) (row p i)) (count p) (λ i h. λ k. record {
        start = ((K.each i h).start ∙ ap (λ n. 8 + n) (starts i h)) k;
        place = (K.each i h).placed k;
        code = (K.each i h).coded k;
      }))
      ∙ sym (ap (pack_from 8) (rows_tab p) ∙ pack_tab (row p) (count p) 8)

-- the row of a code and a place
abbrev row_of : List ℕ → List ℕ → Row
row_of c pl = record { code = c; place = pl }

-- what the page functions leave
pub inserted_rows : (p : List ℕ) (s : ℕ) (c pl q : List ℕ) → Slotted p → Belongs p s c → Inserted p s c pl q → rows q ≡ at_frontier (rows p) (row_of c pl)
unfolding at_frontier
inserted_rows p s c pl q P b I =
    I.rows_of ∙ insert_belongs p s (record_at (frontier p) (row_of c pl)) b ∙ ap (λ f. insert (λ q. q.code) (record_at f (row_of c pl)) (rows p)) (page_frontier p P)

pub added_rows : (S : Shape) (p : List ℕ) (s : ℕ) (c pl t q t' : List ℕ) → length p ≡ size S → Fitting p s c pl → Added p s c pl t q t' → rows q ≡ added S (rows p) (row_of c pl)
unfolding added need
added_rows S p s c pl t q t' z F A =
    let r : Row = row_of c pl in
    let f : frontier p ≡ frontier_of (rows p) = page_frontier p F.page in
    let n : length (rows p) ≡ count p = length_tab (row_at p) (count p) in
    let x : ℕ = frontier_of (rows p) + 4 * length (rows p) + need r in
    ⊎_elim
    (λ l.
    let T = A.tight (omega arith) in
    let g : List ℕ = T.0.0 in
    let e : leb x (size S) ≡ false = lt-leb x (size S) (omega arith) in
    inserted_rows g s c pl q T.0.1.page (once_packed F T.0.1).belongs T.0.2
    ∙ ap (λ rs. at_frontier rs r) (packed_rows p F.page g T.0.1)
    ∙ sym (ap (λ b. pick b (at_frontier (rows p) r) (at_frontier (pack_from 8 (map as_row (rows p))) r)) e))
    (λ h.
    let e : leb x (size S) ≡ true = le-leb x (size S) h in
    inserted_rows p s c pl q F.page F.belongs (A.roomy (omega arith)).0
    ∙ sym (ap (λ b. pick b (at_frontier (rows p) r) (at_frontier (pack_from 8 (map as_row (rows p))) r)) e))
    (side (size S) x)

pub removed_rows : (p : List ℕ) (s : ℕ) (q : List ℕ) → Slotted p → s < count p → Removed p s q → rows q ≡ without (λ r. r.code) (code p s) (rows p)
removed_rows p s q P h R = R.rows_of ∙ remove_without p P s h

pub overwritten_rows : (p : List ℕ) (s : ℕ) (pl q : List ℕ) → Slotted p → s < count p → Overwritten p s pl q → rows q ≡ map (place_on (row_of (code p s) pl)) (rows p)
overwritten_rows p s pl q P h O = O.rows_of ∙ set_place_on p P s pl h

-- how a page reads
pub read_slotted : (g : List ℕ) → Slotted g → read g ≡ bucket (depth g) (rows g)
unfolding read
read_slotted g P = ap (λ b. reading b g) P.one

pub zeros : (n : ℕ) → Zero (replicate n 0)
zeros n k = ⊎_elim (λ l. get_or-replicate n k 0 0 l) (λ g. get_or-eq_default (replicate n 0) 0 (rw (length-replicate {A = ℕ} n 0) g)) (side k n)

pub read_cleared : (n : ℕ) → read (replicate n 0) ≡ Pages.free
read_cleared n = read_zero (replicate n 0) (zeros n)

-- ---- a packed page with a row put behind the others

insert_last : {A : Type 0} (l : List A) (n : ℕ) (x : A) → length l ≡ n → insert_at n x l ≡ l ++ x ∷ []
unfolding insert_at
insert_last l n x e = rw (← e) (λ k. take-length l k ++ (x ∷ drop-length l k))

module _ (q : List ℕ) (rs : List Row) (c pl : List ℕ) (Q : Slotted q) (K : rows q ≡ pack_from 8 rs) where
  many : count q ≡ length rs
  many = sym (length_tab (row_at q) (count q)) ∙ sym (length-map (rows q) as_row) ∙ ap length (ap (map as_row) K ∙ pack_rows rs 8)

  reach : frontier q ≡ 8 + span rs
  reach = omega (arith, page_frontier q Q, ap frontier_of K, Q.start, pack_top rs 8 (omega arith))

  -- there is room at its frontier for a row that fits
  pub append_fits : ((i : ℕ) → i < count q → Before (code q i) c) → Natural pl → GoodCode c → needs rs + (12 + length c) ≤ length q - 8 → Insertable q (count q) c pl
  append_fits lo n good h = record {
    page = Q;
    belongs = record { within = omega arith; left = lo; right = λ i l m. absurd (omega arith) };
    natural = n;
    good = good;
    fits = omega (arith, page_needs q Q, ap needs (ap (map as_row) K ∙ pack_rows rs 8));
    room = omega (arith, reach, many, needs_span rs, Q.least);
  }

  pub appended_rows : (q' : List ℕ) → Inserted q (count q) c pl q' → rows q' ≡ pack_from 8 (rs ++ row_of c pl ∷ [])
  appended_rows q' I =
      I.rows_of
      ∙ insert_last (rows q) (count q) (record_at (frontier q) (row_of c pl)) (length_tab (row_at q) (count q))
      ∙ (λ k. K k ++ record_at (reach k) (row_of c pl) ∷ [])
      ∙ sym (pack_more rs (row_of c pl) 8)
