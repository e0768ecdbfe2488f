-- Rows that go behind those of a packed page, and a bucket written so. Over any hash. Assumes nothing.
use mathlib.Core.Path.{◌≡◌, refl, sym, ap, subst, ◌∙◌}
use mathlib.Core.List.Memᴰ
use mathlib.Core.List.{List, [], ◌∷◌, ◌++◌, map, append-nil, append_assoc, Memᴰ}
use mathlib.Core.Logic.{⊎_elim}
use Prim.Native.Nat.{ℕ, ◌+◌, ◌-◌, ◌≤◌, ◌<◌}
use native.Mathlib.Omega.{arith}
use lib.ListN.{length, get_or, take, drop, length-map, length-drop}
use lib.Seq.{take_all, take-add, drop-drop, drop-cons}
use Rattle.ground.specs.Lists.{tab, insert_at}
use Rattle.ground.proofs.Tables.{length_tab, get_d_tab}
use Rattle.words.specs.Codes.{Before}
use Rattle.page.specs.Page.{Slotted, count, rows, row_at}
use Rattle.page.specs.Steps.{Insertable, Inserted}
use Rattle.page.specs.Packed.{Fresh}
use Rattle.partition.specs.Bits.{top}
use Rattle.partition.specs.Partition.{Row, need, needs, rows_of}
use Rattle.partition.specs.Listing.{insert, in_order, Once, Rising}
use Rattle.partition.proofs.Rising.{insert_tab}
use Rattle.partition.proofs.Rows.{rows_on, rows_off, some_need}
use Rattle.partition.proofs.Pages.{rows_append}
use Rattle.partition.proofs.Reorders.{needs_same, needs_append, length_same}
use Rattle.partition.proofs.Sorted.{by_code, in_order_reordered, order_rising, order_put, order_prefix, some_once}
use Rattle.store.specs.Pages.{as_row}
use Rattle.store.specs.Moves.{pack_from}
use Rattle.store.proofs.Paging.Slotwise.{pack_rows}
use Rattle.store.proofs.Paging.PageTies.{rows_tab, row_in, page_once, page_order, found_not, append_fits, appended_rows}
use Rattle.putting.specs.Put.{new_row}
use Rattle.putting.specs.Split.{slots, with_new, Behind, Appendable, Appended, Source, Bucketed}

-- ---- lists in order

rising_left : (s t : List Row) → Rising by_code (s ++ t) → Rising by_code s
rising_left [] t u = tt
rising_left (a ∷ s) t u = ((λ b m. u.0 b (Memᴰ.append_left t m)), rising_left s t u.1)

rising_before : (s : List Row) (x : Row) (t : List Row) → Rising by_code (s ++ x ∷ t) → (a : Row) → Memᴰ a s → Before a.code x.code
rising_before [] x t u a m = absurd (Memᴰ.not-nil m)
rising_before (b ∷ s) x t u a m = ⊎_elim
    (λ e. subst (λ y. Before y.code x.code) (sym e) (u.0 x (Memᴰ.append_right s (Memᴰ.head refl))))
    (λ n. rising_before s x t u.1 a n)
    (Memᴰ.cases_cons m)

-- ---- behind a packed page

module _ (p : List ℕ) where
  abbrev rs : List Row
  rs = map as_row (rows p)

  pub behind_left : (ts us : List Row) → Behind p (ts ++ us) → Behind p ts
  behind_left ts us B = record {
    page = B.page;
    packed = B.packed;
    rising = rising_left (rs ++ ts) us (subst (Rising by_code) (sym (append_assoc rs ts us)) B.rising);
    fits = omega (arith, B.fits, needs_append (rs ++ ts) us, ap needs (append_assoc rs ts us));
  }

  pub appended_none : Slotted p → rows p ≡ pack_from 8 (map as_row (rows p)) → Appended p [] p
  appended_none P e = record { page = P; size = refl; deep = refl; rows_of = e ∙ ap (pack_from 8) (sym (append-nil rs)) }

  module _ (ts : List Row) (q : List ℕ) (A : Appended p ts q) where
    pub rows_now : map as_row (rows q) ≡ map as_row (rows p) ++ ts
    rows_now = ap (map as_row) A.rows_of ∙ pack_rows (rs ++ ts) 8

    pub behind_next : (us : List Row) → Behind p (ts ++ us) → Behind q us
    behind_next us B = record {
      page = A.page;
      packed = A.rows_of ∙ ap (pack_from 8) (sym rows_now);
      rising = subst (Rising by_code) (sym all) B.rising;
      fits = subst (λ l. 8 + needs l ≤ length q) (sym all) (omega (arith, A.size, B.fits));
    }
      where
        all : map as_row (rows q) ++ us ≡ rs ++ (ts ++ us)
        all = ap (λ l. l ++ us) rows_now ∙ append_assoc rs ts us

    pub appended_then : (us : List Row) (r : List ℕ) → Appended q us r → Appended p (ts ++ us) r
    appended_then us r C = record {
      page = C.page;
      size = C.size ∙ A.size;
      deep = C.deep ∙ A.deep;
      rows_of = C.rows_of ∙ ap (pack_from 8) (ap (λ l. l ++ us) rows_now ∙ append_assoc rs ts us);
    }

  -- one row
  module _ (c pl : List ℕ) (A : Appendable p c pl) where
    abbrev B : Behind p (new_row c pl ∷ [])
    B = A.behind

    pub ready : Insertable p (count p) c pl
    unfolding needs need
    ready = append_fits p rs c pl B.page B.packed (λ i l. rising_before rs (new_row c pl) [] B.rising (as_row (row_at p i)) (row_in p i l))
        A.natural A.good (omega (arith, B.fits, needs_append rs (new_row c pl ∷ [])))

    pub done : (q : List ℕ) → Inserted p (count p) c pl q → Appended p (new_row c pl ∷ []) q
    done q I = record { page = I.page; size = I.long; deep = I.deep; rows_of = appended_rows p rs c pl B.page B.packed q I }

-- ---- the rows of a prefix

pub rows_yes : (h : List ℕ → ℕ) (r : Row) (k v : ℕ) → top k (h r.code) ≡ v → rows_of h (r ∷ []) k v ≡ r ∷ []
unfolding rows_of
rows_yes h r k v e = subst (λ w. rows_of h (r ∷ []) k w ≡ r ∷ []) e (rows_on h r [] k)

pub rows_no : (h : List ℕ → ℕ) (r : Row) (k v : ℕ) → (top k (h r.code) ≡ v → ⊥) → rows_of h (r ∷ []) k v ≡ []
unfolding rows_of
rows_no h r k v n = rows_off h r [] k v n

-- ---- slots

module _ (g : List ℕ) where
  all_slots : length (map as_row (rows g)) ≡ count g
  all_slots = length-map (rows g) as_row ∙ length_tab (row_at g) (count g)

  pub slots_none : (a : ℕ) → slots g a a ≡ []
  slots_none a = let z : a - a ≡ 0 = omega arith in ap (λ n. take n (drop a (map as_row (rows g)))) z

  pub slots_split : (a i b : ℕ) → a ≤ i → i ≤ b → slots g a b ≡ slots g a i ++ slots g i b
  slots_split a i b l m =
      let t : List Row = map as_row (rows g) in
      let e : b - a ≡ (i - a) + (b - i) = omega arith in
      let f : a + (i - a) ≡ i = omega arith in
      ap (λ n. take n (drop a t)) e ∙ take-add (i - a) (b - i) (drop a t) ∙ ap (λ x. take (i - a) (drop a t) ++ take (b - i) x) (drop-drop (i - a) a t ∙ ap (λ n. drop n t) f)

  pub slots_one : (i : ℕ) → i < count g → slots g i (i + 1) ≡ as_row (row_at g i) ∷ []
  slots_one i l =
      let m : List Row = map as_row (rows g) in
      let d : Row = record { code = []; place = [] } in
      let n : i + 1 - i ≡ 1 = omega arith in
      let e : get_or m i d ≡ as_row (row_at g i) = ap (λ x. get_or x i d) (rows_tab g) ∙ get_d_tab (λ j. as_row (row_at g j)) (count g) i d l in
      ap (λ k. take k (drop i m)) n ∙ ap (take 1) (drop-cons m i d (omega (arith, all_slots))) ∙ ap (λ x. x ∷ []) e

  pub slots_more : (h : List ℕ → ℕ) (a i k v : ℕ) → a ≤ i → i < count g → rows_of h (slots g a (i + 1)) k v ≡ rows_of h (slots g a i) k v ++ rows_of h (as_row (row_at g i) ∷ []) k v
  slots_more h a i k v l m =
      ap (λ x. rows_of h x k v) (slots_split a i (i + 1) l (omega arith) ∙ ap (λ x. slots g a i ++ x) (slots_one i m)) ∙ rows_append h (slots g a i) (as_row (row_at g i) ∷ []) k v

  pub slots_apart : (h : List ℕ → ℕ) (i b k v : ℕ) → i < b → i < count g → rows_of h (slots g i b) k v ≡ rows_of h (as_row (row_at g i) ∷ []) k v ++ rows_of h (slots g (i + 1) b) k v
  slots_apart h i b k v l m =
      ap (λ x. rows_of h x k v) (slots_split i (i + 1) b (omega arith) (omega arith) ∙ ap (λ x. x ++ slots g (i + 1) b) (slots_one i m)) ∙ rows_append h (as_row (row_at g i) ∷ []) (slots g (i + 1) b) k v

  slots_first : (i : ℕ) → slots g 0 i ≡ take i (map as_row (rows g))
  slots_first i = let e : i - 0 ≡ i = omega arith in ap (λ n. take n (map as_row (rows g))) e

  slots_last : (i : ℕ) → i ≤ count g → slots g i (count g) ≡ drop i (map as_row (rows g))
  slots_last i l = take_all (count g - i) (drop i (map as_row (rows g))) (omega (arith, length-drop i (map as_row (rows g)), all_slots))

-- ---- a bucket of a page's rows and a new row

module _ (h : List ℕ → ℕ) (g : List ℕ) (i : ℕ) (c pl : List ℕ) (Z : Source g i c pl) (k v : ℕ) where
  abbrev r : Row
  r = new_row c pl

  abbrev qs : List Row
  qs = map as_row (rows g)

  -- before the new row, the new row, and behind it
  abbrev pub parts : List Row
  parts = rows_of h (slots g 0 i) k v ++ (rows_of h (new_row c pl ∷ []) k v ++ rows_of h (slots g i (count g)) k v)

  once : Once (r ∷ qs)
  once = (found_not g Z.page c i Z.belongs, page_once g Z.page)

  put_in : in_order (r ∷ qs) ≡ slots g 0 i ++ (r ∷ slots g i (count g))
  unfolding insert_at
  put_in =
      order_put r qs ∙ ap (insert by_code r) (page_order g Z.page ∙ rows_tab g)
      ∙ insert_tab by_code (λ j. as_row (row_at g j)) (count g) i r Z.belongs.within Z.belongs.left Z.belongs.right ∙ ap (insert_at i r) (sym (rows_tab g))
      ∙ (λ x. sym (slots_first g i) x ++ (r ∷ sym (slots_last g i Z.belongs.within) x))

  pub ordered : in_order (rows_of h (r ∷ qs) k v) ≡ parts
  ordered =
      order_prefix h k v (r ∷ qs) once ∙ ap (λ l. rows_of h l k v) put_in ∙ rows_append h (slots g 0 i) (r ∷ slots g i (count g)) k v
      ∙ ap (λ l. rows_of h (slots g 0 i) k v ++ l) (rows_append h (r ∷ []) (slots g i (count g)) k v)

  -- an empty page, before the rows are put behind one another
  module _ (e : List ℕ) (x : List ℕ) (F : Fresh e k x) (fits : 8 + needs (rows_of h (with_new g (new_row c pl)) k v) ≤ length e) where
    bare : rows x ≡ []
    unfolding tab
    bare = ap (tab (row_at x)) F.none

    pub fresh_behind : Behind x parts
    unfolding pack_from
    fresh_behind = record {
      page = F.page;
      packed = bare ∙ sym (ap (λ l. pack_from 8 (map as_row l)) bare);
      rising = subst (Rising by_code) all (order_rising (rows_of h (r ∷ qs) k v) (some_once h k v (r ∷ qs) once));
      fits = subst (λ l. 8 + needs l ≤ length x) all (omega (arith, fits, F.long, needs_same (in_order_reordered (rows_of h (r ∷ qs) k v))));
    }
      where
        all : in_order (rows_of h (r ∷ qs) k v) ≡ map as_row (rows x) ++ parts
        all = ordered ∙ ap (λ l. map as_row l ++ parts) (sym bare)

    pub bucketed : 0 < needs (rows_of h (with_new g (new_row c pl)) k v) → (y : List ℕ) → Appended x parts y → Bucketed h (with_new g (new_row c pl)) k v e y
    bucketed some y A = record {
      page = record { rules = A.page; some = omega (arith, length_tab (row_at y) (count y), length-map (rows y) as_row, ap length (ap (map as_row) its ∙ pack_rows (in_order (rows_of h (r ∷ qs) k v)) 8), length_same (in_order_reordered (rows_of h (r ∷ qs) k v)), (some_need (rows_of h (r ∷ qs) k v)).1 some) };
      size = A.size ∙ F.long;
      deep = A.deep ∙ F.deep;
      rows_of = its;
    }
      where
        its : rows y ≡ pack_from 8 (in_order (rows_of h (r ∷ qs) k v))
        its = A.rows_of ∙ ap (λ l. pack_from 8 (map as_row l ++ parts)) bare ∙ ap (pack_from 8) (sym ordered)
