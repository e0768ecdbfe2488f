-- Pages that show rows: where a row is, which page holds a hash, and that pages show rows as soon as each bucket is on one page and no other page is used.
-- Assumes nothing.
use borrow.Author.Tests.{eq-eqb, eqb-true}
use mathlib.Core.Path.{◌≡◌, refl, sym, ap, ap₂, subst, ◌∙◌}
use mathlib.Core.Bool.{Bool, true, false, true≢false}
use mathlib.Core.List.Memᴰ
use mathlib.Core.List.{List, [], ◌∷◌, map, flat_map, Memᴰ}
use mathlib.Core.Logic.{◌⊎◌, inl, inr, ◌↔◌}
use mathlib.Core.Option.{Option, some, none}
use Prim.Native.Nat.{ℕ, zero, suc, ◌/◌, ◌^◌, ◌≤◌, ◌<◌}
use native.Mathlib.Omega.{arith}
use lib.Dec.{eqb}
use lib.ListN.{length, get_or, get_or-eq_default}
use Rattle.page.specs.Page.{Record}
use Rattle.partition.specs.Bits.{top}
use Rattle.partition.specs.declared.Shape.{Shape}
use Rattle.partition.specs.Partition.{Row, Prefix, IsBucket, Fine, Reordered, chain, rows_of, buckets, or_else}
use Rattle.partition.specs.Listing.{in_order, Once}
use Rattle.partition.proofs.Tree.{pfx}
use Rattle.partition.proofs.Rows.{same_bucket, listed}
use Rattle.partition.proofs.Laws.{no_overlap, held, load_reordered}
use Rattle.partition.proofs.Sum.{prefix_row, head_of}
use Rattle.partition.proofs.Store.{every_row, fine_reordered, not_deeper}
use Rattle.partition.proofs.Sorted.{some_once, same_map, bucket_same}
use Rattle.partition.proofs.Pages.{turned}
use Rattle.partition.proofs.Members.{mem_reordered, in_order_reordered, once_append, once_ext}
use Rattle.ground.proofs.Sides.{side}
use Rattle.store.specs.Pages.{Page, free, bucket, as_row, rows_on, rows_in}
use Rattle.store.specs.Moves.{pick, find, within, holds, bucket_of}
use Rattle.store.proofs.Showing.Shows.{prefix_on, OnPage, Holding, Shows}

pub free_not : {k : ℕ} {rs : List Record} → free ≡ bucket k rs → ⊥
free_not e = let z : ◌≡◌ {A = ℕ} 0 1 = cc in omega arith

pub within_pages : (gs : List Page) (i k : ℕ) (rs : List Record) → Holding gs i k rs → i < length gs
within_pages gs i k rs e = go (side i (length gs))
  where
    go : (i < length gs) ⊎ (length gs ≤ i) → i < length gs
    go (inl l) = l
    go (inr l) = absurd (free_not (sym (get_or-eq_default gs free l) ∙ e))

-- ---- rows and pages

pub row_on : (gs : List Page) (r : Row) → Memᴰ r (rows_in gs) → (i : ℕ) × (k : ℕ) × (rs : List Record) × Holding gs i k rs × Memᴰ r (map as_row rs)
unfolding rows_in flat_map
row_on [] r m = absurd (Memᴰ.not-nil m)
row_on (free ∷ gs) r m = let w = row_on gs r m in (suc w.0, w.1, w.2, w.3, w.4)
row_on (bucket k rs ∷ gs) r m = go (Memᴰ.append_cases (map as_row rs) m) (row_on gs r)
  where
    go : Memᴰ r (map as_row rs) ⊎ Memᴰ r (rows_in gs)
        → (Memᴰ r (rows_in gs) → (i : ℕ) × (k : ℕ) × (rs : List Record) × Holding gs i k rs × Memᴰ r (map as_row rs))
        → (i : ℕ) × (l : ℕ) × (qs : List Record) × Holding (bucket k rs ∷ gs) i l qs × Memᴰ r (map as_row qs)
    go (inl t) rest = (0, k, rs, refl, t)
    go (inr t) rest = let w = rest t in (suc w.0, w.1, w.2, w.3, w.4)

pub on_row : (gs : List Page) (i k : ℕ) (rs : List Record) → Holding gs i k rs → (r : Row) → Memᴰ r (map as_row rs) → Memᴰ r (rows_in gs)
unfolding rows_in flat_map
on_row [] i k rs e r m = absurd (free_not e)
on_row (g ∷ gs) zero k rs e r m = Memᴰ.append_left (rows_in gs) (subst (λ p. Memᴰ r (rows_on p)) (sym e) m)
on_row (g ∷ gs) (suc i) k rs e r m = Memᴰ.append_right (rows_on g) (on_row gs i k rs e r m)

-- no code stands twice on pages where none does on a page, and no two pages share one
once_in : (gs : List Page) → ((i k : ℕ) (rs : List Record) → Holding gs i k rs → Once (map as_row rs))
    → ((i j k l : ℕ) (rs qs : List Record) → Holding gs i k rs → Holding gs j l qs → (r q : Row) → Memᴰ r (map as_row rs) → Memᴰ q (map as_row qs) → r.code ≡ q.code → i ≡ j)
    → Once (rows_in gs)
unfolding rows_in flat_map
once_in [] f a = tt
once_in (free ∷ gs) f a = once_in gs (λ i k rs e. f (suc i) k rs e) (λ i j k l rs qs x y r q m n e. let z : suc i ≡ suc j = a (suc i) (suc j) k l rs qs x y r q m n e in omega arith)
once_in (bucket k rs ∷ gs) f a =
    once_append (map as_row rs) (rows_in gs) (f 0 k rs refl)
    (once_in gs (λ i k rs e. f (suc i) k rs e) (λ i j k l rs qs x y r q m n e. let z : suc i ≡ suc j = a (suc i) (suc j) k l rs qs x y r q m n e in omega arith))
    (λ r q m n e. let w = row_on gs q n in let z : 0 ≡ suc w.0 = a 0 (suc w.0) k w.1 rs w.2 refl w.3 r q m w.4 e in omega arith)

-- ---- the first page that passes a test

pub find_least : (f : Page → Bool) (gs : List Page) (i : ℕ) → i < length gs → f (get_or gs i free) ≡ true → find f gs ≤ i
unfolding find
find_least f [] i l e = absurd (omega arith)
find_least f (g ∷ gs) i l e = go (f g) refl i l e (find_least f gs)
  where
    go : (b : Bool) → f g ≡ b → (i : ℕ) → i < suc (length gs) → f (get_or (g ∷ gs) i free) ≡ true → ((i : ℕ) → i < length gs → f (get_or gs i free) ≡ true → find f gs ≤ i)
        → find f (g ∷ gs) ≤ i
    go true p i l e rest = rw p (omega arith)
    go false p zero l e rest = absurd (true≢false (sym e ∙ p))
    go false p (suc i) l e rest = rw p (omega (arith, rest i (omega arith) e))

pub find_passes : (f : Page → Bool) (gs : List Page) → find f gs < length gs → f (get_or gs (find f gs) free) ≡ true
unfolding find
find_passes f [] l = absurd (omega arith)
find_passes f (g ∷ gs) l = go (f g) refl (find_passes f gs) l
  where
    go : (b : Bool) → f g ≡ b → (find f gs < length gs → f (get_or gs (find f gs) free) ≡ true) → pick b 0 (suc (find f gs)) < suc (length gs)
        → f (get_or (g ∷ gs) (pick b 0 (suc (find f gs))) free) ≡ true
    go true e rest l = e
    go false e rest l = rest (omega arith)

pub within_on : (h : List ℕ → ℕ) (j v k : ℕ) (rs : List Record) → 0 < length rs → (within h j v (bucket k rs) ≡ true) ↔ (prefix_on h j rs ≡ v)
within_on h j v k [] l = absurd (omega arith)
within_on h j v k (r ∷ rs) l = (
  eqb-true (top j (h r.code)) v,
  eq-eqb (top j (h r.code)) v,
)

module _ (h : List ℕ → ℕ) where
  pub holds_on : (x k : ℕ) (rs : List Record) → 0 < length rs → (holds h x (bucket k rs) ≡ true) ↔ (prefix_on h k rs ≡ top k x)
  holds_on x k rs l = within_on h k (top k x) k rs l

  holds_free : (x : ℕ) (g : Page) → g ≡ free → holds h x g ≡ true → ⊥
  holds_free x g e t = true≢false (sym t ∙ ap (λ p. holds h x p) e)

-- every bucket
abbrev pub Any : ℕ → ℕ → Type 0
Any k v = Unit {0}

-- ---- what a page has

module _ (S : Shape) (h : List ℕ → ℕ) where
  -- a page's rows are the rows of its prefix
  pub page_row : (rows : List Row) (k : ℕ) (rs : List Record) → OnPage S h rows k rs → (r : Row) → Memᴰ r (map as_row rs) ↔ (Memᴰ r rows × (top k (h r.code) ≡ prefix_on h k rs))
  page_row rows k rs o r = (
    (λ m. prefix_row h rows k (prefix_on h k rs) r (mem_reordered (in_order_reordered (rows_of h rows k (prefix_on h k rs))) (subst (λ l. Memᴰ r l) o.ordered m))),
    (λ m. subst (λ l. Memᴰ r l) (sym o.ordered) (mem_reordered (turned (in_order_reordered (rows_of h rows k (prefix_on h k rs)))) (subst (λ v. Memᴰ r (rows_of h rows k v)) m.1 (held S h rows r m.0 k)))),
  )

  page_once : (rows : List Row) (k : ℕ) (rs : List Record) → Once rows → OnPage S h rows k rs → Once (map as_row rs)
  page_once rows k rs n o =
      let v : ℕ = prefix_on h k rs in
      subst Once (sym o.ordered) (same_map (turned (in_order_reordered (rows_of h rows k v))) (some_once h k v rows n)).0

  -- records that are a bucket's rows in code order are its page
  pub page_of_lem : (rows : List Row) (k v : ℕ) (rs : List Record) → IsBucket S h rows k v → map as_row rs ≡ in_order (rows_of h rows k v) → OnPage S h rows k rs × (prefix_on h k rs ≡ v)
  page_of_lem rows k v [] b e =
      let r = head_of (rows_of h rows k v) b.has in
      absurd (Memᴰ.not-nil (subst (λ l. Memᴰ r.0 l) (sym e) (mem_reordered (turned (in_order_reordered (rows_of h rows k v))) r.1)))
  page_of_lem rows k v (q ∷ rs) b e =
      let m = mem_reordered (in_order_reordered (rows_of h rows k v)) (subst (λ l. Memᴰ (as_row q) l) e (Memᴰ.head refl)) in
      let p : prefix_on h k (q ∷ rs) ≡ v = (prefix_row h rows k v (as_row q) m).1 in
      (record { some = omega arith; is = rw p b; ordered = rw p e }, p)

  -- pages that show those buckets of the rows of which P holds, each on one page, and nothing else
  pub record Part (rows : List Row) (P : ℕ → ℕ → Type 0) (gs : List Page) : Type 0 where
    pub page : (i k : ℕ) (rs : List Record) → Holding gs i k rs → OnPage S h rows k rs × P k (prefix_on h k rs)
    pub apart : (i j k : ℕ) (rs qs : List Record) → Holding gs i k rs → Holding gs j k qs → prefix_on h k rs ≡ prefix_on h k qs → i ≡ j
    pub all : (k v : ℕ) → IsBucket S h rows k v → P k v → (i : ℕ) × (rs : List Record) × Holding gs i k rs × (prefix_on h k rs ≡ v)

  module _ (rows : List Row) (P : ℕ → ℕ → Type 0) (gs : List Page) (p : Part rows P gs) where
    -- at most one page holds a hash
    pub one_holder : (x i j k l : ℕ) (rs qs : List Record) → Holding gs i k rs → Holding gs j l qs → top k x ≡ prefix_on h k rs → top l x ≡ prefix_on h l qs → i ≡ j
    one_holder x i j k l rs qs a b y z =
        let e = no_overlap S h rows k (prefix_on h k rs) l (prefix_on h l qs) x (p.page i k rs a).0.is (p.page j l qs b).0.is y z in
        p.apart i j k rs qs a (subst (λ n. Holding gs j n qs) (sym e.0) b) (e.1 ∙ ap (λ n. prefix_on h n qs) (sym e.0))

  -- THE VIEW. Pages on which each bucket is once, and nothing else, show the rows
  pub shows_of : (rows : List Row) (gs : List Page) → Once rows → Fine S h rows → Part rows Any gs → Shows S h rows gs
  shows_of rows gs n f p = record {
    same = once_ext (rows_in gs) rows (once_in gs (λ i k rs e. page_once rows k rs n (p.page i k rs e).0) shared) n into back;
    once = n;
    fine = f;
    page = λ i k rs e. (p.page i k rs e).0;
    apart = p.apart;
  }
    where
      shared : (i j k l : ℕ) (rs qs : List Record) → Holding gs i k rs → Holding gs j l qs → (r q : Row) → Memᴰ r (map as_row rs) → Memᴰ q (map as_row qs) → r.code ≡ q.code → i ≡ j
      shared i j k l rs qs a b r q m w e =
          one_holder rows Any gs p (h r.code) i j k l rs qs a b ((page_row rows k rs (p.page i k rs a).0 r).0 m).1
          (ap (λ c. top l (h c)) e ∙ ((page_row rows l qs (p.page j l qs b).0 q).0 w).1)

      into : (r : Row) → Memᴰ r (rows_in gs) → Memᴰ r rows
      into r m = let w = row_on gs r m in ((page_row rows w.1 w.2 (p.page w.0 w.1 w.2 w.3).0 r).0 w.4).0

      back : (r : Row) → Memᴰ r rows → Memᴰ r (rows_in gs)
      back r m =
          let b = every_row S h rows f r m in
          let w = p.all b.0 (top b.0 (h r.code)) b.2 tt in
          on_row gs w.0 b.0 w.1 w.2 r ((page_row rows b.0 w.1 (p.page w.0 b.0 w.1 w.2).0 r).1 (m, sym w.3))

  module _ (rows : List Row) (gs : List Page) (s : Shows S h rows gs) where
    -- a row is on the page of its prefix
    pub some_page : (r : Row) → Memᴰ r rows → (i : ℕ) × (k : ℕ) × (rs : List Record) × Holding gs i k rs × Memᴰ r (map as_row rs)
    some_page r m = row_on gs r (mem_reordered (turned s.same) m)

    -- each bucket is on a page
    pub paged : (k v : ℕ) → IsBucket S h rows k v → (i : ℕ) × (rs : List Record) × Holding gs i k rs × (prefix_on h k rs ≡ v)
    paged k v b =
        let r = head_of (rows_of h rows k v) b.has in
        let m = prefix_row h rows k v r.0 r.1 in
        let w = some_page r.0 m.0 in
        let o = s.page w.0 w.1 w.2 w.3 in
        let e = no_overlap S h rows w.1 (prefix_on h w.1 w.2) k v (h r.0.code) o.is b ((page_row rows w.1 w.2 o r.0).0 w.4).1 m.1 in
        (w.0, w.2, subst (λ n. Holding gs w.0 n w.2) e.0 w.3, ap (λ n. prefix_on h n w.2) (sym e.0) ∙ e.1)

    pub whole : Part rows Any gs
    whole = record { page = λ i k rs e. (s.page i k rs e, tt); apart = s.apart; all = λ k v b _. paged k v b }

    -- the page that is found for a hash holds it, and is the only one; where none is found no bucket holds it
    pub find_held : (x k : ℕ) (rs : List Record) → Holding gs (find (holds h x) gs) k rs → prefix_on h k rs ≡ top k x
    find_held x k rs e =
        (holds_on h x k rs (s.page (find (holds h x) gs) k rs e).some).0
        (ap (holds h x) (sym e) ∙ find_passes (holds h x) gs (within_pages gs (find (holds h x) gs) k rs e))

    pub find_only : (x i k : ℕ) (rs : List Record) → Holding gs i k rs → prefix_on h k rs ≡ top k x → find (holds h x) gs ≡ i
    find_only x i k rs e y =
        let t : holds h x (get_or gs i free) ≡ true = ap (holds h x) e ∙ (holds_on h x k rs (s.page i k rs e).some).1 y in
        let l : find (holds h x) gs < length gs = omega (arith, find_least (holds h x) gs i (within_pages gs i k rs e) t, within_pages gs i k rs e) in
        go (get_or gs (find (holds h x) gs) free) refl (find_passes (holds h x) gs l)
      where
        go : (g : Page) → get_or gs (find (holds h x) gs) free ≡ g → holds h x (get_or gs (find (holds h x) gs) free) ≡ true → find (holds h x) gs ≡ i
        go free a t = absurd (holds_free h x (get_or gs (find (holds h x) gs) free) a t)
        go (bucket l qs) a t = one_holder rows Any gs whole x (find (holds h x) gs) i l k qs rs a e (sym (find_held x l qs a)) (sym y)

    pub find_unheld : (x : ℕ) → get_or gs (find (holds h x) gs) free ≡ free → (k : ℕ) → IsBucket S h rows k (top k x) → ⊥
    find_unheld x e k b =
        let w = paged k (top k x) b in
        free_not (sym e ∙ subst (λ i. Holding gs i k w.1) (sym (find_only x w.0 k w.1 w.2 w.3)) w.2)

  -- ---- the order of the rows does not matter

  pub bucket_reordered : {rs qs : List Row} → Reordered rs qs → (k v : ℕ) → IsBucket S h rs k v → IsBucket S h qs k v
  bucket_reordered {rs} {qs} p k v = same_bucket S h rs qs k v (load_reordered S h p k v) (λ j e. load_reordered S h p j (v / 2))

  pub shows_reordered : {rows qs : List Row} (gs : List Page) → Reordered rows qs → Shows S h rows gs → Shows S h qs gs
  shows_reordered {rows} {qs} gs p s = record {
    same = chain s.same p;
    once = (same_map p s.once).0;
    fine = fine_reordered S h p s.fine;
    page = λ i k rs e. let o = s.page i k rs e in record {
      some = o.some;
      is = bucket_reordered p k (prefix_on h k rs) o.is;
      ordered = o.ordered ∙ bucket_same h rows qs p s.once k (prefix_on h k rs);
    };
    apart = s.apart;
  }

-- ---- the bucket of a hash, of those worked out afresh

module _ (x : ℕ) where
  abbrev Has : Prefix → Type 0
  Has p = top p.bits x ≡ p.value

  -- one of the prefixes has the hash, and is the answer; or none has it
  abbrev Told : List Prefix → Option Prefix → Type 0
  Told l o = ((p : Prefix) × Memᴰ p l × Has p × (o ≡ some p)) ⊎ (((p : Prefix) → Memᴰ p l → Has p → ⊥) × (o ≡ none))

  bucket_of_lem : (ps : List Prefix) → Told ps (bucket_of x ps)
  unfolding bucket_of
  bucket_of_lem [] = inr ((λ p m. absurd (Memᴰ.not-nil m)), refl)
  bucket_of_lem (q ∷ ps) = go (eqb (top q.bits x) q.value) refl (bucket_of_lem ps)
    where
      go : (b : Bool) → eqb (top q.bits x) q.value ≡ b → Told ps (bucket_of x ps) → Told (q ∷ ps) (or_else b q (bucket_of x ps))
      go true e rest = inl (q, Memᴰ.head refl, eqb-true (top q.bits x) q.value e, refl)
      go false e (inl w) = inl (w.0, Memᴰ.tail w.1, w.2, w.3)
      go false e (inr w) = inr ((λ p m y. other p (Memᴰ.cases_cons m) y), w.1)
        where
          other : (p : Prefix) → (p ≡ q) ⊎ Memᴰ p ps → Has p → ⊥
          other p (inl z) y = true≢false (sym (eq-eqb (top q.bits x) q.value (subst Has z y)) ∙ e)
          other p (inr m) y = w.0 p m y

module _ (S : Shape) (h : List ℕ → ℕ) (small : (c : List ℕ) → h c < 2 ^ 32) (rows : List Row) (f : Fine S h rows) (x : ℕ) where
  pub bucket_found : (k : ℕ) → IsBucket S h rows k (top k x) → bucket_of x (buckets S h rows) ≡ some (pfx k (top k x))
  bucket_found k b = go (bucket_of_lem x (buckets S h rows))
    where
      go : Told x (buckets S h rows) (bucket_of x (buckets S h rows)) → bucket_of x (buckets S h rows) ≡ some (pfx k (top k x))
      go (inl (p, m, y, e)) =
          let o = no_overlap S h rows p.bits p.value k (top k x) x ((listed S h small rows p.bits p.value).0 m).0 b y refl in
          e ∙ ap some (ap₂ pfx o.0 o.1)
      go (inr w) = absurd (w.0 (pfx k (top k x)) ((listed S h small rows k (top k x)).1 (b, not_deeper S h rows f k (top k x) b)) refl)

  pub bucket_none : ((k : ℕ) → IsBucket S h rows k (top k x) → ⊥) → bucket_of x (buckets S h rows) ≡ none
  bucket_none n = go (bucket_of_lem x (buckets S h rows))
    where
      go : Told x (buckets S h rows) (bucket_of x (buckets S h rows)) → bucket_of x (buckets S h rows) ≡ none
      go (inl (p, m, y, e)) = absurd (n p.bits (subst (λ v. IsBucket S h rows p.bits v) (sym y) ((listed S h small rows p.bits p.value).0 m).0))
      go (inr w) = w.1
