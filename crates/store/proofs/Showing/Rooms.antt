-- Pages filled and cleared: what the pages show then, and how many are free. Each bucket takes one page.
-- Assumes nothing.
use mathlib.Core.Path.{◌≡◌, refl, sym, ap, ap₂, subst, ◌∙◌}
use mathlib.Core.Bool.{true}
use mathlib.Core.List.Memᴰ
use mathlib.Core.List.{List, [], ◌∷◌, ◌++◌, Memᴰ}
use mathlib.Core.Logic.{◌⊎◌, inl, inr, ◌≢◌}
use Prim.Native.Nat.{ℕ, zero, suc, ◌+◌, ◌^◌, ◌≤◌, ◌<◌}
use native.Mathlib.Omega.{arith}
use native.Mathlib.Decide.{ℕ_discrete}
use lib.ListN.{length, get_or, set, length-append}
use lib.Seq.{get_or-set_same, get_or-set_other}
use Rattle.page.specs.Page.{Record}
use Rattle.partition.specs.declared.Shape.{Shape}
use Rattle.partition.specs.Partition.{Row, Prefix, IsBucket, Fine, buckets}
use Rattle.partition.proofs.Tree.{pfx}
use Rattle.partition.proofs.Rows.{listed}
use Rattle.partition.proofs.Laws.{in_order_lem}
use Rattle.partition.proofs.Store.{not_deeper}
use Rattle.partition.proofs.Members.{Distinct, no_longer, distinct_append, asc_distinct}
use Rattle.store.specs.Pages.{Page, free, bucket}
use Rattle.store.specs.Moves.{find, is_free, frees}
use Rattle.store.proofs.Showing.Shows.{prefix_on, OnPage, Holding, Shows}
use Rattle.store.proofs.Showing.Shown.{free_not, within_pages, find_passes, find_least, Part, Any, paged, whole}

-- ---- one page written

pub bucket_one : {k l : ℕ} {rs qs : List Record} → bucket k rs ≡ bucket l qs → (k ≡ l) × (rs ≡ qs)
bucket_one e = (cc, cc)

-- a page that is held after a write is the written one, or was held before
pub held_set : (gs : List Page) (i : ℕ) (g : Page) → i < length gs → (j l : ℕ) (qs : List Record) → Holding (set gs i g) j l qs
    → ((j ≡ i) × (g ≡ bucket l qs)) ⊎ ((j ≢ i) × Holding gs j l qs)
held_set gs i g b j l qs e = go (ℕ_discrete j i)
  where
    go : Dec (j ≡ i) → ((j ≡ i) × (g ≡ bucket l qs)) ⊎ ((j ≢ i) × Holding gs j l qs)
    go (yes q) = inl (q, sym (get_or-set_same gs i g free b) ∙ subst (λ n. Holding (set gs i g) n l qs) q e)
    go (no n) = inr (n, sym (get_or-set_other gs i j g free n) ∙ e)

pub set_holds : (gs : List Page) (i k : ℕ) (rs : List Record) → i < length gs → Holding (set gs i (bucket k rs)) i k rs
set_holds gs i k rs b = get_or-set_same gs i (bucket k rs) free b

pub set_other : (gs : List Page) (i : ℕ) (g : Page) (j l : ℕ) (qs : List Record) → j ≢ i → Holding gs j l qs → Holding (set gs i g) j l qs
set_other gs i g j l qs n e = get_or-set_other gs i j g free n ∙ e

-- a write to a free page keeps each bucket
pub fill_keeps : (gs : List Page) (i : ℕ) (g : Page) → get_or gs i free ≡ free → (j l : ℕ) (qs : List Record) → Holding gs j l qs → Holding (set gs i g) j l qs
fill_keeps gs i g f j l qs e = set_other gs i g j l qs (λ q. free_not (sym f ∙ subst (λ n. Holding gs n l qs) q e)) e

module _ (S : Shape) (h : List ℕ → ℕ) where
  -- the prefix (j, w) is that of the page of depth k and records rs
  abbrev pub Its : ℕ → List Record → ℕ → ℕ → Type 0
  Its k rs j w = (j ≡ k) × (w ≡ prefix_on h k rs)

  module _ (rows : List Row) (P : ℕ → ℕ → Type 0) (gs : List Page) (p : Part S h rows P gs) where
    -- a free page takes a bucket that is not shown yet
    pub fill : (i k : ℕ) (rs : List Record) → i < length gs → get_or gs i free ≡ free → OnPage S h rows k rs → (P k (prefix_on h k rs) → ⊥)
        → Part S h rows (λ j w. P j w ⊎ Its k rs j w) (set gs i (bucket k rs))
    fill i k rs b f o n = record {
      page = λ j l qs e. at j l qs (held_set gs i (bucket k rs) b j l qs e);
      apart = λ j m l qs ts a c v. two j m l qs ts v (held_set gs i (bucket k rs) b j l qs a) (held_set gs i (bucket k rs) b m l ts c);
      all = λ l v is u. found l v is u;
    }
      where
        at : (j l : ℕ) (qs : List Record) → ((j ≡ i) × (bucket k rs ≡ bucket l qs)) ⊎ ((j ≢ i) × Holding gs j l qs)
            → OnPage S h rows l qs × (P l (prefix_on h l qs) ⊎ Its k rs l (prefix_on h l qs))
        at j l qs (inl (q, e)) =
            let w = bucket_one e in
            (subst (λ t. OnPage S h rows l t) w.1 (subst (λ m. OnPage S h rows m rs) w.0 o), inr (sym w.0, ap (λ m. prefix_on h m qs) (sym w.0) ∙ ap (λ t. prefix_on h k t) (sym w.1)))
        at j l qs (inr (q, e)) = let w = p.page j l qs e in (w.0, inl w.1)

        -- a page held before has another prefix than the new one
        mixed : (m l : ℕ) (qs ts : List Record) → bucket k rs ≡ bucket l qs → Holding gs m l ts → prefix_on h l qs ≡ prefix_on h l ts → ⊥
        mixed m l qs ts e c v =
            let w = bucket_one e in
            n (subst (λ t. P k (prefix_on h k t)) (sym w.1) (subst (λ d. P d (prefix_on h d qs)) (sym w.0) (subst (P l) (sym v) (p.page m l ts c).1)))

        two : (j m l : ℕ) (qs ts : List Record) → prefix_on h l qs ≡ prefix_on h l ts → ((j ≡ i) × (bucket k rs ≡ bucket l qs)) ⊎ ((j ≢ i) × Holding gs j l qs)
            → ((m ≡ i) × (bucket k rs ≡ bucket l ts)) ⊎ ((m ≢ i) × Holding gs m l ts) → j ≡ m
        two j m l qs ts v (inl x) (inl y) = x.0 ∙ sym y.0
        two j m l qs ts v (inl x) (inr y) = absurd (mixed m l qs ts x.1 y.1 v)
        two j m l qs ts v (inr x) (inl y) = absurd (mixed j l ts qs y.1 x.1 (sym v))
        two j m l qs ts v (inr x) (inr y) = p.apart j m l qs ts x.1 y.1 v

        found : (l v : ℕ) → IsBucket S h rows l v → P l v ⊎ Its k rs l v → (j : ℕ) × (qs : List Record) × Holding (set gs i (bucket k rs)) j l qs × (prefix_on h l qs ≡ v)
        found l v is (inl u) = let w = p.all l v is u in (w.0, w.1, fill_keeps gs i (bucket k rs) f w.0 l w.1 w.2, w.3)
        found l v is (inr u) =
            (i, rs, subst (λ d. Holding (set gs i (bucket k rs)) i d rs) (sym u.0) (set_holds gs i k rs b), ap (λ d. prefix_on h d rs) u.0 ∙ sym u.1)

    -- a cleared page's bucket is shown no more
    pub clear : (i k : ℕ) (rs : List Record) → Holding gs i k rs → Part S h rows (λ j w. P j w × (Its k rs j w → ⊥)) (set gs i free)
    clear i k rs o = record {
      page = λ j l qs e. at j l qs (held_set gs i free b j l qs e);
      apart = λ j m l qs ts a c v. p.apart j m l qs ts (was j l qs a).1 (was m l ts c).1 v;
      all = λ l v is u. let w = p.all l v is u.0 in (w.0, w.1, set_other gs i free w.0 l w.1 (λ q. u.1 (its l v w q)) w.2, w.3);
    }
      where
        b : i < length gs
        b = within_pages gs i k rs o

        kept : (j l : ℕ) (qs : List Record) → ((j ≡ i) × (free ≡ bucket l qs)) ⊎ ((j ≢ i) × Holding gs j l qs) → (j ≢ i) × Holding gs j l qs
        kept j l qs (inl x) = absurd (free_not x.1)
        kept j l qs (inr x) = x

        was : (j l : ℕ) (qs : List Record) → Holding (set gs i free) j l qs → (j ≢ i) × Holding gs j l qs
        was j l qs e = kept j l qs (held_set gs i free b j l qs e)

        its : (l v : ℕ) → (w : (j : ℕ) × (qs : List Record) × Holding gs j l qs × (prefix_on h l qs ≡ v)) → w.0 ≡ i → Its k rs l v
        its l v w q =
            let e = bucket_one (sym (subst (λ n. Holding gs n l w.1) q w.2) ∙ o) in
            (e.0, sym w.3 ∙ ap (λ d. prefix_on h d w.1) e.0 ∙ ap (λ t. prefix_on h k t) e.1)

        at : (j l : ℕ) (qs : List Record) → ((j ≡ i) × (free ≡ bucket l qs)) ⊎ ((j ≢ i) × Holding gs j l qs)
            → OnPage S h rows l qs × (P l (prefix_on h l qs) × (Its k rs l (prefix_on h l qs) → ⊥))
        at j l qs x =
            let y = kept j l qs x in
            let w = p.page j l qs y.1 in
            (w.0, (w.1, λ t. y.0 (p.apart j i l qs rs y.1 (subst (λ d. Holding gs i d rs) (sym t.0) o) (t.1 ∙ ap (λ d. prefix_on h d rs) (sym t.0)))))

    -- the same pages, for other rows and other buckets
    pub becomes : (qs : List Row) (Q : ℕ → ℕ → Type 0)
        → ((k : ℕ) (rs : List Record) → OnPage S h rows k rs → P k (prefix_on h k rs) → OnPage S h qs k rs × Q k (prefix_on h k rs))
        → ((k v : ℕ) → IsBucket S h qs k v → Q k v → IsBucket S h rows k v × P k v) → Part S h qs Q gs
    becomes qs Q to from = record {
      page = λ i k rs e. let w = p.page i k rs e in to k rs w.0 w.1;
      apart = p.apart;
      all = λ k v is u. let w = from k v is u in p.all k v w.0 w.1;
    }

-- ---- how many are free

free_there : (gs : List Page) → 0 < frees gs → (i : ℕ) × (i < length gs) × (get_or gs i free ≡ free)
free_there [] l = absurd (omega arith)
free_there (free ∷ gs) l = (0, omega arith, refl)
free_there (bucket k rs ∷ gs) l = let w = free_there gs l in (suc w.0, omega (arith, w.1), w.2)

-- where a page is free, the lowest free page is found
pub find_free : (gs : List Page) → 0 < frees gs → (find is_free gs < length gs) × (get_or gs (find is_free gs) free ≡ free)
find_free gs l =
    let w = free_there gs l in
    let b : find is_free gs < length gs = omega (arith, find_least is_free gs w.0 w.1 (ap is_free w.2), w.1) in
    (b, is (get_or gs (find is_free gs) free) (find_passes is_free gs b))
  where
    is : (g : Page) → is_free g ≡ true → g ≡ free
    is free e = refl
    is (bucket k rs) e = absurd (let n : ◌≡◌ {A = ℕ} 0 1 = cc in omega arith)

module _ (h : List ℕ → ℕ) where
  -- the prefixes of the pages in use
  abbrev shown : List Page → List Prefix
  shown [] = []
  shown (free ∷ gs) = shown gs
  shown (bucket k rs ∷ gs) = pfx k (prefix_on h k rs) ∷ shown gs

  in_use : (gs : List Page) → length (shown gs) + frees gs ≡ length gs
  in_use [] = refl
  in_use (free ∷ gs) = omega (arith, in_use gs)
  in_use (bucket k rs ∷ gs) = omega (arith, in_use gs)

  which : (gs : List Page) (x : Prefix) → Memᴰ x (shown gs) → (i : ℕ) × (k : ℕ) × (rs : List Record) × Holding gs i k rs × (x ≡ pfx k (prefix_on h k rs))
  which [] x m = absurd (Memᴰ.not-nil m)
  which (free ∷ gs) x m = let w = which gs x m in (suc w.0, w.1, w.2, w.3, w.4)
  which (bucket k rs ∷ gs) x m = go (Memᴰ.cases_cons m) (which gs x)
    where
      go : (x ≡ pfx k (prefix_on h k rs)) ⊎ Memᴰ x (shown gs)
          → (Memᴰ x (shown gs) → (i : ℕ) × (l : ℕ) × (qs : List Record) × Holding gs i l qs × (x ≡ pfx l (prefix_on h l qs)))
          → (i : ℕ) × (l : ℕ) × (qs : List Record) × Holding (bucket k rs ∷ gs) i l qs × (x ≡ pfx l (prefix_on h l qs))
      go (inl e) rest = (0, k, rs, refl, e)
      go (inr t) rest = let w = rest t in (suc w.0, w.1, w.2, w.3, w.4)

  is_shown : (gs : List Page) (i k : ℕ) (rs : List Record) → Holding gs i k rs → Memᴰ (pfx k (prefix_on h k rs)) (shown gs)
  is_shown [] i k rs e = absurd (free_not e)
  is_shown (free ∷ gs) zero k rs e = absurd (free_not e)
  is_shown (bucket l qs ∷ gs) zero k rs e = let w = bucket_one e in Memᴰ.head (sym (ap₂ (λ d t. pfx d (prefix_on h d t)) w.0 w.1))
  is_shown (free ∷ gs) (suc i) k rs e = is_shown gs i k rs e
  is_shown (bucket l qs ∷ gs) (suc i) k rs e = Memᴰ.tail (is_shown gs i k rs e)

  distinct : (gs : List Page) → ((i j k : ℕ) (rs qs : List Record) → Holding gs i k rs → Holding gs j k qs → prefix_on h k rs ≡ prefix_on h k qs → i ≡ j) → Distinct (shown gs)
  distinct [] f = tt
  distinct (free ∷ gs) f = distinct gs (λ i j k rs qs a b e. let z : suc i ≡ suc j = f (suc i) (suc j) k rs qs a b e in omega arith)
  distinct (bucket k rs ∷ gs) f = (
    (λ m. let w = which gs (pfx k (prefix_on h k rs)) m in
        let e : k ≡ w.1 = ap (λ x. x.bits) w.4 in
        let z : 0 ≡ suc w.0 = f 0 (suc w.0) k rs w.2 refl (subst (λ d. Holding gs w.0 d w.2) (sym e) w.3) (ap (λ x. x.value) w.4 ∙ ap (λ d. prefix_on h d w.2) (sym e)) in
        omega arith),
    distinct gs (λ i j k rs qs a b e. let z : suc i ≡ suc j = f (suc i) (suc j) k rs qs a b e in omega arith),
  )

module _ (S : Shape) (h : List ℕ → ℕ) (small : (c : List ℕ) → h c < 2 ^ 32) (rows : List Row) (fine : Fine S h rows) where
  in_list : (k v : ℕ) → IsBucket S h rows k v → Memᴰ (pfx k v) (buckets S h rows)
  in_list k v b = (listed S h small rows k v).1 (b, not_deeper S h rows fine k v b)

  module _ (P : ℕ → ℕ → Type 0) (gs : List Page) (p : Part S h rows P gs) where
    shown_in : (x : Prefix) → Memᴰ x (shown h gs) → IsBucket S h rows x.bits x.value × P x.bits x.value
    shown_in x m =
        let w = which h gs x m in
        let o = p.page w.0 w.1 w.2 w.3 in
        subst (λ y. IsBucket S h rows y.bits y.value × P y.bits y.value) (sym w.4) (o.0.is, o.1)

    -- THE ROOM TEST. Where there are pages for all buckets of the rows, a page is free for each that is not shown yet
    pub enough : (ps : List Prefix) → Distinct ps → ((x : Prefix) → Memᴰ x ps → IsBucket S h rows x.bits x.value × (P x.bits x.value → ⊥))
        → length (buckets S h rows) ≤ length gs → length ps ≤ frees gs
    enough ps d new room =
        let a : length (shown h gs ++ ps) ≤ length (buckets S h rows) =
        no_longer (shown h gs ++ ps) (buckets S h rows) (distinct_append (shown h gs) ps (distinct h gs p.apart) d (λ x m n. (new x n).1 (shown_in x m).1))
        (λ x m. both x (Memᴰ.append_cases (shown h gs) m)) in
        omega (arith, in_use h gs, length-append (shown h gs) ps)
      where
        both : (x : Prefix) → Memᴰ x (shown h gs) ⊎ Memᴰ x ps → Memᴰ x (buckets S h rows)
        both x (inl m) = in_list x.bits x.value (shown_in x m).0
        both x (inr m) = in_list x.bits x.value (new x m).0

  -- THE COUNT. Each bucket takes one page, and the others are free
  pub rooms : (gs : List Page) → Shows S h rows gs → length (buckets S h rows) + frees gs ≡ length gs
  rooms gs s =
      let a : length (shown h gs) ≤ length (buckets S h rows) = no_longer (shown h gs) (buckets S h rows) (distinct h gs s.apart) (λ x m. in_list x.bits x.value (shown_in Any gs (whole S h rows gs s) x m).0) in
      let b : length (buckets S h rows) ≤ length (shown h gs) = no_longer (buckets S h rows) (shown h gs) (asc_distinct S.deepest 0 (2 ^ S.deepest) (buckets S h rows) (in_order_lem S h rows)) back in
      omega (arith, in_use h gs)
    where
      back : (x : Prefix) → Memᴰ x (buckets S h rows) → Memᴰ x (shown h gs)
      back x m =
          let w = paged S h rows gs s x.bits x.value ((listed S h small rows x.bits x.value).0 m).0 in
          subst (λ v. Memᴰ (pfx x.bits v) (shown h gs)) w.3 (is_shown h gs w.0 x.bits w.1 w.2)
