-- An accepted store's pages show its own rows. Assumes nothing.
use mathlib.Core.Path.{◌≡◌, refl, sym, ap, subst, subst₂, ◌∙◌}
use mathlib.Core.List.Memᴰ
use mathlib.Core.List.{List, [], ◌∷◌, ◌++◌, map, flat_map, Memᴰ}
use mathlib.Core.Logic.{◌⊎◌, inl, inr, ◌↔◌}
use Prim.Native.Nat.{ℕ, zero, suc, ◌+◌, ◌-◌, ◌*◌, ◌/◌, ◌^◌, ◌≤◌, ◌<◌, zero-le}
use native.Mathlib.Omega.{arith}
use native.Mathlib.Nat.{le_trans, div-lt_iff_lt-mul, pow-le-pow_right}
use lib.Pow.{pow_pos, pow-add}
use lib.ListN.{length, get_or, length-map}
use Rattle.ground.specs.Lists.{tab}
use Rattle.ground.proofs.Sides.{side}
use Rattle.ground.proofs.Tables.{length_tab}
use Rattle.page.specs.Page.{Record, BucketPage, depth, count, code, rows, row_at}
use Rattle.page.proofs.Sums.{most_rows}
use Rattle.partition.specs.Bits.{top}
use Rattle.partition.specs.declared.Shape.{Shape}
use Rattle.partition.specs.Partition.{Row, needs, rows_of, Fine}
use Rattle.partition.specs.Listing.{in_order, Once}
use Rattle.partition.proofs.Bits.{top_step, top_lt}
use Rattle.partition.proofs.Tree.{pfx}
use Rattle.partition.proofs.Directory.{holds_top}
use Rattle.partition.proofs.Path.{path_le}
use Rattle.partition.proofs.Rows.{load, load_mono}
use Rattle.partition.proofs.Sum.{prefix_row}
use Rattle.partition.proofs.Pages as P
use Rattle.partition.proofs.Members.{once_append}
use Rattle.store.specs.Pages.{pages, page, dir_depth, entry_at, Page, free, bucket, read, contents, as_row, rows_on, rows_in, rows_held}
use Rattle.store.specs.Accepted.{Bucket, Calls, Stands, unused, used, Accepted}
use Rattle.store.specs.Demands.{Sized, Hash}
use Rattle.store.proofs.Accepted.Rules.{Opened, opened}
use Rattle.store.proofs.Showing.Shows.{first_code, prefix_on, Holding, OnPage, Shows}
use Rattle.store.proofs.Showing.Shown.{free_not, within_pages, row_on}
use Rattle.store.proofs.Accepted.Unique.{read_zero, read_bucket, held, page_long}
use Rattle.store.proofs.Paging.PageTies.{slot_of, page_once, page_order, page_needs}

-- ---- pages as the partition's pages

-- a bucket's page with its prefix
unfoldable pub prefixed : (List ℕ → ℕ) → ℕ → List Record → P.Page
prefixed h k rs = record { prefix = pfx k (prefix_on h k rs); rows = map as_row rs }

-- the pages in use
abbrev pub in_use : (List ℕ → ℕ) → List Page → List P.Page
in_use h [] = []
in_use h (free ∷ gs) = in_use h gs
in_use h (bucket k rs ∷ gs) = prefixed h k rs ∷ in_use h gs

module _ (h : List ℕ → ℕ) where
  pub gather_use : (gs : List Page) → P.gather (in_use h gs) ≡ rows_in gs
  unfolding rows_in flat_map prefixed
  gather_use [] = refl
  gather_use (free ∷ gs) = gather_use gs
  gather_use (bucket k rs ∷ gs) = ap (λ l. map as_row rs ++ l) (gather_use gs)

  pub use_in : (gs : List Page) (i k : ℕ) (rs : List Record) → Holding gs i k rs → Memᴰ (prefixed h k rs) (in_use h gs)
  use_in [] i k rs e = absurd (free_not e)
  use_in (free ∷ gs) zero k rs e = absurd (free_not e)
  use_in (free ∷ gs) (suc i) k rs e = use_in gs i k rs e
  use_in (bucket l qs ∷ gs) zero k rs e = let a : k ≡ l = cc in let b : rs ≡ qs = cc in Memᴰ.head (λ n. prefixed h (a n) (b n))
  use_in (bucket l qs ∷ gs) (suc i) k rs e = Memᴰ.tail (use_in gs i k rs e)

  pub record Used (gs : List Page) (q : P.Page) : Type 0 where
    pub at : ℕ
    pub depth : ℕ
    pub records : List Record
    pub holding : Holding gs at depth records
    pub is : q ≡ prefixed h depth records

  up : {g : Page} {gs : List Page} {q : P.Page} → Used gs q → Used (g ∷ gs) q
  up u = record { at = suc u.at; depth = u.depth; records = u.records; holding = u.holding; is = u.is }

  pub in_use_lem : (gs : List Page) (q : P.Page) → Memᴰ q (in_use h gs) → Used gs q
  in_use_lem [] q m = absurd (Memᴰ.not-nil m)
  in_use_lem (free ∷ gs) q m = up (in_use_lem gs q m)
  in_use_lem (bucket k rs ∷ gs) q m = go (Memᴰ.cases_cons m) (in_use_lem gs q)
    where
      go : (q ≡ prefixed h k rs) ⊎ Memᴰ q (in_use h gs) → (Memᴰ q (in_use h gs) → Used gs q) → Used (bucket k rs ∷ gs) q
      go (inl e) rest = record { at = zero; depth = k; records = rs; holding = refl; is = e }
      go (inr t) rest = up (rest t)

-- What pages say, each of itself, of its prefix and of the others.
pub record SoundPages (S : Shape) (h : List ℕ → ℕ) (gs : List Page) : Type 0 where
  pub some : (i k : ℕ) (rs : List Record) → Holding gs i k rs → 0 < length rs
  pub shallow : (i k : ℕ) (rs : List Record) → Holding gs i k rs → k ≤ S.deepest
  pub keeps : (i k : ℕ) (rs : List Record) → Holding gs i k rs → (r : Row) → Memᴰ r (map as_row rs) → top k (h r.code) ≡ prefix_on h k rs
  pub ordered : (i k : ℕ) (rs : List Record) → Holding gs i k rs → in_order (map as_row rs) ≡ map as_row rs
  pub once : (i k : ℕ) (rs : List Record) → Holding gs i k rs → Once (map as_row rs)
  pub fits : (i k : ℕ) (rs : List Record) → Holding gs i k rs → needs (map as_row rs) ≤ S.capacity
  pub parted : (i j : ℕ) (rs : List Record) → Holding gs i (suc j) rs → S.capacity < needs (rows_of h (rows_in gs) j (prefix_on h j rs))
  pub apart : (i j k l : ℕ) (rs qs : List Record) → Holding gs i k rs → Holding gs j l qs → (x : ℕ) → top k x ≡ prefix_on h k rs → top l x ≡ prefix_on h l qs → i ≡ j

-- pages of the partition that are apart and hold no code twice each hold none twice together
good_once : (h : List ℕ → ℕ) (ps : List P.Page) → P.Good h ps → ((p : P.Page) → Memᴰ p ps → Once p.rows) → Once (P.gather ps)
good_once h [] g o = tt
good_once h (p ∷ ps) g o =
    once_append p.rows (P.gather ps) (o p (Memᴰ.head refl)) (good_once h ps g.2 (λ q m. o q (Memᴰ.tail m)))
    (λ r q a b e. let w = P.whose h ps q b in
    g.1 w.0 w.1 (h q.code) (subst (λ x. top p.prefix.bits (h x) ≡ p.prefix.value) e (g.0 r a)) (P.keeps_of h ps g.2 w.0 w.1 q w.2))

module _ (S : Shape) (h : List ℕ → ℕ) where
  tail_good : (gs : List Page) (n : ℕ) (all : List Page) → ((i : ℕ) → get_or gs i free ≡ get_or all (i + n) free) → SoundPages S h all → P.Good h (in_use h gs)
  unfolding prefixed
  tail_good [] n all e s = tt
  tail_good (free ∷ gs) n all e s = tail_good gs (suc n) all (λ i. e (suc i) ∙ ap (λ j. get_or all j free) (omega arith)) s
  tail_good (bucket k rs ∷ gs) n all e s = (
    s.keeps n k rs here,
    (λ q m x a b. let u = in_use_lem h gs q m in
        let v = s.apart n (suc u.at + n) k u.depth rs u.records here (sym (e (suc u.at)) ∙ u.holding) x a (subst (λ (y : P.Page). top y.prefix.bits x ≡ y.prefix.value) u.is b) in
        omega arith),
    tail_good gs (suc n) all (λ i. e (suc i) ∙ ap (λ j. get_or all j free) (omega arith)) s,
  )
    where
      here : Holding all n k rs
      here = ap (λ j. get_or all j free) (omega arith) ∙ sym (e 0)

-- WHAT THE PAGES SAY IS ENOUGH: they show the rows that they hold
module _ (S : Shape) (h : List ℕ → ℕ) (gs : List Page) (s : SoundPages S h gs) where
  good : P.Good h (in_use h gs)
  good = tail_good S h gs 0 gs (λ i. ap (λ j. get_or gs j free) (omega arith)) s

  -- a page has exactly the rows of its prefix
  pub its_rows : (i k : ℕ) (rs : List Record) → Holding gs i k rs → rows_of h (rows_in gs) k (prefix_on h k rs) ≡ map as_row rs
  unfolding prefixed
  its_rows i k rs e = ap (λ l. rows_of h l k (prefix_on h k rs)) (sym (gather_use h gs)) ∙ P.page_rows h (in_use h gs) good (prefixed h k rs) (use_in h gs i k rs e)

  once_all : Once (rows_in gs)
  unfolding prefixed
  once_all = rw (gather_use h gs) at (good_once h (in_use h gs) good (λ q m. let u = in_use_lem h gs q m in
      subst (λ (y : P.Page). Once y.rows) (sym u.is) (s.once u.at u.depth u.records u.holding)))

  on_page : (i k : ℕ) (rs : List Record) → Holding gs i k rs → OnPage S h (rows_in gs) k rs
  on_page i k rs e =
      let q = its_rows i k rs e in
      record {
        some = s.some i k rs e;
        is = record {
          has = rw q (rw length-map (s.some i k rs e));
          fit = rw q (s.fits i k rs e);
          split = λ j f. subst (λ n. S.capacity < needs (rows_of h (rows_in gs) j n)) (sym (top_step (h (first_code rs)) j) ∙ ap (λ n. prefix_on h n rs / 2) (sym f))
              (s.parted i j rs (subst (λ n. Holding gs i n rs) f e));
        };
        ordered = sym (ap in_order q ∙ s.ordered i k rs e);
      }

  -- the rows of a deepest prefix are rows of one page
  fine : Fine S h (rows_in gs)
  unfolding needs
  fine v = go (rows_of h (rows_in gs) S.deepest v) refl
    where
      at : (r : Row) → top S.deepest (h r.code) ≡ v → (i k : ℕ) (rs : List Record) → Holding gs i k rs → top k (h r.code) ≡ prefix_on h k rs
          → needs (rows_of h (rows_in gs) S.deepest v) ≤ S.capacity
      at r a i k rs e b =
          let x = h r.code in
          let l = path_le (λ n. top n x) (top_step x) S.capacity (load h (rows_in gs)) (load_mono h (rows_in gs)) k S.deepest (s.shallow i k rs e) in
          let c : load h (rows_in gs) k (top k x) ≤ S.capacity = rw (b, its_rows i k rs e) (s.fits i k rs e) in
          subst (λ n. load h (rows_in gs) S.deepest n ≤ S.capacity) a (le_trans l c)

      go : (l : List Row) → rows_of h (rows_in gs) S.deepest v ≡ l → needs (rows_of h (rows_in gs) S.deepest v) ≤ S.capacity
      go [] e = rw e zero-le
      go (r ∷ l) e =
          let m = prefix_row h (rows_in gs) S.deepest v r (subst (λ t. Memᴰ r t) (sym e) (Memᴰ.head refl)) in
          let w = row_on gs r m.0 in
          at r m.1 w.0 w.1 w.2 w.3 (s.keeps w.0 w.1 w.2 w.3 r w.4)

  pub sound_shows : Shows S h (rows_in gs) gs
  sound_shows = record {
    same = P.same_order (rows_in gs);
    once = once_all;
    fine = fine;
    page = on_page;
    apart = λ i j k rs qs a b e. s.apart i j k k rs qs a b (h (first_code rs)) refl e;
  }

-- ---- from an accepted store's bytes to its pages

pub first_of : (f : ℕ → Record) (n : ℕ) → 0 < n → first_code (tab f n) ≡ (f 0).code
unfolding tab
first_of f zero l = absurd (omega arith)
first_of f (suc n) l = refl

-- the prefix as the page's rules have it
pub first_code_lem : (h : List ℕ → ℕ) (g : List ℕ) → BucketPage g → prefix_on h (depth g) (rows g) ≡ top (depth g) (h (code g 0))
first_code_lem h g b = ap (λ c. top (depth g) (h c)) (first_of (row_at g) (count g) b.some)

-- the entry of a hash that has a prefix is one that the prefix calls for
pub calls_top : (d k v x : ℕ) → k ≤ d → v < 2 ^ k → top k x ≡ v → Calls d k v (top d x)
calls_top d k v x l b e =
    let w = (holds_top d x (pfx k v) l).1 e in
    let p : top d x < 2 ^ k * 2 ^ (d - k) = (div-lt_iff_lt-mul (pow_pos (d - k))).0 (omega arith) in
    let q : k + (d - k) ≡ d = omega arith in
    record { below = subst (λ n. top d x < n) (sym (pow-add 2 k (d - k)) ∙ ap (λ n. 2 ^ n) q) p; bits = w }

pub pages_held : (S : Shape) (s : List ℕ) → length (contents S s) ≡ pages S s - 2
unfolding contents
pages_held S s = length_tab (λ i. read (page S s (i + 2))) (pages S s - 2)

-- the bytes under a bucket of the contents
pub record Under (S : Shape) (h : List ℕ → ℕ) (s : List ℕ) (i k : ℕ) (rs : List Record) : Type 0 where
  pub within : i + 2 < pages S s
  pub bytes : Bucket h (page S s (i + 2))
  pub deep : k ≡ depth (page S s (i + 2))
  pub its : rs ≡ rows (page S s (i + 2))
  pub low : k ≤ dir_depth s
  pub names : (e : ℕ) → e < S.entries → (entry_at S s e ≡ i + 2) ↔ Calls (dir_depth s) k (prefix_on h k rs) e

module _ (S : Shape) (h : List ℕ → ℕ) (sized : Sized S) (hash : Hash h) (s : List ℕ) (T : Opened S h s) where
  abbrev pg : ℕ → List ℕ
  pg i = page S s (i + 2)

  pub under : (i k : ℕ) (rs : List Record) → Holding (contents S s) i k rs → Under S h s i k rs
  under i k rs e = go (side (i + 2) (pages S s))
    where
      has : i + 2 < pages S s → read (pg i) ≡ bucket k rs
      has l = let q : i + 2 - 2 ≡ i = omega arith in sym (held S s (i + 2) (omega arith) l) ∙ ap (λ n. get_or (contents S s) n free) q ∙ e

      stand : i + 2 < pages S s → Stands S h s (i + 2) → Under S h s i k rs
      stand l (unused z _) = absurd (free_not (sym (read_zero (pg i) z) ∙ has l))
      stand l (used b d names) =
          let r : bucket (depth (pg i)) (rows (pg i)) ≡ bucket k rs = sym (read_bucket h (pg i) b) ∙ has l in
          let dk : depth (pg i) ≡ k = cc in
          let rr : rows (pg i) ≡ rs = cc in
          record {
            within = l;
            bytes = b;
            deep = sym dk;
            its = sym rr;
            low = subst (λ n. n ≤ dir_depth s) dk d;
            names = λ e m. subst₂ (λ n t. (entry_at S s e ≡ i + 2) ↔ Calls (dir_depth s) n (prefix_on h n t) e) dk rr
                (subst (λ n. (entry_at S s e ≡ i + 2) ↔ Calls (dir_depth s) (depth (pg i)) n e) (sym (first_code_lem h (pg i) b.rules)) (names e m));
          }

      go : (i + 2 < pages S s) ⊎ (pages S s ≤ i + 2) → Under S h s i k rs
      go (inl l) = stand l (T.stands (i + 2) (omega arith) l)
      go (inr l) = absurd (omega (arith, within_pages (contents S s) i k rs e, pages_held S s))

  prefix_lt : (k : ℕ) (rs : List Record) → prefix_on h k rs < 2 ^ k
  prefix_lt k rs = top_lt (h (first_code rs)) k (hash (first_code rs))

  -- two pages that call for one entry are one
  named_one : (i j k l : ℕ) (rs qs : List Record) → Holding (contents S s) i k rs → Holding (contents S s) j l qs → (e : ℕ)
      → Calls (dir_depth s) k (prefix_on h k rs) e → Calls (dir_depth s) l (prefix_on h l qs) e → i ≡ j
  named_one i j k l rs qs a b e c d =
      let m : 2 ^ dir_depth s ≤ 2 ^ S.deepest = pow-le-pow_right (omega arith) T.page0.depth in
      let n : e < S.entries = omega (arith, m, sized.deep, c.below) in
      let x : entry_at S s e ≡ i + 2 = ((under i k rs a).names e n).1 c in
      let y : entry_at S s e ≡ j + 2 = ((under j l qs b).names e n).1 d in
      omega arith

  sound : SoundPages S h (contents S s)
  sound = record {
    some = λ i k rs e. let u = under i k rs e in subst (λ t. 0 < length t) (sym u.its) (omega (arith, length_tab (row_at (pg i)) (count (pg i)), u.bytes.rules.some));
    shallow = λ i k rs e. le_trans (under i k rs e).low T.page0.depth;
    keeps = λ i k rs e. let u = under i k rs e in
        subst₂ (λ n t. (r : Row) → Memᴰ r (map as_row t) → top n (h r.code) ≡ prefix_on h n t) (sym u.deep) (sym u.its)
        (λ r m. let w = slot_of (pg i) r m in
        ap (λ q. top (depth (pg i)) (h q.code)) w.2 ∙ u.bytes.share w.0 0 w.1 u.bytes.rules.some ∙ sym (first_code_lem h (pg i) u.bytes.rules));
    ordered = λ i k rs e. let u = under i k rs e in subst (λ t. in_order (map as_row t) ≡ map as_row t) (sym u.its) (page_order (pg i) u.bytes.rules.rules);
    once = λ i k rs e. let u = under i k rs e in subst (λ t. Once (map as_row t)) (sym u.its) (page_once (pg i) u.bytes.rules.rules);
    fits = λ i k rs e. let u = under i k rs e in subst (λ t. needs (map as_row t) ≤ S.capacity) (sym u.its)
        (omega (arith, page_needs (pg i) u.bytes.rules.rules, page_long S s (i + 2) u.within));
    parted = λ i j rs e. let u = under i (suc j) rs e in
        subst (λ c. S.capacity < needs (rows_of h (rows_held S s) j (top j (h c)))) (sym (ap first_code u.its ∙ first_of (row_at (pg i)) (count (pg i)) u.bytes.rules.some))
        (T.parted (i + 2) (omega arith) u.within j (sym u.deep));
    apart = λ i j k l rs qs a b x c d. named_one i j k l rs qs a b (top (dir_depth s) x)
        (calls_top (dir_depth s) k (prefix_on h k rs) x (under i k rs a).low (prefix_lt k rs) c) (calls_top (dir_depth s) l (prefix_on h l qs) x (under j l qs b).low (prefix_lt l qs) d);
  }

-- AN ACCEPTED STORE SHOWS ITS ROWS
pub accepted_shows : (S : Shape) (h : List ℕ → ℕ) → Sized S → Hash h → (s : List ℕ) → Accepted S h s → Shows S h (rows_held S s) (contents S s)
accepted_shows S h sized hash s a = sound_shows S h (contents S s) (sound S h sized hash s (opened S h s a))

-- NO PAGE OF AN ACCEPTED STORE HAS MORE ROWS THAN 13 GOES INTO THE CAPACITY: 78 of 1,016
pub accepted_rows : (S : Shape) (h : List ℕ → ℕ) (s : List ℕ) → Accepted S h s → (p : ℕ) → 2 ≤ p → p < pages S s → length (rows_on (read (page S s p))) ≤ S.capacity / 13
accepted_rows S h s a p l m = go ((opened S h s a).stands p l m)
  where
    go : Stands S h s p → length (rows_on (read (page S s p))) ≤ S.capacity / 13
    go (unused z _) = omega (arith, ap (λ g. length (rows_on g)) (read_zero (page S s p) z))
    go (used b _ _) =
        let g : List ℕ = page S s p in
        omega (
          arith,
          ap (λ y. length (rows_on y)) (read_bucket h g b) ∙ length-map (rows g) as_row ∙ length_tab (row_at g) (count g),
          most_rows g b.rules.rules,
          page_long S s p m,
        )
