-- The way back: bytes laid out for pages that show rows are an accepted store. What format, put and remove have to promise of their bytes. Assumes nothing.
use mathlib.Core.Path.{◌≡◌, refl, sym, ap, subst, subst₂, ◌∙◌}
use mathlib.Core.List.{List, Memᴰ}
use mathlib.Core.Logic.{◌⊎◌, inl, inr, ◌↔◌}
use Prim.Native.Nat.{ℕ, ◌+◌, ◌-◌, ◌*◌, ◌/◌, ◌%◌, ◌^◌, ◌≤◌, ◌<◌}
use native.Mathlib.Omega.{arith}
use native.Mathlib.Nat.{le_trans, mul-le-mul_right}
use lib.ListN.{length, get_or}
use Rattle.ground.specs.Lists.{byte, tab}
use Rattle.ground.proofs.Parts.{part_same}
use Rattle.ground.proofs.Tables.{tab_same}
use Rattle.words.specs.Le.{le32}
use Rattle.words.specs.Moves.{Frame}
use Rattle.words.proofs.Bytes.{le32_same}
use Rattle.page.specs.Page.{Record, BucketPage, depth, count, code, rows, row_at}
use Rattle.partition.specs.Bits.{top}
use Rattle.partition.specs.declared.Shape.{Shape}
use Rattle.partition.specs.Partition.{Row, needs, rows_of}
use Rattle.partition.specs.Sizes.{number_of_size}
use Rattle.partition.proofs.Bits.{top_step}
use Rattle.partition.proofs.Laws.{load_reordered}
use Rattle.store.specs.Pages.{size, pages, page, dir_depth, entry_at, Page, free, bucket, read, contents, as_row, rows_in, rows_held, deepest_in}
use Rattle.store.specs.Accepted.{GoodLength, Zero, Calls, Stands, unused, used, Parted, Accepted}
use Rattle.store.specs.Counts.{Counts}
use Rattle.store.specs.Tables.{Becomes}
use Rattle.store.specs.Demands.{Sized, Hash}
use Rattle.store.proofs.Accepted.Rules.{Opened, opened, closed}
use Rattle.store.proofs.Accepted.Spelled.{AllFolded}
use Rattle.store.proofs.Showing.Shows.{prefix_on, Holding, Shows}
use Rattle.store.proofs.Showing.Shown.{free_not, page_row}
use Rattle.store.proofs.Accepted.Unique.{read_zero, read_used, held, within}
use Rattle.store.proofs.Paging.PageTies.{row_in}
use Rattle.store.proofs.Showing.Showing.{first_code_lem}
use Rattle.store.proofs.Accepted.Named.{Entry, nothing, names, deep_small, deepest_bound, shown_shallow, one_called, accepted_entry}

-- page 0 but for its depth
pub record Head (S : Shape) (t : List ℕ) : Type 0 where
  pub number : le32 t 0 ≡ pages S t
  pub directory : le32 t 4 ≡ size S
  pub entries : le32 t 8 ≡ S.entries
  pub first : le32 t 12 ≡ 2 * size S
  pub size_number : le32 t 20 ≡ number_of_size S
  pub rest : (k : ℕ) → 80 ≤ k → k < size S → byte t k ≡ 0

-- a page that is free or a bucket page, its hashes left aside
abbrev pub Whole : List ℕ → Type 0
Whole g = Zero g ⊎ BucketPage g

-- the bytes t laid out for the pages gs
pub record Laid (S : Shape) (h : List ℕ → ℕ) (t : List ℕ) (gs : List Page) : Type 0 where
  pub long : GoodLength S t
  pub head : Head S t
  pub deep : dir_depth t ≡ deepest_in gs
  pub each : (p : ℕ) → 2 ≤ p → p < pages S t → Whole (page S t p)
  pub holds : contents S t ≡ gs
  pub entry : (e : ℕ) → e < S.entries → Entry S h t gs (dir_depth t) (pages S t - 2) e

-- page 0 stays so where the bytes around its depth and its counts stay
pub head_around : (S : Shape) → Sized S → (s t : List ℕ) → length t ≡ length s → ((k : ℕ) → k < 16 → byte t k ≡ byte s k) → ((k : ℕ) → 20 ≤ k → k < 24 → byte t k ≡ byte s k) → ((k : ℕ) → 80 ≤ k → k < size S → byte t k ≡ byte s k)
    → Head S s → Head S t
head_around S sized s t l a b c w = record {
  number = word 0 (omega arith) ∙ w.number ∙ ap (λ n. n / size S) (sym l);
  directory = word 4 (omega arith) ∙ w.directory;
  entries = word 8 (omega arith) ∙ w.entries;
  first = word 12 (omega arith) ∙ w.first;
  size_number = le32_same s t 20 (λ i m. b (20 + i) (omega arith) (omega arith)) ∙ w.size_number;
  rest = λ k x y. c k x y ∙ w.rest k x y;
}
  where
    word : (k : ℕ) → k + 4 ≤ 16 → le32 t k ≡ le32 s k
    word k m = le32_same s t k (λ i b. a (k + i) (omega arith))

-- and where the bytes around its depth stay
pub head_kept : (S : Shape) → Sized S → (s t : List ℕ) → length t ≡ length s → ((k : ℕ) → k < 16 → byte t k ≡ byte s k) → ((k : ℕ) → 20 ≤ k → k < size S → byte t k ≡ byte s k) → Head S s → Head S t
head_kept S sized s t l a b w = head_around S sized s t l a (λ k x y. b k x (omega (arith, sized.least))) (λ k x y. b k (omega arith) y) w

-- pages 2 upward stay where the bytes from there on stay
module _ (S : Shape) (s t : List ℕ) (l : length t ≡ length s) (same : (k : ℕ) → 2 * size S ≤ k → byte t k ≡ byte s k) where
  pub page_kept : (p : ℕ) → 2 ≤ p → p < pages S t → page S t p ≡ page S s p
  unfolding page
  page_kept p a b =
      let x : p * size S + size S ≤ length t = within S t p b in
      let m : 2 * size S ≤ p * size S = mul-le-mul_right (size S) a in
      part_same s t (p * size S) (size S) (omega arith) x (λ k lo hi. same k (omega arith))

  pub contents_kept : contents S t ≡ contents S s
  unfolding contents
  contents_kept =
      tab_same (λ i. read (page S t (i + 2))) (λ i. read (page S s (i + 2))) (pages S t - 2) (λ i b. ap read (page_kept (i + 2) (omega arith) (omega arith)))
      ∙ ap (λ n. tab (λ i. read (page S s (i + 2))) (n / size S - 2)) l

  pub each_kept : ((p : ℕ) → 2 ≤ p → p < pages S s → Whole (page S s p)) → (p : ℕ) → 2 ≤ p → p < pages S t → Whole (page S t p)
  each_kept f p a b = subst Whole (sym (page_kept p a b)) (f p a (subst (λ n. p < n / size S) l b))

-- bytes that differ in the counts only are laid out for the same pages
module _ (S : Shape) (h : List ℕ → ℕ) (sized : Sized S) (s t : List ℕ) (gs : List Page) (F : Frame s 24 56 t) (L : Laid S h s gs) where
  same_many : pages S t ≡ pages S s
  same_many = ap (λ n. n / size S) F.len

  same_depth : dir_depth t ≡ dir_depth s
  same_depth = le32_same s t 16 (λ i m. F.below (16 + i) (omega arith))

  same_entry : (e : ℕ) → entry_at S t e ≡ entry_at S s e
  same_entry e = le32_same s t (size S + 4 * e) (λ i m. F.above (size S + 4 * e + i) (omega (arith, sized.least)))

  same_above : (k : ℕ) → 2 * size S ≤ k → byte t k ≡ byte s k
  same_above k l = F.above k (omega (arith, sized.least))

  re_entry : (d n e : ℕ) → Entry S h s gs d n e → Entry S h t gs d n e
  re_entry d n e (nothing z f) = nothing (same_entry e ∙ z) f
  re_entry d n e (names i k qs b m x c) = names i k qs b (same_entry e ∙ m) x c

  pub recounted : Laid S h t gs
  recounted = record {
    long = record { whole = ap (λ n. n % size S) F.len ∙ L.long.whole; least = subst (λ n. 3 ≤ n) (sym same_many) L.long.least; most = subst (λ n. n ≤ S.entries + 2) (sym same_many) L.long.most };
    head = head_around S sized s t F.len (λ k l. F.below k (omega arith)) (λ k a l. F.below k (omega arith)) (λ k a l. F.above k (omega arith)) L.head;
    deep = same_depth ∙ L.deep;
    each = each_kept S s t F.len same_above L.each;
    holds = contents_kept S s t F.len same_above ∙ L.holds;
    entry = λ e l. subst₂ (λ d n. Entry S h t gs d n e) (sym same_depth) (ap (λ n. n - 2) (sym same_many)) (re_entry (dir_depth s) (pages S s - 2) e (L.entry e l));
  }

module _ (S : Shape) (h : List ℕ → ℕ) (sized : Sized S) (hash : Hash h) (t : List ℕ) (rs : List Row) (gs : List Page) (L : Laid S h t gs) (w : Shows S h rs gs)
    (spelled : AllFolded rs) where
  abbrev pg : ℕ → List ℕ
  pg p = page S t p

  abbrev d : ℕ
  d = dir_depth t

  reads : (p : ℕ) → 2 ≤ p → p < pages S t → get_or gs (p - 2) free ≡ read (pg p)
  reads p a b = ap (λ l. get_or l (p - 2) free) (sym L.holds) ∙ held S t p a b

  on : (p : ℕ) → 2 ≤ p → p < pages S t → BucketPage (pg p) → Holding gs (p - 2) (depth (pg p)) (rows (pg p))
  on p a b u = reads p a b ∙ read_used (pg p) u

  deep_32 : d ≤ 32
  deep_32 = le_trans (subst (λ n. n ≤ S.deepest) (sym L.deep) (shown_shallow S h hash rs gs w)) (deep_small S sized)

  low : (i k : ℕ) (qs : List Record) → Holding gs i k qs → k ≤ d
  low i k qs g = subst (λ n. k ≤ n) (sym L.deep) (deepest_bound gs i k qs g)

  -- the row of a slot is one of the rows, and its hash has the page's prefix
  shown : (p : ℕ) → 2 ≤ p → p < pages S t → BucketPage (pg p) → (i : ℕ) → i < count (pg p)
      → Memᴰ (as_row (row_at (pg p) i)) rs × (top (depth (pg p)) (h (code (pg p) i)) ≡ prefix_on h (depth (pg p)) (rows (pg p)))
  shown p a b u i l =
      let g = on p a b u in
      (page_row S h rs (depth (pg p)) (rows (pg p)) (w.page (p - 2) (depth (pg p)) (rows (pg p)) g) (as_row (row_at (pg p) i))).0 (row_in (pg p) i l)

  -- every hash of a page has the page's prefix
  begins : (p : ℕ) → 2 ≤ p → p < pages S t → BucketPage (pg p) → (i : ℕ) → i < count (pg p) → top (depth (pg p)) (h (code (pg p) i)) ≡ prefix_on h (depth (pg p)) (rows (pg p))
  begins p a b u i l = (shown p a b u i l).1

  -- the entries that name a page are those that it calls for
  exactly : (p : ℕ) → 2 ≤ p → p < pages S t → BucketPage (pg p) → (e : ℕ) → e < S.entries
      → (entry_at S t e ≡ p) ↔ Calls d (depth (pg p)) (prefix_on h (depth (pg p)) (rows (pg p))) e
  exactly p a b u e l = (there (L.entry e l), back (L.entry e l))
    where
      g : Holding gs (p - 2) (depth (pg p)) (rows (pg p))
      g = on p a b u

      there : Entry S h t gs d (pages S t - 2) e → entry_at S t e ≡ p → Calls d (depth (pg p)) (prefix_on h (depth (pg p)) (rows (pg p))) e
      there (nothing z f) q = absurd (omega arith)
      there (names i k qs _ n x c) q =
          let j : i ≡ p - 2 = omega arith in
          let y : bucket k qs ≡ bucket (depth (pg p)) (rows (pg p)) = sym x ∙ ap (λ n. get_or gs n free) j ∙ g in
          let dk : k ≡ depth (pg p) = cc in
          let qq : qs ≡ rows (pg p) = cc in
          subst₂ (λ n r. Calls d n (prefix_on h n r) e) dk qq c

      back : Entry S h t gs d (pages S t - 2) e → Calls d (depth (pg p)) (prefix_on h (depth (pg p)) (rows (pg p))) e → entry_at S t e ≡ p
      back (nothing z f) c = absurd (f (p - 2) (depth (pg p)) (rows (pg p)) (omega arith) g c)
      back (names i k qs _ n x f) c =
          let j : i ≡ p - 2 = one_called S h rs gs w d deep_32 i (p - 2) k (depth (pg p)) qs (rows (pg p)) (low i k qs x) (low (p - 2) (depth (pg p)) (rows (pg p)) g) x g e f c in
          omega arith

  stands : (p : ℕ) → 2 ≤ p → p < pages S t → Stands S h t p
  stands p a b = go (L.each p a b)
    where
      none : Zero (pg p) → (e : ℕ) → Entry S h t gs d (pages S t - 2) e → entry_at S t e ≡ p → ⊥
      none z e (nothing y f) q = omega arith
      none z e (names i k qs _ n x c) q =
          let j : i ≡ p - 2 = omega arith in
          free_not (sym (read_zero (pg p) z) ∙ sym (reads p a b) ∙ ap (λ n. get_or gs n free) (sym j) ∙ x)

      go : Whole (pg p) → Stands S h t p
      go (inl z) = unused z (λ e l. none z e (L.entry e l))
      go (inr u) = used
          (record { rules = u; folded = λ i x. spelled (as_row (row_at (pg p) i)) (shown p a b u i x).0; share = λ i j x y. begins p a b u i x ∙ sym (begins p a b u j y) })
          (low (p - 2) (depth (pg p)) (rows (pg p)) (on p a b u))
          (λ e l. subst (λ v. (entry_at S t e ≡ p) ↔ Calls d (depth (pg p)) v e) (first_code_lem h (pg p) u) (exactly p a b u e l))

  parted : (p : ℕ) → 2 ≤ p → p < pages S t → Parted S h t p
  parted p a b j e = go (L.each p a b)
    where
      c : ℕ
      c = top j (h (code (pg p) 0))

      go : Whole (pg p) → S.capacity < needs (rows_of h (rows_held S t) j c)
      go (inl z) = absurd (omega (arith, z 1))
      go (inr u) =
          let x = (w.page (p - 2) (depth (pg p)) (rows (pg p)) (on p a b u)).is.split j e in
          let v : prefix_on h (depth (pg p)) (rows (pg p)) / 2 ≡ c = ap (λ n. n / 2) (first_code_lem h (pg p) u) ∙ ap (λ n. top n (h (code (pg p) 0)) / 2) e ∙ top_step (h (code (pg p) 0)) j in
          let r : needs (rows_of h (rows_held S t) j c) ≡ needs (rows_of h rs j c) = ap (λ l. needs (rows_of h (rows_in l) j c)) L.holds ∙ load_reordered S h w.same j c in
          subst (λ n. S.capacity < n) (ap (λ n. needs (rows_of h rs j n)) v ∙ sym r) x

  -- BYTES LAID OUT FOR PAGES THAT SHOW ROWS, THEIR COUNTS TRUE, ARE AN ACCEPTED STORE
  pub laid_accepted : Counts S t → Accepted S h t
  laid_accepted C = closed S h t record {
    long = L.long;
    page0 = record {
      number = L.head.number;
      directory = L.head.directory;
      entries = L.head.entries;
      first = L.head.first;
      depth = subst (λ n. n ≤ S.deepest) (sym L.deep) (shown_shallow S h hash rs gs w);
      size_number = L.head.size_number;
      rest = L.head.rest;
    };
    page1 = record { range = λ e l. range e (L.entry e l); beyond = λ e l. beyond e (L.entry e l) };
    stands = stands;
    parted = parted;
    deepest = L.deep ∙ ap deepest_in (sym L.holds);
    counts = C;
  }
    where
      range : (e : ℕ) → Entry S h t gs d (pages S t - 2) e → (entry_at S t e ≡ 0) ⊎ ((2 ≤ entry_at S t e) × (entry_at S t e < pages S t))
      range e (nothing z f) = inl z
      range e (names i k qs b n x c) = inr (omega arith, omega arith)

      beyond : (e : ℕ) → Entry S h t gs d (pages S t - 2) e → 2 ^ d ≤ e → entry_at S t e ≡ 0
      beyond e (nothing z f) l = z
      beyond e (names i k qs b n x c) l = absurd (omega (arith, c.below))

  pub laid_becomes : (s : List ℕ) → length t ≡ length s → ((k : ℕ) → byte t k < 256) → Counts S t → Becomes S h s gs t
  laid_becomes s l b C = record { byte_size = b; long = l; held = L.holds; again = laid_accepted C }

-- and an accepted store is laid out for its pages
pub accepted_laid : (S : Shape) (h : List ℕ → ℕ) → Sized S → Hash h → (s : List ℕ) → Accepted S h s → Laid S h s (contents S s)
accepted_laid S h sized hash s a = record {
  long = T.long;
  head = record { number = T.page0.number; directory = T.page0.directory; entries = T.page0.entries; first = T.page0.first; size_number = T.page0.size_number; rest = T.page0.rest };
  deep = T.deepest;
  each = λ p x y. go p (T.stands p x y);
  holds = refl;
  entry = accepted_entry S h sized hash s T;
}
  where
    T : Opened S h s
    T = opened S h s a

    go : (p : ℕ) → Stands S h s p → Whole (page S s p)
    go p (unused z _) = inl z
    go p (used b _ _) = inr b.rules
