-- What the reading calls need of an accepted store: a code is on the page that its hash's entry names, and the rows are counted page by page. Assumes nothing.
use mathlib.Core.Path.{◌≡◌, refl, sym, ap, subst, subst₂, ◌∙◌}
use mathlib.Core.List.{List, [], ◌∷◌, ◌++◌, map, flat_map}
use mathlib.Core.Option.{Option, some, none}
use Prim.Native.Nat.{ℕ, zero, suc, ◌+◌, ◌-◌, ◌^◌, ◌≤◌, ◌<◌}
use native.Mathlib.Omega.{arith}
use lib.ListN.{length, get_or, get_elem?, length-append, length-map}
use Rattle.ground.specs.Lists.{tab, total}
use Rattle.ground.proofs.Tables.{length_tab, tab_map}
use Rattle.page.specs.Page.{Record, BucketPage, depth, count, rows, row_at}
use Rattle.partition.specs.Bits.{top}
use Rattle.partition.specs.declared.Shape.{Shape}
use Rattle.partition.specs.Partition.{Row, rows_of}
use Rattle.partition.specs.Listing.{place_of, Once}
use Rattle.partition.proofs.Bits.{top_lt}
use Rattle.partition.proofs.Laws.{held as of_hash}
use Rattle.partition.proofs.Tree.{pfx}
use Rattle.partition.proofs.Directory.{holds_top}
use Rattle.partition.proofs.Maps.{found, missing, placed}
use Rattle.partition.proofs.Sorted.{same_map, some_none, some_once, in_order_reordered}
use Rattle.partition.proofs.Reorders.{turned}
use Rattle.store.specs.Pages.{pages, page, dir_depth, entry_at, Page, free, bucket, read, contents, as_row, rows_on, rows_in, rows_held}
use Rattle.store.specs.Accepted.{Bucket, Zero, Calls, Accepted}
use Rattle.store.specs.Demands.{Sized, Hash}
use Rattle.store.proofs.Accepted.Rules.{Opened, opened}
use Rattle.store.proofs.Showing.Shows.{prefix_on, Holding, Shows}
use Rattle.store.proofs.Showing.Shown.{some_page, page_row}
use Rattle.store.proofs.Accepted.Unique.{read_zero, read_used}
use Rattle.store.proofs.Accepted.Owner.{entry_within}
use Rattle.store.proofs.Showing.Showing.{calls_top, under, accepted_shows}
use Rattle.store.proofs.Accepted.Named.{Entry, nothing, names, accepted_entry}

-- ---- a code's page, among pages that show rows

-- a code is there exactly if it is among the rows of its prefix
prefix_place : (S : Shape) (h : List ℕ → ℕ) (rows : List Row) → Once rows → (k : ℕ) (c : List ℕ) → place_of rows c ≡ place_of (rows_of h rows k (top k (h c))) c
prefix_place S h rows o k c = go (place_of rows c) refl
  where
    v : ℕ
    v = top k (h c)

    go : (m : Option (List ℕ)) → place_of rows c ≡ m → m ≡ place_of (rows_of h rows k v) c
    go none e = sym (some_none h k v rows c e)
    go (some b) e = sym (placed (rows_of h rows k v) (some_once h k v rows o) (record { code = c; place = b }) (of_hash S h rows (record { code = c; place = b }) (found c b rows e) k))

module _ (S : Shape) (h : List ℕ → ℕ) (rows : List Row) (gs : List Page) (w : Shows S h rows gs) (c : List ℕ) where
  -- it is looked up on the page whose prefix its hash has
  pub place_on_lem : (i k : ℕ) (rs : List Record) → Holding gs i k rs → top k (h c) ≡ prefix_on h k rs → place_of rows c ≡ place_of (map as_row rs) c
  place_on_lem i k rs g e =
      let l : List Row = rows_of h rows k (prefix_on h k rs) in
      let o : Once l = some_once h k (prefix_on h k rs) rows w.once in
      prefix_place S h rows w.once k c ∙ ap (λ v. place_of (rows_of h rows k v) c) e
      ∙ (same_map (turned (in_order_reordered l)) o).1 c ∙ ap (λ m. place_of m c) (sym (w.page i k rs g).ordered)

  -- and is not there where no page has its prefix
  pub place_off : ((i k : ℕ) (rs : List Record) → Holding gs i k rs → top k (h c) ≡ prefix_on h k rs → ⊥) → place_of rows c ≡ none
  place_off f = missing rows c (λ r m e. let p = some_page S h rows gs w r m in
      f p.0 p.1 p.2 p.3 (ap (λ x. top p.1 (h x)) e ∙ ((page_row S h rows p.1 p.2 (w.page p.0 p.1 p.2 p.3) r).0 p.4).1))

-- ---- LOOKUP on an accepted store

-- the directory entry of a code's hash
abbrev pub entry_of : Shape → (List ℕ → ℕ) → List ℕ → List ℕ → ℕ
entry_of S h s c = entry_at S s (top (dir_depth s) (h c))

-- page p is the bucket page that the directory entry e names
pub record Naming (S : Shape) (h : List ℕ → ℕ) (s : List ℕ) (e p : ℕ) : Type 0 where
  pub from : 2 ≤ p
  pub to : p < pages S s
  pub bytes : Bucket h (page S s p)
  pub low : depth (page S s p) ≤ dir_depth s
  pub holding : Holding (contents S s) (p - 2) (depth (page S s p)) (rows (page S s p))
  pub calls : Calls (dir_depth s) (depth (page S s p)) (prefix_on h (depth (page S s p)) (rows (page S s p))) e

module _ (S : Shape) (h : List ℕ → ℕ) (sized : Sized S) (hash : Hash h) (s : List ℕ) (a : Accepted S h s) where
  T : Opened S h s
  T = opened S h s a

  pub naming : (e : ℕ) → e < S.entries → (entry_at S s e ≡ 0 → ⊥) → Naming S h s e (entry_at S s e)
  naming e l n = go (accepted_entry S h sized hash s T e l)
    where
      go : Entry S h s (contents S s) (dir_depth s) (pages S s - 2) e → Naming S h s e (entry_at S s e)
      go (nothing z _) = absurd (n z)
      go (names i k rs b q g c) =
          let u = under S h sized hash s T i k rs g in
          let p : i ≡ entry_at S s e - 2 = omega arith in
          let dk : k ≡ depth (page S s (entry_at S s e)) = u.deep ∙ ap (λ m. depth (page S s m)) (sym q) in
          let rr : rs ≡ rows (page S s (entry_at S s e)) = u.its ∙ ap (λ m. rows (page S s m)) (sym q) in
          record {
            from = omega arith;
            to = omega arith;
            bytes = subst (λ m. Bucket h (page S s m)) (sym q) u.bytes;
            low = subst (λ m. m ≤ dir_depth s) dk u.low;
            holding = ap (λ m. get_or (contents S s) m free) (sym p) ∙ g ∙ (λ m. bucket (dk m) (rr m));
            calls = subst₂ (λ n r. Calls (dir_depth s) n (prefix_on h n r) e) dk rr c;
          }

  -- a code's entry is 0: it is not there
  pub lookup_none : (c : List ℕ) → entry_of S h s c ≡ 0 → place_of (rows_held S s) c ≡ none
  lookup_none c z = go (accepted_entry S h sized hash s T (top (dir_depth s) (h c)) (entry_within S h sized hash s T.page0.depth (h c) (hash c)))
    where
      go : Entry S h s (contents S s) (dir_depth s) (pages S s - 2) (top (dir_depth s) (h c)) → place_of (rows_held S s) c ≡ none
      go (names i k rs b q g f) = absurd (omega arith)
      go (nothing _ f) = place_off S h (rows_held S s) (contents S s) (accepted_shows S h sized hash s a) c
          (λ i k rs g e. let u = under S h sized hash s T i k rs g in
          f i k rs (omega (arith, u.within)) g (calls_top (dir_depth s) k (prefix_on h k rs) (h c) u.low (subst (λ v. v < 2 ^ k) e (top_lt (h c) k (hash c))) e))

  -- else it is looked up on the page that the entry names
  pub lookup_page : (c : List ℕ) → (entry_of S h s c ≡ 0 → ⊥) → Naming S h s (top (dir_depth s) (h c)) (entry_of S h s c) × (place_of (rows_held S s) c ≡ place_of (rows_on (read (page S s (entry_of S h s c)))) c)
  lookup_page c n =
      let u = naming (top (dir_depth s) (h c)) (entry_within S h sized hash s T.page0.depth (h c) (hash c)) n in
      let g : List ℕ = page S s (entry_of S h s c) in
      let e : top (depth g) (h c) ≡ prefix_on h (depth g) (rows g) = (holds_top (dir_depth s) (h c) (pfx (depth g) (prefix_on h (depth g) (rows g))) u.low).0 u.calls.bits in (
        u,
        place_on_lem S h (rows_held S s) (contents S s) (accepted_shows S h sized hash s a) c (entry_of S h s c - 2) (depth g) (rows g) u.holding e
            ∙ ap (λ x. place_of (rows_on x) c) (sym (read_used g u.bytes.rules)),
      )

-- ---- COUNT

rows_tab : (f : ℕ → Page) (n : ℕ) → length (rows_in (tab f n)) ≡ total (λ i. length (rows_on (f i))) n
unfolding tab total rows_in flat_map
rows_tab f zero = refl
rows_tab f (suc n) = length-append (rows_on (f zero)) (rows_in (tab (λ i. f (suc i)) n)) ∙ ap (λ m. length (rows_on (f zero)) + m) (rows_tab (λ i. f (suc i)) n)

-- the number of rows is that of the pages' rows
pub count_rows : (S : Shape) (s : List ℕ) → length (rows_held S s) ≡ total (λ i. length (rows_on (read (page S s (i + 2))))) (pages S s - 2)
unfolding contents
count_rows S s = rows_tab (λ i. read (page S s (i + 2))) (pages S s - 2)

-- none on a free page, and its count on a bucket page
pub count_free : (g : List ℕ) → Zero g → length (rows_on (read g)) ≡ 0
count_free g z = ap (λ x. length (rows_on x)) (read_zero g z)

pub count_used : (g : List ℕ) → BucketPage g → length (rows_on (read g)) ≡ count g
count_used g b = ap (λ x. length (rows_on x)) (read_used g b) ∙ length-map (rows g) as_row ∙ length_tab (row_at g) (count g)

-- ---- ROW n of a list of rows, of a page

pub row_left : (l m : List Row) (n : ℕ) → n < length l → get_elem? (l ++ m) n ≡ get_elem? l n
row_left [] m n b = absurd (omega arith)
row_left (r ∷ l) m zero b = refl
row_left (r ∷ l) m (suc n) b = row_left l m n (omega arith)

pub row_right : (l m : List Row) (n : ℕ) → length l ≤ n → get_elem? (l ++ m) n ≡ get_elem? m (n - length l)
row_right [] m n b = let e : n - 0 ≡ n = omega arith in ap (get_elem? m) (sym e)
row_right (r ∷ l) m zero b = absurd (omega arith)
row_right (r ∷ l) m (suc n) b = let e : n - length l ≡ suc n - suc (length l) = omega arith in row_right l m n (omega arith) ∙ ap (get_elem? m) e

row_tab : (f : ℕ → Row) (k n : ℕ) → n < k → get_elem? (tab f k) n ≡ some (f n)
unfolding tab
row_tab f zero n l = absurd (omega arith)
row_tab f (suc k) zero l = refl
row_tab f (suc k) (suc n) l = row_tab (λ i. f (suc i)) k n (omega arith)

pub row_none : (l : List Row) (n : ℕ) → length l ≤ n → get_elem? l n ≡ none
row_none [] n b = refl
row_none (r ∷ l) zero b = absurd (omega arith)
row_none (r ∷ l) (suc n) b = row_none l n (omega arith)

module _ (g : List ℕ) (b : BucketPage g) where
  -- slot n's
  pub row_slot : (n : ℕ) → n < count g → get_elem? (rows_on (read g)) n ≡ some (as_row (row_at g n))
  row_slot n l = ap (λ x. get_elem? (rows_on x) n) (read_used g b) ∙ ap (λ x. get_elem? x n) (tab_map as_row (row_at g) (count g)) ∙ row_tab (λ i. as_row (row_at g i)) (count g) n l

  pub row_past : (n : ℕ) → count g ≤ n → get_elem? (rows_on (read g)) n ≡ none
  row_past n l = row_none (rows_on (read g)) n (omega (arith, count_used g b))

-- a free page has none
pub row_free : (g : List ℕ) → Zero g → (n : ℕ) → get_elem? (rows_on (read g)) n ≡ none
row_free g z n = row_none (rows_on (read g)) n (omega (arith, count_free g z))
