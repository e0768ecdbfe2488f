-- Pass 2: what is kept of each page, and what it says of the rule. Assumes nothing.
use mathlib.Core.Path.{◌≡◌, refl, sym, ap, ap₂, subst, ◌∙◌}
use mathlib.Core.Bool.{Bool, true, false}
use mathlib.Core.List.{List, map}
use mathlib.Core.Logic.{◌⊎◌, inl, inr, ⊎_elim, ◌↔◌}
use Prim.Native.Nat.{ℕ, suc, ◌+◌, ◌-◌, ◌*◌, ◌/◌, ◌^◌, ◌≤◌, ◌<◌}
use native.Mathlib.Omega.{arith}
use lib.Dec.{eqb}
use borrow.Author.Tests.{eq-eqb, ne_eqb}
use lib.ListN.{length, get_or, set, get_or-eq_default}
use Rattle.ground.specs.Lists.{byte, total}
use Rattle.ground.proofs.Sides.{same, side}
use Rattle.ground.proofs.Tables.{total_same}
use Rattle.ground.proofs.Tests.{says_eqb}
use Rattle.words.specs.Moves.{Span}
use Rattle.words.specs.Zeros.{Zero}
use Rattle.hash.specs.Fnv.{fnv, fnv_lt}
use Rattle.page.specs.Page.{Record, BucketPage, depth, code, rows}
use Rattle.page.specs.Page.{free as total_free}
use Rattle.partition.specs.Bits.{top}
use Rattle.partition.specs.Partition.{needs, rows_of, after}
use Rattle.partition.specs.Partition as Partition
use Rattle.partition.proofs.Tree.{pfx}
use Rattle.partition.proofs.Directory.{holds_range, entries_size}
use Rattle.partition.proofs.Bits.{top_lt, top_step}
use Rattle.partition.proofs.Path.{path_short}
use Rattle.store.specs.Pages.{size, pages, page, dir_depth, free, bucket, read, contents, depth_on, as_row, rows_on, rows_held}
use Rattle.store.specs.Accepted.{Stands, unused, used, Parted, Deepest}
use Rattle.store.specs.Moves.{pick}
use Rattle.partition.specs.declared.Shape.{Shape}
use Rattle.store.specs.Demands.{Sized}
use Rattle.store.proofs.Accepted.Named.{deepest_le}
use Rattle.store.proofs.Accepted.Unique.{read_zero, read_used, page_long, held as held_at}
use Rattle.store.proofs.Showing.Shows.{Holding}
use Rattle.store.proofs.Showing.Shown.{free_not}
use Rattle.store.proofs.Showing.Showing.{pages_held}
use Rattle.store.proofs.Paging.Depths.{page_byte}
use Rattle.store.proofs.Paging.PageTies.{page_needs}
use Rattle.store_check.specs.Begun.{AllStand}
use Rattle.store_check.specs.Heaps.{heap, below, Heaped}
use Rattle.store_check.specs.Digest.{Legible, LoadOf, Hashed, Celled, Digest, first_of, hash_at, top_at, load_at}
use Rattle.store_check.proofs.Fills.{filled_more}
use Rattle.store_check.proofs.Heaps.{heaped_more, between, cells_below, heap_most, below_most}
use Rattle.store_check.proofs.Loads.{pick_none, load_shorter}

depth_small : (S : Shape) (s : List ℕ) (p : ℕ) → dir_depth s ≤ S.deepest → Stands S fnv s p → depth (page S s p) ≤ S.deepest
depth_small S s p d (unused z _) = omega (arith, z 1)
depth_small S s p d (used b k _) = omega arith

pub depth_most : (S : Shape) (s : List ℕ) (n p : ℕ) → AllStand S s n → 2 ≤ p → p < n → byte s (p * size S + 1) ≤ S.deepest
depth_most S s n p T a b = omega (arith, page_byte S s p 1 (omega arith), depth_small S s p T.deep (T.each p a b))

-- a page that stands can be read
stands_is : (S : Shape) (s : List ℕ) (p : ℕ) → Stands S fnv s p → Zero (page S s p) ⊎ BucketPage (page S s p)
stands_is S s p (unused z _) = inl z
stands_is S s p (used b _ _) = inr b.rules

pub legible : (S : Shape) (s : List ℕ) (n p : ℕ) → AllStand S s n → 2 ≤ p → p < n → Legible (page S s p)
legible S s n p T a b = record { long = omega (arith, page_long S s p (omega (arith, T.number))); short = omega (arith, page_long S s p (omega (arith, T.number)), T.sized.most); is = stands_is S s p (T.each p a b) }

pub first_free : (g : List ℕ) → byte g 0 ≡ 0 → first_of g ≡ 0
first_free g e = ap (λ b. pick b 0 (fnv (code g 0))) (eq-eqb (byte g 0) 0 e)

pub first_used : (g : List ℕ) → (byte g 0 ≡ 0 → ⊥) → first_of g ≡ fnv (code g 0)
first_used g n = ap (λ b. pick b 0 (fnv (code g 0))) (ne_eqb (byte g 0) 0 n)

-- a page's first hash is kept
pub hashed_more : (S : Shape) (s : List ℕ) {p x : ℕ} {hashes : List ℕ} → Hashed S s p hashes → 2 ≤ p → p < S.entries + 2 → x ≡ first_of (page S s p) → Hashed S s (p + 1) (set hashes p x)
hashed_more S s {hashes = hashes} H a b e =
    let F = filled_more (λ k v. v ≡ first_of (page S s k)) {l = hashes} (record { long = H.long; start = a; each = H.each }) b e in
    record { long = F.long; each = F.each }

-- of the free pages from p up to q it is 0
pub hashed_free : (S : Shape) (s : List ℕ) {p q : ℕ} {hashes : List ℕ} → Hashed S s p hashes → ((k : ℕ) → p ≤ k → get_or hashes k 0 ≡ 0) → ((k : ℕ) → k < q → p ≤ k → Zero (page S s k)) → Hashed S s q hashes
hashed_free S s {p} H none clear = record { long = H.long; each = λ k a b. ⊎_elim (λ lt. H.each k a lt) (λ ge. none k ge ∙ sym (first_free (page S s k) (clear k b ge 0))) (side k p) }

pub top_most : (S : Shape) → Sized S → (g : List ℕ) → top S.deepest (first_of g) < S.entries
top_most S z g = omega (arith, top_lt (first_of g) S.deepest (small (eqb (byte g 0) 0)), z.deep)
  where
    small : (b : Bool) → pick b 0 (fnv (code g 0)) < 2 ^ 32
    small true = omega arith
    small false = fnv_lt (code g 0)

module _ (g : List ℕ) (L : Legible g) where
  pub used_page : (byte g 0 ≡ 0 → ⊥) → BucketPage g
  used_page nz = ⊎_elim (λ z. absurd (nz (z 0))) (λ b. b) L.is

  free_page : byte g 0 ≡ 0 → Zero g
  free_page e = ⊎_elim (λ z. z) (λ b. absurd (omega (arith, b.rules.one))) L.is

  pub load_free : byte g 0 ≡ 0 → LoadOf g 0
  unfolding needs
  load_free e = (sym (ap (λ x. needs (rows_on x)) (read_zero g (free_page e))), omega (arith, L.long))

  pub load_used : (byte g 0 ≡ 0 → ⊥) → (x : ℕ) → x ≡ total_free g → (x + 8 ≤ length g) × LoadOf g (length g - 8 - x)
  load_used nz x e =
      let b = used_page nz in
      let f : total_free g + needs (map as_row (rows g)) ≡ length g - 8 = page_needs g b.rules in
      let r : needs (rows_on (read g)) ≡ needs (map as_row (rows g)) = ap (λ y. needs (rows_on y)) (read_used g b) in
      (omega (arith, L.long), (omega (arith, L.long), omega (arith, L.long)))

-- what the pages need together whose first hash begins with the k bits of v
abbrev load_of : Shape → List ℕ → ℕ → ℕ → ℕ → ℕ
load_of S s k v n = total (λ i. pick (eqb (top k (hash_at S s i)) v) (load_at S s i) 0) (n - 2)

module _ (S : Shape) (s : List ℕ) (n : ℕ) (T : AllStand S s n) where
  -- no page needs more than the room of the largest size
  load_most : (i : ℕ) → i < n - 2 → load_at S s i ≤ 16376
  load_most i l =
      let L : Legible (page S s (i + 2)) = legible S s n (i + 2) T (omega arith) (omega arith) in
      let m = page_long S s (i + 2) (omega (arith, T.number)) in
      ⊎_elim (λ z. let y = load_free _ L z in omega (arith, y.0)) (λ nz. let y = load_used _ L nz _ refl in omega (arith, y.1.0, y.1.1, m, T.sized.most)) (same (byte (page S s (i + 2)) 0) 0)

  pub cell_most : (k v : ℕ) → k ≤ n - 2 → heap (top_at S s) (load_at S s) k v ≤ 16376 * k
  cell_most k = λ v l. heap_most (top_at S s) (load_at S s) k 16376 (λ i m. load_most i (omega arith)) v

  -- page p's load falls to the cell of its first hash
  pub celled_more : (p : ℕ) → 2 ≤ p → {cells : List ℕ} → Celled S s p cells → {t x y : ℕ} → t ≡ top S.deepest (first_of (page S s p)) → x ≡ needs (rows_on (read (page S s p))) → y ≡ get_or cells t 0 + x → Celled S s (p + 1) (set cells t y)
  celled_more p a {cells} C {t} {x} {y} e f g =
      let q : p ≡ p - 2 + 2 = omega arith in
      let m : p - 2 + 1 ≡ p + 1 - 2 = omega arith in
      subst (λ k. Heaped (top_at S s) (load_at S s) k (S.entries + 1) (set cells t y)) m
      (heaped_more (top_at S s) (load_at S s) C (e ∙ ap (λ i. top S.deepest (first_of (page S s i))) q) (omega (arith, top_most S T.sized (page S s p)))
      (g ∙ ap (λ w. get_or cells t 0 + w) (f ∙ ap (λ i. needs (rows_on (read (page S s i)))) q)))

  -- the cells, added up: the sum fits, and what it is
  module _ (cells : List ℕ) (C : Celled S s n cells) where
    cells_are : (v : ℕ) → v ≤ S.entries + 1 → total (λ j. get_or cells j 0) v ≡ below (top_at S s) (load_at S s) (n - 2) v
    cells_are v l = total_same _ _ v (λ j m. C.each j (omega arith)) ∙ cells_below (top_at S s) (load_at S s) (n - 2) v

    pub cells_fit : total (λ j. get_or cells j 0) (length cells) < 4294967296
    cells_fit =
        let e : total (λ j. get_or cells j 0) (length cells) ≡ below (top_at S s) (load_at S s) (n - 2) (S.entries + 1) = ap (total (λ j. get_or cells j 0)) C.long ∙ cells_are (S.entries + 1) (omega arith) in
        omega (arith, below_most (top_at S s) (load_at S s) (n - 2) 16376 load_most (S.entries + 1), T.most, T.sized.whole, T.sized.most)

    pub digested : (hashes sums : List ℕ) → Hashed S s n hashes → Span cells 0 (length cells) (λ i. total (λ j. get_or cells j 0) i) sums → Digest S s (pages S s) hashes sums
    digested hashes sums H A = subst (λ m. Digest S s m hashes sums) T.number (record {
      hashed = H;
      long = A.len ∙ C.long;
      each = λ v l. A.new v (omega arith) (omega (arith, C.long)) ∙ cells_are v (omega arith);
    })

  module _ (p : ℕ) (from : 2 ≤ p) (to : p < n) where
    abbrev first : ℕ → ℕ
    first q = fnv (code (page S s q) 0)

    pub parted_flat : depth (page S s p) ≡ 0 → Parted S fnv s p
    parted_flat e j d = absurd (omega arith)

    module _ (j : ℕ) (deep : depth (page S s p) ≡ suc j) where
      is_bucket : Stands S fnv s p → (byte (page S s p) 0 ≡ 1) × (j ≤ S.deepest)
      is_bucket (unused z _) = absurd (omega (arith, z 1))
      is_bucket (used b k _) = (b.rules.rules.one, omega (arith, k, T.deep))

      one : byte (page S s p) 0 ≡ 1
      one = (is_bucket (T.each p from to)).0

      small : j ≤ S.deepest
      small = (is_bucket (T.each p from to)).1

      -- page q's part of the sum
      same_part : (q v : ℕ) → Stands S fnv s q
          → pick (eqb (top j (first_of (page S s q))) v) (needs (rows_on (read (page S s q)))) 0 ≡ pick (eqb (top j (first q)) v) (needs (rows_on (read (page S s q)))) 0
      unfolding needs
      same_part q v (unused z _) =
          let e : needs (rows_on (read (page S s q))) ≡ 0 = ap (λ x. needs (rows_on x)) (read_zero (page S s q) z) in
          ap (λ x. pick (eqb (top j (first_of (page S s q))) v) x 0) e ∙ pick_none (eqb (top j (first_of (page S s q))) v)
          ∙ sym (ap (λ x. pick (eqb (top j (first q)) v) x 0) e ∙ pick_none (eqb (top j (first q)) v))
      same_part q v (used k _ _) = ap (λ x. pick (eqb (top j x) v) (needs (rows_on (read (page S s q)))) 0) (first_used (page S s q) (λ e. omega (arith, k.rules.rules.one)))

      load_is : load_of S s j (top j (first p)) n ≡ needs (rows_of fnv (rows_held S s) j (top j (first p)))
      load_is =
          total_same _ _ (n - 2) (λ i l. same_part (i + 2) (top j (first p)) (T.each (i + 2) (omega arith) (omega arith)))
          ∙ ap (λ m. total (λ i. pick (eqb (top j (first (i + 2))) (top j (first p))) (needs (rows_on (read (page S s (i + 2))))) 0) (m - 2)) T.number
          ∙ sym (load_shorter S fnv T.sized fnv_lt s T.deep p j (T.each p from to) one deep (λ q a b. T.each q a (omega (arith, T.number))))

      -- the prefix's run of cells
      run_is : (v : ℕ) → below (top_at S s) (load_at S s) (n - 2) (after S.deepest (pfx j v)) ≡ below (top_at S s) (load_at S s) (n - 2) (Partition.first S.deepest (pfx j v)) + load_of S s j v n
      run_is v = between (top_at S s) (load_at S s) (n - 2) (λ i. eqb (top j (hash_at S s i)) v) (Partition.first S.deepest (pfx j v)) (after S.deepest (pfx j v)) (omega (arith, entries_size S.deepest (pfx j v)))
          (λ i _.
          let e : top_at S s i / 2 ^ (S.deepest - j) ≡ top j (hash_at S s i) = path_short (λ k. top k (hash_at S s i)) (top_step (hash_at S s i)) j S.deepest small in
          says_eqb (top j (hash_at S s i)) v (λ q. (holds_range S.deepest (top_at S s i) (pfx j v)).0 (e ∙ q)) (λ q. sym e ∙ (holds_range S.deepest (top_at S s i) (pfx j v)).1 q))

    -- what the run from a up to b of a bucket's parent says of the rule
    module _ (hashes sums : List ℕ) (D : Digest S s n hashes sums) (a b k : ℕ) (is : suc k ≡ depth (page S s p))
        (begins : a ≡ Partition.first S.deepest (pfx k (top k (get_or hashes p 0)))) (ends : b ≡ after S.deepest (pfx k (top k (get_or hashes p 0)))) (within : b ≤ S.entries) (up : a ≤ b) where
      held : get_or sums b 0 ≡ get_or sums a 0 + needs (rows_of fnv (rows_held S s) k (top k (first p)))
      held =
          let e : get_or hashes p 0 ≡ first p = D.hashed.each p from to ∙ first_used (page S s p) (λ z. omega (arith, one k (sym is))) in
          D.each b within ∙ ap (below (top_at S s) (load_at S s) (n - 2)) ends ∙ run_is k (sym is) (top k (get_or hashes p 0))
          ∙ ap₂ ◌+◌ (sym (D.each a (omega arith) ∙ ap (below (top_at S s) (load_at S s) (n - 2)) begins)) (ap (λ x. load_of S s k (top k x) n) e ∙ load_is k (sym is))

      pub sums_rise : get_or sums a 0 ≤ get_or sums b 0
      sums_rise = omega (arith, held)

      pub parted_by : (S.capacity < get_or sums b 0 - get_or sums a 0) ↔ Parted S fnv s p
      parted_by = (
        (λ l j q. let m : k ≡ j = omega arith in subst (λ x. S.capacity < needs (rows_of fnv (rows_held S s) x (top x (first p)))) m (omega (arith, held))),
        (λ P. omega (arith, held, P k (sym is))),
      )

-- in a directory of depth 0 no bucket has a prefix to shorten
pub undivided : (S : Shape) (s : List ℕ) (n : ℕ) → AllStand S s n → dir_depth s ≡ 0 → (q : ℕ) → 2 ≤ q → q < n → Parted S fnv s q
undivided S s n a z q l m j e = go (a.each q l m)
  where
    go : Stands S fnv s q → S.capacity < needs (rows_of fnv (rows_held S s) j (top j (fnv (code (page S s q) 0))))
    go (unused g _) = absurd (omega (arith, g 1, e))
    go (used b k _) = absurd (omega (arith, k, z, e))

-- and none is deeper than it
pub level : (S : Shape) (s : List ℕ) → AllStand S s (pages S s) → dir_depth s ≡ 0 → Deepest S s
level S s a z = omega (arith, z, deepest_le (contents S s) 0 flat)
  where
    shallow : (q : ℕ) → Stands S fnv s q → (k : ℕ) (rs : List Record) → read (page S s q) ≡ bucket k rs → k ≤ 0
    shallow q (unused g _) k rs e = absurd (free_not (sym (read_zero (page S s q) g) ∙ e))
    shallow q (used b l _) k rs e = let f : depth (page S s q) ≡ k = ap depth_on (sym (read_used (page S s q) b.rules) ∙ e) in omega (arith, l, z)

    flat : (i k : ℕ) (rs : List Record) → Holding (contents S s) i k rs → k ≤ 0
    flat i k rs e = ⊎_elim
        (λ lt.
        let n : i + 2 - 2 ≡ i = omega arith in
        shallow (i + 2) (a.each (i + 2) (omega arith) (omega arith)) k rs (sym (held_at S s (i + 2) (omega arith) (omega arith)) ∙ ap (λ j. get_or (contents S s) j free) n ∙ e))
        (λ ge. absurd (free_not (sym (get_or-eq_default (contents S s) free (omega (arith, pages_held S s))) ∙ e)))
        (side i (pages S s - 2))
