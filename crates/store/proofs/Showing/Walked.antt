-- Each row is listed once; and the listing is a walk over the directory that takes each bucket at its first entry. Assumes nothing.
use borrow.Author.Tests.{le-leb, lt-leb}
use mathlib.Core.Path.{◌≡◌, refl, sym, ap, subst, ◌∙◌}
use mathlib.Core.Bool.{Bool, true, false}
use mathlib.Core.List.Memᴰ
use mathlib.Core.List.{List, [], ◌∷◌, ◌++◌, flat_map, Memᴰ}
use mathlib.Core.Logic.{◌⊎◌, inl, inr}
use mathlib.Core.Option.{some}
use Prim.Native.Nat.{ℕ, ◌+◌, ◌-◌, ◌^◌, ◌≤◌, ◌<◌, zero-le}
use native.Mathlib.Omega.{arith}
use native.Mathlib.Nat.{le_trans, pow-le-pow_right}
use lib.Dec.{leb}
use lib.ListN.{length, get_elem?}
use Rattle.ground.proofs.Sides.{side}
use Rattle.page.specs.Page.{depth, count, rows, row_at}
use Rattle.partition.specs.declared.Shape.{Shape}
use Rattle.partition.specs.Partition.{Row, Prefix, rows_of, buckets, first, after, Ascending}
use Rattle.partition.specs.Listing.{in_order, listing}
use Rattle.partition.proofs.Tree.{pfx}
use Rattle.partition.proofs.Order.{asc_first, asc_last, asc_apart, first_lt_after}
use Rattle.partition.proofs.Directory.{Holds, holds_range, in_order_here, entries_size}
use Rattle.partition.proofs.Listed.{listing_reordered}
use Rattle.partition.proofs.Sorted.{same_map}
use Rattle.store.specs.Pages.{pages, page, dir_depth, entry_at, read, contents, as_row, rows_on, rows_held}
use Rattle.store.specs.Accepted.{Accepted}
use Rattle.store.specs.Demands.{Sized, Hash, ListedOnce}
use Rattle.store.proofs.Showing.Shows.{prefix_on, Shows}
use Rattle.store.proofs.Showing.Shown.{within_pages}
use Rattle.store.proofs.Accepted.Rules.{opened}
use Rattle.store.proofs.Accepted.Unique.{read_used}
use Rattle.store.proofs.Showing.Showing.{pages_held, accepted_shows}
use Rattle.store.proofs.Accepted.Named.{Entry, nothing, names, shown_bucket, bucket_shown, accepted_entry}
use Rattle.store.proofs.Demands.Afresh.{accepted_afresh}
use Rattle.store.proofs.Accepted.Reading.{Naming, naming, count_used, row_left, row_right, row_slot}

-- EACH ROW IS LISTED ONCE
pub listed_once : (S : Shape) (h : List ℕ → ℕ) → Sized S → Hash h → ListedOnce S h
listed_once S h sized hash s a =
    let w = accepted_shows S h sized hash s a in
    let r = listing_reordered S h (rows_held S s) w.fine hash in
    let m = same_map r w.once in
    (m.0, r, λ c. sym (m.1 c))

-- ---- prefixes in order, from an entry on

abbrev keep_if : Bool → Prefix → List Prefix → List Prefix
keep_if true p l = p ∷ l
keep_if false p l = l

-- those that begin at entry i or later
unfoldable pub from : ℕ → ℕ → List Prefix → List Prefix
unfolding first
from d i [] = []
from d i (p ∷ l) = keep_if (leb i (first d p)) p (from d i l)

module _ (d : ℕ) where
  take_it : (i : ℕ) (p : Prefix) (l : List Prefix) → i ≤ first d p → from d i (p ∷ l) ≡ p ∷ from d i l
  unfolding from
  take_it i p l b = ap (λ t. keep_if t p (from d i l)) (le-leb i (first d p) b)

  leave_it : (i : ℕ) (p : Prefix) (l : List Prefix) → first d p < i → from d i (p ∷ l) ≡ from d i l
  unfolding from
  leave_it i p l b = ap (λ t. keep_if t p (from d i l)) (lt-leb i (first d p) b)

  -- none begins earlier
  from_all : (i lo hi : ℕ) (l : List Prefix) → i ≤ lo → Ascending d lo hi l → from d i l ≡ l
  unfolding from
  from_all i lo hi [] b a = refl
  from_all i lo hi (p ∷ l) b a =
      take_it i p l (le_trans b a.0) ∙ ap (λ m. p ∷ m) (from_all i (after d p) hi l (omega (arith, first_lt_after d p, a.0)) a.1)

  -- none begins so late
  from_end : (i lo hi : ℕ) (l : List Prefix) → hi ≤ i → Ascending d lo hi l → from d i l ≡ []
  unfolding from
  from_end i lo hi [] b a = refl
  from_end i lo hi (p ∷ l) b a =
      leave_it i p l (omega (arith, first_lt_after d p, asc_last d lo hi (p ∷ l) a p (Memᴰ.head refl))) ∙ from_end i (after d p) hi l b a.1

  -- none begins at entry i
  from_next : (i : ℕ) (l : List Prefix) → ((p : Prefix) → Memᴰ p l → first d p ≡ i → ⊥) → from d i l ≡ from d (i + 1) l
  unfolding from
  from_next i [] n = refl
  from_next i (p ∷ l) n = go (side (first d p) i) (from_next i l (λ q m. n q (Memᴰ.tail m)))
    where
      go : (first d p < i) ⊎ (i ≤ first d p) → from d i l ≡ from d (i + 1) l → from d i (p ∷ l) ≡ from d (i + 1) (p ∷ l)
      go (inl b) e = leave_it i p l b ∙ e ∙ sym (leave_it (i + 1) p l (omega arith))
      go (inr b) e =
          let x : first d p ≡ i → ⊥ = n p (Memᴰ.head refl) in
          take_it i p l b ∙ ap (λ m. p ∷ m) e ∙ sym (take_it (i + 1) p l (omega arith))

  -- p begins there
  from_here : (i lo hi : ℕ) (l : List Prefix) → Ascending d lo hi l → (p : Prefix) → Memᴰ p l → first d p ≡ i → from d i l ≡ p ∷ from d (after d p) l
  from_here i lo hi [] a p m e = absurd (Memᴰ.not-nil m)
  from_here i lo hi (q ∷ l) a p m e = go (Memᴰ.cases_cons m) (from_here i (after d q) hi l a.1 p)
    where
      go : (p ≡ q) ⊎ Memᴰ p l → (Memᴰ p l → first d p ≡ i → from d i l ≡ p ∷ from d (after d p) l) → from d i (q ∷ l) ≡ p ∷ from d (after d p) (q ∷ l)
      go (inl x) rest =
          let f : first d q ≡ i = ap (first d) (sym x) ∙ e in
          let g : after d p ≡ after d q = ap (after d) x in
          take_it i q l (omega arith)
          ∙ ap (λ m. q ∷ m) (from_all i (after d q) hi l (omega (arith, first_lt_after d q)) a.1 ∙ sym (leave_it (after d p) q l (omega (arith, first_lt_after d q)) ∙ from_all (after d p) (after d q) hi l (omega arith) a.1))
          ∙ ap (λ y. y ∷ from d (after d p) (q ∷ l)) (sym x)
      go (inr t) rest =
          let b = asc_first d (after d q) hi l a.1 p t in
          leave_it i q l (omega (arith, first_lt_after d q)) ∙ rest t e ∙ ap (λ m. p ∷ m) (sym (leave_it (after d p) q l (omega (arith, first_lt_after d q, first_lt_after d p))))

  -- no prefix of l began before entry i and still has it
  abbrev pub Starts : List Prefix → ℕ → Type 0
  Starts l i = (p : Prefix) → Memᴰ p l → Holds d i p → first d p ≡ i

  starts_first : (l : List Prefix) → Starts l 0
  starts_first l p m x = let r = (holds_range d 0 p).0 x in omega (arith, r.0)

  starts_next : (i : ℕ) (l : List Prefix) → ((p : Prefix) → Memᴰ p l → Holds d i p → ⊥) → Starts l (i + 1)
  starts_next i l n p m x = go (side (first d p) (i + 1))
    where
      r : (first d p ≤ i + 1) × (i + 1 < after d p)
      r = (holds_range d (i + 1) p).0 x

      go : (first d p < i + 1) ⊎ (i + 1 ≤ first d p) → first d p ≡ i + 1
      go (inl b) = absurd (n p m ((holds_range d i p).1 (omega arith, omega (arith, r.1))))
      go (inr b) = omega (arith, r.0)

  starts_after : (lo hi : ℕ) (l : List Prefix) → Ascending d lo hi l → (p : Prefix) → Memᴰ p l → Starts l (after d p)
  starts_after lo hi l a p m q n x = go (side (first d q) (after d p))
    where
      r : (first d q ≤ after d p) × (after d p < after d q)
      r = (holds_range d (after d p) q).0 x

      go : (first d q < after d p) ⊎ (after d p ≤ first d q) → first d q ≡ after d p
      go (inl b) =
          let e : p ≡ q = asc_apart d lo hi l a p q m n (after d p - 1) (omega (arith, first_lt_after d p)) (omega arith) (omega arith) (omega (arith, r.1)) in
          absurd (omega (arith, ap (after d) e, r.1))
      go (inr b) = omega (arith, r.0)

-- ---- THE WALK over an accepted store's directory

-- a bucket's rows as they are listed
abbrev rows_at : (List ℕ → ℕ) → List Row → Prefix → List Row
rows_at h rs p = in_order (rows_of h rs p.bits p.value)

-- what is listed from entry i on
unfoldable pub walk_from : Shape → (List ℕ → ℕ) → List ℕ → ℕ → List Row
unfolding flat_map from
walk_from S h s i = flat_map (rows_at h (rows_held S s)) (from (dir_depth s) i (buckets S h (rows_held S s)))

-- a bucket that has entry i begins there
pub record Start (S : Shape) (h : List ℕ → ℕ) (s : List ℕ) (i : ℕ) : Type 0 where
  pub begins : Starts (dir_depth s) (buckets S h (rows_held S s)) i

-- one more bucket
flat_cons : (f : Prefix → List Row) (p : Prefix) (l : List Prefix) → flat_map f (p ∷ l) ≡ f p ++ flat_map f l
unfolding flat_map
flat_cons f p l = refl

flat_none : (f : Prefix → List Row) → flat_map f [] ≡ []
unfolding flat_map
flat_none f = refl

-- the entry at which the next bucket may begin, behind that which entry i names
abbrev pub behind : Shape → List ℕ → ℕ → ℕ
behind S s i = i + 2 ^ (dir_depth s - depth (page S s (entry_at S s i)))

module _ (S : Shape) (h : List ℕ → ℕ) (sized : Sized S) (hash : Hash h) (s : List ℕ) (a : Accepted S h s) where
  w : Shows S h (rows_held S s) (contents S s)
  w = accepted_shows S h sized hash s a

  abbrev bs : List Prefix
  bs = buckets S h (rows_held S s)

  abbrev d : ℕ
  d = dir_depth s

  ascending : Ascending d 0 (2 ^ d) bs
  ascending = subst (λ n. Ascending n 0 (2 ^ n) bs) (sym (accepted_afresh S h sized hash s a).1) (in_order_here S h hash (rows_held S s))

  -- it begins at entry 0
  pub walk_start : (listing S h (rows_held S s) ≡ walk_from S h s 0) × Start S h s 0
  unfolding walk_from listing
  walk_start = (ap (flat_map (rows_at h (rows_held S s))) (sym (from_all d 0 0 (2 ^ d) bs zero-le ascending)), record { begins = starts_first d bs })

  -- and ends with the directory
  pub walk_end : (i : ℕ) → 2 ^ dir_depth s ≤ i → walk_from S h s i ≡ []
  unfolding walk_from
  walk_end i l = ap (flat_map (rows_at h (rows_held S s))) (from_end d i 0 (2 ^ d) bs l ascending) ∙ flat_none (rows_at h (rows_held S s))

  -- entries in the directory
  inside : (i : ℕ) → i < 2 ^ d → i < S.entries
  inside i l =
      let m : 2 ^ d ≤ 2 ^ S.deepest = pow-le-pow_right (omega arith) (opened S h s a).page0.depth in
      omega (arith, m, sized.deep)

  -- an entry that names nothing: on to the next
  pub walk_none : (i : ℕ) → i < 2 ^ dir_depth s → entry_at S s i ≡ 0 → (walk_from S h s i ≡ walk_from S h s (i + 1)) × Start S h s (i + 1)
  unfolding walk_from
  walk_none i l z = (
    ap (flat_map (rows_at h (rows_held S s))) (from_next d i bs (λ p m e. none p m ((holds_range d i p).1 (omega arith, omega (arith, first_lt_after d p))))),
    record { begins = starts_next d i bs none },
  )
    where
      free_of : Entry S h s (contents S s) d (pages S s - 2) i → (p : Prefix) → Memᴰ p bs → Holds d i p → ⊥
      free_of (names j k rs b q g c) p m x = omega arith
      free_of (nothing _ f) p m x =
          let b = bucket_shown S h hash (rows_held S s) (contents S s) w p m in
          f b.0 p.bits b.1 (omega (arith, within_pages (contents S s) b.0 p.bits b.1 b.2, pages_held S s)) b.2 (record { below = l; bits = x ∙ sym b.3 })

      none : (p : Prefix) → Memᴰ p bs → Holds d i p → ⊥
      none = free_of (accepted_entry S h sized hash s (opened S h s a) i (inside i l))

  -- an entry that names a page: the page's rows, and on past the bucket's entries
  pub walk_page : (i : ℕ) → i < 2 ^ dir_depth s → (entry_at S s i ≡ 0 → ⊥) → Start S h s i
      → Naming S h s i (entry_at S s i)
      × (walk_from S h s i ≡ rows_on (read (page S s (entry_at S s i))) ++ walk_from S h s (behind S s i))
      × Start S h s (behind S s i)
      × (behind S s i ≤ 2 ^ dir_depth s)
  unfolding walk_from
  walk_page i l z t = (
    u,
    ap (flat_map f) (from_here d i 0 (2 ^ d) bs ascending p m begin) ∙ flat_cons f p (from d (after d p) bs)
        ∙ ap (λ r. r ++ flat_map f (from d (after d p) bs)) (sym (ap rows_on (read_used g u.bytes.rules) ∙ (w.page (entry_at S s i - 2) (depth g) (rows g) u.holding).ordered))
        ∙ ap (λ n. rows_on (read g) ++ flat_map f (from d n bs)) next,
    record { begins = subst (Starts d bs) next (starts_after d 0 (2 ^ d) bs ascending p m) },
    subst (λ n. n ≤ 2 ^ d) next (asc_last d 0 (2 ^ d) bs ascending p m),
  )
    where
      g : List ℕ
      g = page S s (entry_at S s i)

      f : Prefix → List Row
      f = rows_at h (rows_held S s)

      u : Naming S h s i (entry_at S s i)
      u = naming S h sized hash s a i (inside i l) z

      p : Prefix
      p = pfx (depth g) (prefix_on h (depth g) (rows g))

      m : Memᴰ p bs
      m = shown_bucket S h hash (rows_held S s) (contents S s) w (entry_at S s i - 2) (depth g) (rows g) u.holding

      begin : first d p ≡ i
      begin = t.begins p m u.calls.bits

      next : after d p ≡ i + 2 ^ (d - depth g)
      next = entries_size d p ∙ ap (λ n. n + 2 ^ (d - depth g)) begin

  -- row n of what is listed from an entry on: of its page, or further on
  pub walk_here : (i n : ℕ) → i < 2 ^ dir_depth s → (entry_at S s i ≡ 0 → ⊥) → Start S h s i → n < count (page S s (entry_at S s i))
      → get_elem? (walk_from S h s i) n ≡ some (as_row (row_at (page S s (entry_at S s i)) n))
  walk_here i n l z t b =
      let g : List ℕ = page S s (entry_at S s i) in
      let k = walk_page i l z t in
      ap (λ r. get_elem? r n) k.1 ∙ row_left (rows_on (read g)) (walk_from S h s (behind S s i)) n (omega (arith, count_used g k.0.bytes.rules))
      ∙ row_slot g k.0.bytes.rules n b

  pub walk_past : (i n : ℕ) → i < 2 ^ dir_depth s → (entry_at S s i ≡ 0 → ⊥) → Start S h s i → count (page S s (entry_at S s i)) ≤ n
      → get_elem? (walk_from S h s i) n ≡ get_elem? (walk_from S h s (behind S s i)) (n - count (page S s (entry_at S s i)))
  walk_past i n l z t b =
      let g : List ℕ = page S s (entry_at S s i) in
      let k = walk_page i l z t in
      let c : length (rows_on (read g)) ≡ count g = count_used g k.0.bytes.rules in
      ap (λ r. get_elem? r n) k.1 ∙ row_right (rows_on (read g)) (walk_from S h s (behind S s i)) n (omega arith)
      ∙ ap (λ m. get_elem? (walk_from S h s (behind S s i)) (n - m)) c
