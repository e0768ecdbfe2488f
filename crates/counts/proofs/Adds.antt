-- The counts with one page more. Assumes nothing.
use mathlib.Core.Path.{◌≡◌, refl, sym, ap, subst, ◌∙◌}
use mathlib.Core.List.{List, [], flat_map}
use mathlib.Core.Logic.{inl, inr, ⊎_elim}
use Prim.Native.Nat.{ℕ, zero, suc, ◌+◌, ◌-◌, ◌*◌, ◌/◌, ◌≤◌, ◌<◌}
use native.Mathlib.Omega.{arith}
use native.Mathlib.Nat.{mul-div_cancel}
use lib.ListN.{length, get_or, set, length-set, length-append, length-map}
use lib.Seq.{get_or-set_same, get_or-set_other}
use Rattle.ground.specs.Lists.{byte, tab}
use Rattle.ground.proofs.Sides.{same}
use Rattle.ground.proofs.Tables.{length_tab}
use Rattle.words.specs.Le.{le16}
use Rattle.words.specs.Zeros.{Zero}
use Rattle.words.proofs.Bytes.{le16_lt}
use Rattle.page.specs.Page.{depth, count, row_at, rows}
use Rattle.partition.specs.declared.Shape.{Shape}
use Rattle.store.specs.Pages.{size, page, read, reading, Page, free, bucket, as_row, rows_on, rows_in, contents}
use Rattle.store.specs.Counts.{one_at, buckets_at, counted}
use Rattle.store.proofs.Counts.Ones.{Ones, ones}
use Rattle.store.proofs.Counts.Words.{buckets_few}
use Rattle.store.proofs.Paging.Depths.{page_byte, kind_byte}
use Rattle.counts.specs.Tallies.{CountsOf, TalliedTo, Tallied}

-- what one page counts
abbrev counted_on : Page → ℕ → ℕ
counted_on g zero = length (rows_on g)
counted_on g (suc k) = one_at k g

buckets_more : (k : ℕ) (f : ℕ → Page) (n : ℕ) → buckets_at k (tab f (suc n)) ≡ buckets_at k (tab f n) + one_at k (f n)
unfolding tab buckets_at
buckets_more k f zero = omega arith
buckets_more k f (suc n) = omega (arith, buckets_more k (λ i. f (suc i)) n)

rows_more : (f : ℕ → Page) (n : ℕ) → length (rows_in (tab f (suc n))) ≡ length (rows_in (tab f n)) + length (rows_on (f n))
unfolding tab rows_in flat_map
rows_more f zero = omega (arith, length-append (rows_on (f zero)) [])
rows_more f (suc n) =
    omega (arith, length-append (rows_on (f zero)) (rows_in (tab (λ i. f (suc i)) (suc n))), length-append (rows_on (f zero)) (rows_in (tab (λ i. f (suc i)) n)), rows_more (λ i. f (suc i)) n)

-- one page more
counted_more : (f : ℕ → Page) (n j : ℕ) → counted (tab f (suc n)) j ≡ counted (tab f n) j + counted_on (f n) j
counted_more f n zero = rows_more f n
counted_more f n (suc k) = buckets_more k f n

module _ (S : Shape) (s : List ℕ) (p : ℕ) (two : 2 ≤ p) where
  abbrev pg : ℕ → Page
  pg i = read (page S s (i + 2))

  counted_next : (j : ℕ) → counted (tab pg (p + 1 - 2)) j ≡ counted (tab pg (p - 2)) j + counted_on (read (page S s p)) j
  counted_next j =
      let e : p + 1 - 2 ≡ suc (p - 2) = omega arith in
      let g : p - 2 + 2 ≡ p = omega arith in
      ap (λ n. counted (tab pg n) j) e ∙ counted_more pg (p - 2) j ∙ ap (λ q. counted (tab pg (p - 2)) j + counted_on (read (page S s q)) j) g

  -- a free page counts for nothing
  free_by : (b : ℕ) (g : List ℕ) → b ≡ 0 → reading b g ≡ free
  free_by zero g e = refl
  free_by (suc b) g e = absurd (omega arith)

  used_by : (b : ℕ) (g : List ℕ) → (b ≡ 0 → ⊥) → reading b g ≡ bucket (depth g) (rows g)
  used_by zero g n = absurd (n refl)
  used_by (suc b) g n = refl

  none_on : (j : ℕ) → counted_on free j ≡ 0
  none_on zero = refl
  none_on (suc k) = refl

  pub past_free : byte s (p * size S) ≡ 0 → (tallies : List ℕ) → TalliedTo S s p tallies → TalliedTo S s (p + 1) tallies
  unfolding read
  past_free z tallies t =
      let e : read (page S s p) ≡ free = free_by (byte (page S s p) 0) (page S s p) (kind_byte S s p ∙ z) in
      record { long = t.long; each = λ j l. omega (arith, t.each j l, counted_next j, ap (λ g. counted_on g j) e, none_on j) }

  module _ (used : byte s (p * size S) ≡ 0 → ⊥) where
    abbrev g : List ℕ
    g = page S s p

    pub is_bucket : read g ≡ bucket (depth g) (rows g)
    unfolding read
    is_bucket = used_by (byte g 0) g (λ e. used (sym (kind_byte S s p) ∙ e))

    pub rows_on_lem : length (rows_on (read g)) ≡ count g
    rows_on_lem = ap (λ x. length (rows_on x)) is_bucket ∙ length-map (rows g) as_row ∙ length_tab (row_at g) (count g)

    one_on : (i : ℕ) → Ones (depth g) i (one_at i (read g))
    one_on i = subst (λ x. Ones (depth g) i (one_at i x)) (sym is_bucket) (ones i (depth g) (rows g))

    module _ (tallies : List ℕ) (n k : ℕ) (en : n ≡ count g) (ek : k ≡ 1 + depth g) (few : k < 14) (t : TalliedTo S s p tallies) where
      abbrev first : List ℕ
      first = set tallies 0 (get_or tallies 0 0 + n)

      abbrev second : List ℕ
      second = set first k (get_or first k 0 + 1)

      first_long : length first ≡ 14
      first_long = length-set tallies 0 (get_or tallies 0 0 + n) ∙ t.long

      kept : (j : ℕ) → (j ≡ 0 → ⊥) → get_or first j 0 ≡ get_or tallies j 0
      kept j m = get_or-set_other tallies 0 j (get_or tallies 0 0 + n) 0 m

      at_first : get_or first 0 0 ≡ get_or tallies 0 0 + n
      at_first = get_or-set_same tallies 0 (get_or tallies 0 0 + n) 0 (omega (arith, t.long))

      at_depth : get_or second k 0 ≡ get_or tallies k 0 + 1
      at_depth = get_or-set_same first k (get_or first k 0 + 1) 0 (omega (arith, first_long)) ∙ ap (λ x. x + 1) (kept k (omega (arith, ek)))

      elsewhere : (j : ℕ) → (j ≡ k → ⊥) → get_or second j 0 ≡ get_or first j 0
      elsewhere j m = get_or-set_other first k j (get_or first k 0 + 1) 0 m

      own_one : (i m : ℕ) → i ≡ depth g → Ones (depth g) i m → m ≡ 1
      own_one i m e (inl w) = w.1
      own_one i m e (inr w) = absurd (w.0 (sym e))

      no_one : (i m : ℕ) → (i ≡ depth g → ⊥) → Ones (depth g) i m → m ≡ 0
      no_one i m f (inl w) = absurd (f (sym w.0))
      no_one i m f (inr w) = w.1

      each : (j : ℕ) → j < 14 → get_or second j 0 ≡ counted (tab pg (p + 1 - 2)) j
      each zero l = omega (arith, elsewhere 0 (λ e. omega (arith, e, ek)), at_first, t.each 0 l, counted_next 0, rows_on_lem, en)
      each (suc i) l = ⊎_elim
          (λ (e : suc i ≡ k). omega (arith, ap (λ x. get_or second x 0) e, at_depth, ap (λ x. get_or tallies x 0) e, t.each (suc i) l, counted_next (suc i), own_one i (one_at i (read g)) (omega (arith, e, ek)) (one_on i)))
          (λ (f : suc i ≡ k → ⊥). omega (arith, elsewhere (suc i) f, kept (suc i) (λ e. omega (arith, e)), t.each (suc i) l, counted_next (suc i), no_one i (one_at i (read g)) (λ e. f (omega (arith, e, ek))) (one_on i)))
          (same (suc i) k)

      pub past_used : TalliedTo S s (p + 1) second
      past_used = record { long = length-set first k (get_or first k 0 + 1) ∙ first_long; each = each }

-- no count of buckets is above the number of pages
pub few_buckets : (S : Shape) (s : List ℕ) (p i : ℕ) (tallies : List ℕ) → i < 13 → TalliedTo S s p tallies → get_or tallies (suc i) 0 ≤ p
few_buckets S s p i tallies l t =
    let f : ℕ → Page = λ i. read (page S s (i + 2)) in
    omega (arith, t.each (suc i) (omega arith), buckets_few i (tab f (p - 2)), length_tab f (p - 2))

-- before page 2 there is nothing to count
pub none_yet : (S : Shape) (s tallies : List ℕ) → length tallies ≡ 14 → Zero tallies → TalliedTo S s 2 tallies
unfolding tab buckets_at rows_in flat_map
none_yet S s tallies l z = record { long = l; each = each }
  where
    each : (j : ℕ) → j < 14 → get_or tallies j 0 ≡ counted (tab (λ i. read (page S s (i + 2))) (2 - 2)) j
    each zero m = z 0
    each (suc k) m = z (suc k)

-- at the end it is the whole store
pub all_tallied : (S : Shape) (s : List ℕ) (n : ℕ) (tallies : List ℕ) → length s ≡ n * size S → TalliedTo S s n tallies → Tallied S s tallies
unfolding contents
all_tallied S s n tallies e t =
    let q : length s / size S ≡ n = ap (λ m. m / size S) e ∙ mul-div_cancel n (omega arith) in
    subst (λ m. CountsOf (tab (λ i. read (page S s (i + 2))) (m - 2)) tallies) (sym q) t

-- a page's rows, as its header has them
pub rows_word : (S : Shape) (s : List ℕ) (p : ℕ) → le16 s (p * size S + 2) ≡ count (page S s p)
unfolding le16
rows_word S s p =
    let e : byte s (p * size S + 2 + 1) ≡ byte s (p * size S + 3) = ap (byte s) (omega arith) in
    omega (arith, page_byte S s p 2 (omega arith), page_byte S s p 3 (omega arith))

-- a page has fewer than 65,536 rows, so the count of rows is small
module _ (S : Shape) (s : List ℕ) (bytes : (k : ℕ) → byte s k < 256) where
  few_on : (p : ℕ) → 2 ≤ p → length (rows_on (read (page S s p))) ≤ 65535
  unfolding read
  few_on p two = ⊎_elim
      (λ z. omega (arith, ap (λ g. length (rows_on g)) (free_by S s p two (byte (page S s p) 0) (page S s p) (kind_byte S s p ∙ z))))
      (λ u. omega (arith, rows_on_lem S s p two u, rows_word S s p, le16_lt s (p * size S + 2) bytes))
      (same (byte s (p * size S)) 0)

  few_in : (n : ℕ) → length (rows_in (tab (λ i. read (page S s (i + 2))) n)) ≤ 65535 * n
  unfolding tab rows_in flat_map
  few_in zero = omega arith
  few_in (suc n) = omega (arith, rows_more (λ i. read (page S s (i + 2))) n, few_on (n + 2) (omega arith), few_in n)

  pub few_rows : (p : ℕ) (tallies : List ℕ) → TalliedTo S s p tallies → get_or tallies 0 0 ≤ 65535 * p
  few_rows p tallies t = omega (arith, t.each 0 (omega arith), few_in (p - 2))
