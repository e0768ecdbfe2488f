-- Counts after a write: one row more or less, and buckets more or fewer. Assumes nothing.
use mathlib.Core.Path.{◌≡◌, refl, sym, ap, ◌∙◌}
use mathlib.Core.List.{List}
use mathlib.Core.Logic.{⊎_elim}
use Prim.Native.Nat.{ℕ, zero, suc, ◌+◌, ◌-◌, ◌*◌, ◌≤◌, ◌<◌}
use native.Mathlib.Omega.{arith}
use lib.ListN.{length, get_or, set, length-set}
use lib.Seq.{get_or-set_same, get_or-set_other}
use Rattle.ground.specs.Lists.{byte}
use Rattle.ground.proofs.Sides.{side}
use Rattle.words.specs.Le.{le32}
use Rattle.words.specs.Moves.{Frame, Put32}
use Rattle.words.proofs.Bytes.{le32_same}
use Rattle.partition.specs.declared.Shape.{Shape}
use Rattle.page.specs.Page.{Record}
use Rattle.store.specs.Pages.{Page, free, bucket, contents, rows_in, rows_held}
use Rattle.store.specs.Counts.{one_at, buckets_at, counted, Counts}
use Rattle.store.proofs.Counts.Ones.{ones}
use Rattle.store.proofs.Counts.Words.{counts_word, word_counts, buckets_few}
use Rattle.store.proofs.Counts.Counted.{set_count}
use Rattle.counts.specs.Tallies.{BucketsCounted, SameCounts, one_more, one_less, CountRaised, CountLowered}

-- one count written: the others stay, and so does all around them
module _ (s t : List ℕ) (i v : ℕ) (l : i < 14) (P : Put32 s (24 + 4 * i) v t) where
  pub inside_counts : Frame s 24 56 t
  inside_counts = record { len = P.old.len; below = λ k m. P.old.below k (omega arith); above = λ k m. P.old.above k (omega arith) }

  pub other_count : (j : ℕ) → (j ≡ i → ⊥) → le32 t (24 + 4 * j) ≡ le32 s (24 + 4 * j)
  other_count j n = ⊎_elim
      (λ a. le32_same s t (24 + 4 * j) (λ k m. P.old.below (24 + 4 * j + k) (omega arith)))
      (λ a. le32_same s t (24 + 4 * j) (λ k m. P.old.above (24 + 4 * j + k) (omega (arith, n))))
      (side j i)

-- the counts of s stand in t as they did
pub word_kept : (s t : List ℕ) → ((k : ℕ) → 24 ≤ k → k < 80 → byte t k ≡ byte s k) → (j : ℕ) → j < 14 → le32 t (24 + 4 * j) ≡ le32 s (24 + 4 * j)
word_kept s t b j l = le32_same s t (24 + 4 * j) (λ i m. b (24 + 4 * j + i) (omega arith) (omega arith))

-- one row more on pages of the same depths
pub counts_more : (S : Shape) (s t u : List ℕ) (gs : List Page) → Counts S s → ((k : ℕ) → 24 ≤ k → k < 80 → byte t k ≡ byte s k) → CountRaised t 0 u
    → contents S u ≡ gs → length (rows_in gs) ≡ length (rows_held S s) + 1 → ((k : ℕ) → buckets_at k gs ≡ buckets_at k (contents S s)) → Counts S u
counts_more S s t u gs C b R c r d = word_counts S u word
  where
    word : (j : ℕ) → j < 14 → le32 u (24 + 4 * j) ≡ counted (contents S u) j
    word zero l = omega (arith, R.val, word_kept s t b 0 l, C.rows, r, ap (λ x. length (rows_in x)) c)
    word (suc k) l = other_count t u 0 (le32 t 24 + 1) (omega arith) R (suc k) (omega arith) ∙ word_kept s t b (suc k) l ∙ counts_word S s C (suc k) l ∙ sym (d k) ∙ sym (ap (buckets_at k) c)

-- no count changes: as many rows on pages of the same depths
pub counts_same : (S : Shape) (s t : List ℕ) (gs : List Page) → Counts S s → ((k : ℕ) → 24 ≤ k → k < 80 → byte t k ≡ byte s k)
    → contents S t ≡ gs → length (rows_in gs) ≡ length (rows_held S s) → ((k : ℕ) → buckets_at k gs ≡ buckets_at k (contents S s)) → Counts S t
counts_same S s t gs C b c r d = word_counts S t word
  where
    word : (j : ℕ) → j < 14 → le32 t (24 + 4 * j) ≡ counted (contents S t) j
    word zero l = word_kept s t b 0 l ∙ C.rows ∙ sym r ∙ ap (λ x. length (rows_in x)) (sym c)
    word (suc k) l = word_kept s t b (suc k) l ∙ counts_word S s C (suc k) l ∙ sym (d k) ∙ sym (ap (buckets_at k) c)

-- two counts written one after the other
pub inside_both : (t u w : List ℕ) (i j v x : ℕ) → i < 14 → j < 14 → Put32 t (24 + 4 * i) v u → Put32 u (24 + 4 * j) x w → Frame t 24 56 w
inside_both t u w i j v x a b P Q =
    let F = inside_counts t u i v a P in
    let G = inside_counts u w j x b Q in
    record { len = G.len ∙ F.len; below = λ k l. G.below k l ∙ F.below k l; above = λ k l. G.above k l ∙ F.above k l }

-- one row more, and a bucket of depth k besides
pub counts_up : (S : Shape) (s t u w : List ℕ) (gs : List Page) (k : ℕ) (rs : List Record) → Counts S s → ((i : ℕ) → 24 ≤ i → i < 80 → byte t i ≡ byte s i) → k ≤ 12 → CountRaised t 0 u → CountRaised u (1 + k) w
    → contents S w ≡ gs → length (rows_in gs) ≡ length (rows_held S s) + 1 → ((i : ℕ) → buckets_at i gs ≡ buckets_at i (contents S s) + one_at i (bucket k rs)) → Counts S w
counts_up S s t u w gs k rs C b low R D c r d = word_counts S w word
  where
    word : (j : ℕ) → j < 14 → le32 w (24 + 4 * j) ≡ counted (contents S w) j
    word zero l = omega (arith, other_count u w (1 + k) _ (omega arith) D 0 (λ q. omega (arith, q)), R.val, word_kept s t b 0 l, C.rows, r, ap (λ x. length (rows_in x)) c)
    word (suc i) l = ⊎_elim
        (λ o.
        let e : 1 + k ≡ suc i = omega (arith, o.0) in
        omega (arith, ap (λ j. le32 w (24 + 4 * j)) e, D.val, ap (λ j. le32 u (24 + 4 * j)) e, same, o.1, d i, ap (buckets_at i) c))
        (λ o. omega (arith, other_count u w (1 + k) _ (omega arith) D (suc i) (λ q. o.0 (omega (arith, q))), same, o.1, d i, ap (buckets_at i) c))
        (ones i k rs)
      where
        same : le32 u (24 + 4 * suc i) ≡ buckets_at i (contents S s)
        same = other_count t u 0 _ (omega arith) R (suc i) (λ q. omega (arith, q)) ∙ word_kept s t b (suc i) l ∙ counts_word S s C (suc i) l

-- one row less, and no longer a bucket of depth k
pub counts_down : (S : Shape) (s t u w : List ℕ) (gs : List Page) (k : ℕ) (rs : List Record) → Counts S s → ((i : ℕ) → 24 ≤ i → i < 80 → byte t i ≡ byte s i) → k ≤ 12 → CountLowered t 0 u → CountLowered u (1 + k) w
    → contents S w ≡ gs → length (rows_in gs) + 1 ≡ length (rows_held S s) → ((i : ℕ) → buckets_at i gs + one_at i (bucket k rs) ≡ buckets_at i (contents S s)) → Counts S w
counts_down S s t u w gs k rs C b low R D c r d = word_counts S w word
  where
    word : (j : ℕ) → j < 14 → le32 w (24 + 4 * j) ≡ counted (contents S w) j
    word zero l = omega (arith, other_count u w (1 + k) _ (omega arith) D 0 (λ q. omega (arith, q)), R.val, word_kept s t b 0 l, C.rows, r, ap (λ x. length (rows_in x)) c)
    word (suc i) l = ⊎_elim
        (λ o.
        let e : 1 + k ≡ suc i = omega (arith, o.0) in
        omega (arith, ap (λ j. le32 w (24 + 4 * j)) e, D.val, ap (λ j. le32 u (24 + 4 * j)) e, same, o.1, d i, ap (buckets_at i) c))
        (λ o. omega (arith, other_count u w (1 + k) _ (omega arith) D (suc i) (λ q. o.0 (omega (arith, q))), same, o.1, d i, ap (buckets_at i) c))
        (ones i k rs)
      where
        same : le32 u (24 + 4 * suc i) ≡ buckets_at i (contents S s)
        same = other_count t u 0 _ (omega arith) R (suc i) (λ q. omega (arith, q)) ∙ word_kept s t b (suc i) l ∙ counts_word S s C (suc i) l

-- ---- the counts in an array

-- those in page 0 are of the pages
pub buckets_read : (S : Shape) (s tallies : List ℕ) → Counts S s → length tallies ≡ 14 → SameCounts s tallies → BucketsCounted (contents S s) tallies
buckets_read S s tallies C l f = record { long = l; each = λ k b. sym (f (suc k) (omega arith)) ∙ counts_word S s C (suc k) (omega arith) }

-- a page written anew: the bucket of depth k that it held goes
pub buckets_less : (gs : List Page) (i k : ℕ) (rs : List Record) (tallies : List ℕ) → i < length gs → get_or gs i free ≡ bucket k rs → k ≤ 12 → BucketsCounted gs tallies
    → (1 ≤ get_or tallies (1 + k) 0) × BucketsCounted (set gs i free) (one_less tallies (1 + k))
buckets_less gs i k rs tallies b e low B = (
  ⊎_elim (λ o. omega (arith, now k, o.1, B.each k low, ap (λ j. get_or tallies j 0) plus)) (λ o. absurd (o.0 refl)) (ones k k rs),
  record {
    long = length-set tallies (1 + k) _ ∙ B.long;
    each = λ j l. ⊎_elim
        (λ o. let q : suc j ≡ 1 + k = omega (arith, o.0) in
        omega (arith, ap (λ m. get_or (one_less tallies (1 + k)) m 0) q, get_or-set_same tallies (1 + k) (get_or tallies (1 + k) 0 - 1) 0 (omega (arith, B.long)), ap (λ m. get_or tallies m 0) q, B.each j l, now j, o.1))
        (λ o. omega (arith, get_or-set_other tallies (1 + k) (suc j) (get_or tallies (1 + k) 0 - 1) 0 (λ q. o.0 (omega (arith, q))), B.each j l, now j, o.1))
        (ones j k rs);
  },
)
  where
    now : (j : ℕ) → buckets_at j (set gs i free) + one_at j (bucket k rs) ≡ buckets_at j gs
    now j = omega (arith, set_count j gs i free b, ap (one_at j) e)

    plus : suc k ≡ 1 + k
    plus = omega arith

-- a bucket of depth k is written to a free page
pub buckets_more : (gs : List Page) (i k : ℕ) (rs : List Record) (tallies : List ℕ) → i < length gs → get_or gs i free ≡ free → k ≤ 12 → BucketsCounted gs tallies
    → BucketsCounted (set gs i (bucket k rs)) (one_more tallies (1 + k))
buckets_more gs i k rs tallies b e low B = record {
  long = length-set tallies (1 + k) _ ∙ B.long;
  each = λ j l. ⊎_elim
      (λ o. let q : suc j ≡ 1 + k = omega (arith, o.0) in
      omega (arith, ap (λ m. get_or (one_more tallies (1 + k)) m 0) q, get_or-set_same tallies (1 + k) (get_or tallies (1 + k) 0 + 1) 0 (omega (arith, B.long)), ap (λ m. get_or tallies m 0) q, B.each j l, now j, o.1))
      (λ o. omega (arith, get_or-set_other tallies (1 + k) (suc j) (get_or tallies (1 + k) 0 + 1) 0 (λ q. o.0 (omega (arith, q))), B.each j l, now j, o.1))
      (ones j k rs);
}
  where
    now : (j : ℕ) → buckets_at j (set gs i (bucket k rs)) ≡ buckets_at j gs + one_at j (bucket k rs)
    now j = omega (arith, set_count j gs i (bucket k rs) b, ap (one_at j) e)

-- no count is too large
pub buckets_low : (gs : List Page) (tallies : List ℕ) → BucketsCounted gs tallies → (k : ℕ) → k ≤ 12 → get_or tallies (1 + k) 0 ≤ length gs
buckets_low gs tallies B k l = let e : suc k ≡ 1 + k = omega arith in omega (arith, ap (λ j. get_or tallies j 0) e, B.each k l, buckets_few k gs)
