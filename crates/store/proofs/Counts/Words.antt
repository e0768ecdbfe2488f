-- The fourteen counts of page 0 as words, one after another: of rows, then of buckets by local depth. Assumes nothing.
use mathlib.Core.Path.{◌≡◌, refl, sym, ap, ◌∙◌}
use mathlib.Core.List.{List, [], ◌∷◌}
use mathlib.Core.Logic.{inl, inr}
use Prim.Native.Nat.{ℕ, zero, suc, ◌+◌, ◌*◌, ◌≤◌, ◌<◌}
use native.Mathlib.Omega.{arith}
use lib.ListN.{length}
use Rattle.ground.specs.Lists.{byte, tab}
use Rattle.words.specs.Le.{le32}
use Rattle.words.proofs.Bytes.{le32_same}
use Rattle.partition.specs.declared.Shape.{Shape}
use Rattle.store.specs.Pages.{Page, free, bucket, contents}
use Rattle.store.specs.Counts.{one_at, buckets_at, counted, Counts}
use Rattle.store.proofs.Counts.Ones.{ones, Ones}

pub counts_word : (S : Shape) (s : List ℕ) → Counts S s → (j : ℕ) → j < 14 → le32 s (24 + 4 * j) ≡ counted (contents S s) j
counts_word S s c zero l = c.rows
counts_word S s c (suc k) l = let e : 24 + 4 * suc k ≡ 28 + 4 * k = omega arith in ap (le32 s) e ∙ c.buckets k (omega arith)

pub word_counts : (S : Shape) (s : List ℕ) → ((j : ℕ) → j < 14 → le32 s (24 + 4 * j) ≡ counted (contents S s) j) → Counts S s
word_counts S s f = record {
  rows = f 0 (omega arith);
  buckets = λ k l. let e : 28 + 4 * k ≡ 24 + 4 * suc k = omega arith in ap (le32 s) e ∙ f (suc k) (omega arith);
}

-- no more buckets than pages
one_few : (d k n : ℕ) → Ones d k n → n ≤ 1
one_few d k n (inl w) = omega (arith, w.1)
one_few d k n (inr w) = omega (arith, w.1)

pub buckets_few : (k : ℕ) (gs : List Page) → buckets_at k gs ≤ length gs
unfolding buckets_at
buckets_few k [] = omega arith
buckets_few k (free ∷ gs) = omega (arith, buckets_few k gs)
buckets_few k (bucket d rs ∷ gs) = omega (arith, one_few d k (one_at k (bucket d rs)) (ones k d rs), buckets_few k gs)

-- pages that are all free have no bucket
pub free_none : (k : ℕ) (f : ℕ → Page) (n : ℕ) → ((i : ℕ) → i < n → f i ≡ free) → buckets_at k (tab f n) ≡ 0
unfolding tab buckets_at
free_none k f zero h = refl
free_none k f (suc n) h =
    omega (arith, ap (one_at k) (h zero (omega arith)), free_none k (λ i. f (suc i)) n (λ i l. h (suc i) (omega arith)))

-- counts stay true where their bytes and the pages stay
pub counts_kept : (S : Shape) (s t : List ℕ) → ((k : ℕ) → 24 ≤ k → k < 80 → byte t k ≡ byte s k) → contents S t ≡ contents S s → Counts S s → Counts S t
counts_kept S s t b e c = word_counts S t (λ j l. le32_same s t (24 + 4 * j) (λ i m. b (24 + 4 * j + i) (omega arith) (omega arith)) ∙ counts_word S s c j l ∙ ap (λ gs. counted gs j) (sym e))
