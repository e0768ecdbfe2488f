-- Counts after a row is gone from a page. Assumes nothing.
use mathlib.Core.Path.{◌≡◌, sym, ap, ◌∙◌}
use mathlib.Core.List.{List}
use Prim.Native.Nat.{ℕ, zero, suc, ◌+◌, ◌-◌, ◌*◌, ◌≤◌, ◌<◌}
use native.Mathlib.Omega.{arith}
use lib.ListN.{length}
use Rattle.ground.specs.Lists.{byte}
use Rattle.words.specs.Le.{le32}
use Rattle.partition.specs.declared.Shape.{Shape}
use Rattle.store.specs.Pages.{Page, contents, rows_in, rows_held}
use Rattle.store.specs.Counts.{buckets_at, counted, Counts}
use Rattle.store.proofs.Counts.Words.{counts_word, word_counts}
use Rattle.counts.specs.Tallies.{CountLowered}
use Rattle.counts.proofs.Raises.{other_count, word_kept}

-- one row less on pages of the same depths
pub counts_fewer : (S : Shape) (s t u : List ℕ) (gs : List Page) → Counts S s → ((k : ℕ) → 24 ≤ k → k < 80 → byte t k ≡ byte s k) → CountLowered t 0 u
    → contents S u ≡ gs → length (rows_in gs) + 1 ≡ length (rows_held S s) → ((k : ℕ) → buckets_at k gs ≡ buckets_at k (contents S s)) → Counts S u
counts_fewer S s t u gs C b R c r d = word_counts S u word
  where
    word : (j : ℕ) → j < 14 → le32 u (24 + 4 * j) ≡ counted (contents S u) j
    word zero l = omega (arith, R.val, word_kept s t b 0 l, C.rows, r, ap (λ x. length (rows_in x)) c)
    word (suc k) l = other_count t u 0 (le32 t 24 - 1) (omega arith) R (suc k) (omega arith) ∙ word_kept s t b (suc k) l ∙ counts_word S s C (suc k) l ∙ sym (d k) ∙ sym (ap (buckets_at k) c)
