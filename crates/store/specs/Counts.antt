-- The counts in page 0: of rows, and of buckets by local depth. Assumes nothing.
use Rattle.std.specs.Prelude.{◌≡◌, List, [], ◌∷◌, ℕ, zero, suc, ◌+◌, ◌*◌, ◌≤◌, eqb, length}
use Rattle.words.specs.Le.{le32}
use Rattle.partition.specs.declared.Shape.{Shape}
use Rattle.store.specs.Pages.{Page, free, bucket, contents, rows_in, rows_held}
use Rattle.store.specs.Moves.{pick}

-- one for a bucket of local depth k, else none
abbrev pub one_at : ℕ → Page → ℕ
one_at k free = 0
one_at k (bucket d rs) = pick (eqb d k) 1 0

-- how many of the pages are buckets of local depth k
unfoldable pub buckets_at : ℕ → List Page → ℕ
buckets_at k [] = 0
buckets_at k (g ∷ gs) = one_at k g + buckets_at k gs

-- at 24 the number of rows, and from 28 thirteen 32-bit counts of buckets by local depth, 0 to 12
pub record Counts (S : Shape) (s : List ℕ) : Type 0 where
  pub rows : le32 s 24 ≡ length (rows_held S s)
  pub buckets : (k : ℕ) → k ≤ 12 → le32 s (28 + 4 * k) ≡ buckets_at k (contents S s)

-- the fourteen counts in a row: of rows, then of buckets of depth 0, 1, ..
abbrev pub counted : List Page → ℕ → ℕ
counted gs zero = length (rows_in gs)
counted gs (suc k) = buckets_at k gs
