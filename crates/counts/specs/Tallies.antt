-- The counts of page 0 as an array, and in place. Assumes nothing.
use Rattle.std.specs.Prelude.{◌≡◌, List, ◌⊎◌, ℕ, suc, ◌+◌, ◌-◌, ◌*◌, ◌≤◌, ◌<◌, length, get_or, set}
use Rattle.ground.specs.Lists.{tab}
use Rattle.words.specs.Le.{le32}
use Rattle.words.specs.Moves.{Frame, Put32}
use Rattle.partition.specs.declared.Shape.{Shape}
use Rattle.store.specs.Pages.{size, page, read, Page, depth_on, contents}
use Rattle.store.specs.Counts.{buckets_at, counted}

-- the array has the fourteen counts of these pages
pub record CountsOf (gs : List Page) (tallies : List ℕ) : Type 0 where
  pub long : length tallies ≡ 14
  pub each : (j : ℕ) → j < 14 → get_or tallies j 0 ≡ counted gs j

-- those of the pages from 2 below p
abbrev pub TalliedTo : Shape → List ℕ → ℕ → List ℕ → Type 0
TalliedTo S s p tallies = CountsOf (tab (λ i. read (page S s (i + 2))) (p - 2)) tallies

-- those of the whole store
abbrev pub Tallied : Shape → List ℕ → List ℕ → Type 0
Tallied S s tallies = CountsOf (contents S s) tallies

-- page p is one of at most 4,098, no deeper than 12, and the pages before it are counted
pub record Tallying (S : Shape) (s : List ℕ) (p : ℕ) (tallies : List ℕ) : Type 0 where
  pub within : p * size S + size S ≤ length s
  pub from : 2 ≤ p
  pub few : p < 4098
  pub shallow : depth_on (read (page S s p)) ≤ 12
  pub before : TalliedTo S s p tallies

-- a store of n pages, none deeper than 12
pub record Tallyable (S : Shape) (s : List ℕ) (n : ℕ) : Type 0 where
  pub long : length s ≡ n * size S
  pub least : 2 ≤ n
  pub most : n ≤ 4098
  pub shallow : (p : ℕ) → 2 ≤ p → p < n → depth_on (read (page S s p)) ≤ 12

-- the counts in page 0 are those of the array
abbrev pub SameCounts : List ℕ → List ℕ → Type 0
SameCounts s tallies = (j : ℕ) → j < 14 → le32 s (24 + 4 * j) ≡ get_or tallies j 0

-- t is s with the counts of the array in page 0
pub record CountsWritten (s tallies t : List ℕ) : Type 0 where
  pub old : Frame s 24 56 t
  pub new : SameCounts t tallies

-- the array has the counts that these pages have of buckets by local depth; it says nothing of rows
pub record BucketsCounted (gs : List Page) (tallies : List ℕ) : Type 0 where
  pub long : length tallies ≡ 14
  pub each : (k : ℕ) → k ≤ 12 → get_or tallies (suc k) 0 ≡ buckets_at k gs

-- page 0 has room for its counts, the array is one, and so many rows can be counted
pub record CountsDue (s tallies : List ℕ) (rows : ℕ) : Type 0 where
  pub room : 80 ≤ length s
  pub fourteen : length tallies ≡ 14
  pub few : rows < 4294967296

-- t is s with that many rows and the array's counts of buckets in page 0
pub record CountsNow (s : List ℕ) (many : ℕ) (tallies t : List ℕ) : Type 0 where
  pub old : Frame s 24 56 t
  pub rows : le32 t 24 ≡ many
  pub buckets : (k : ℕ) → k ≤ 12 → le32 t (28 + 4 * k) ≡ get_or tallies (suc k) 0

-- the array with count j one more, and one less
abbrev pub one_more : List ℕ → ℕ → List ℕ
one_more tallies j = set tallies j (get_or tallies j 0 + 1)

abbrev pub one_less : List ℕ → ℕ → List ℕ
one_less tallies j = set tallies j (get_or tallies j 0 - 1)

-- t is s with count j one more
abbrev pub CountRaised : List ℕ → ℕ → List ℕ → Type 0
CountRaised s j t = Put32 s (24 + 4 * j) (le32 s (24 + 4 * j) + 1) t

-- t is s with count j one less
abbrev pub CountLowered : List ℕ → ℕ → List ℕ → Type 0
CountLowered s j t = Put32 s (24 + 4 * j) (le32 s (24 + 4 * j) - 1) t

-- by the counts r is the largest depth, at most that many bits, of which there is a bucket, or 0 where there is none
pub record DeepestCounted (s : List ℕ) (most r : ℕ) : Type 0 where
  pub low : r ≤ most
  pub there : (r ≡ 0) ⊎ (0 < le32 s (28 + 4 * r))
  pub above : (k : ℕ) → r < k → k ≤ most → le32 s (28 + 4 * k) ≡ 0
