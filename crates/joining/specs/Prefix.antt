-- The prefixes of a hash at and above the bucket that holds it, and how far up their rows fit. Over any page size. Assumes nothing.
use Rattle.std.specs.Prelude.{◌≡◌, List, ℕ, suc, ◌+◌, ◌≤◌, ◌<◌}
use Rattle.partition.specs.Bits.{top}
use Rattle.partition.specs.declared.Shape.{Shape}
use Rattle.partition.specs.Partition.{Row, needs, rows_of, IsBucket}
use Rattle.store.specs.Pages.{rows_held}
use Rattle.store.specs.Accepted.{Accepted}

-- what the rows of the prefix of j bits of the hash x need
abbrev pub needs_of : (List ℕ → ℕ) → List Row → ℕ → ℕ → ℕ
needs_of h rs x j = needs (rows_of h rs j (top j x))

-- a bucket of the accepted store holds the hash x, and its prefix is no shorter than j bits
pub record Above (S : Shape) (h : List ℕ → ℕ) (s : List ℕ) (x j : ℕ) : Type 0 where
  pub accepted : Accepted S h s
  pub depth : ℕ
  pub is : IsBucket S h (rows_held S s) depth (top depth x)
  pub low : j ≤ depth

-- the bucket of k bits of the accepted store holds the hash x, and one row needs that much
pub record Climbing (S : Shape) (h : List ℕ → ℕ) (s : List ℕ) (x k need : ℕ) : Type 0 where
  pub accepted : Accepted S h s
  pub is : IsBucket S h (rows_held S s) k (top k x)
  pub one : need ≤ 76

-- From k bits of x up to j: the rows of the prefix of j bits fit without a row of that need, those of the prefix one bit shorter do not.
pub record Climbed (S : Shape) (h : List ℕ → ℕ) (rows : List Row) (x k need j : ℕ) : Type 0 where
  pub most : j ≤ k
  pub fit : j < k → needs_of h rows x j ≤ S.capacity + need
  pub over : (i : ℕ) → j ≡ suc i → S.capacity + need < needs_of h rows x i
