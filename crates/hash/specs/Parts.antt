-- Parts of a list of bytes, by where they begin and end. Assumes nothing.
use Rattle.std.specs.Prelude.{ℕ, ◌≤◌, List, length}

-- from one byte of s up to another
pub record PartOf (s : List ℕ) (from to : ℕ) : Type 0 where
  pub ordered : from ≤ to
  pub within : to ≤ length s
