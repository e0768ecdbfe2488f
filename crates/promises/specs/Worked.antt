-- The one table of the worked cases 1 to 9 (partition's specs/Cases.antt), for FNV-1a. Assumes nothing.
use Rattle.std.specs.Prelude.{List, ℕ, ◌^◌, ◌<◌}
use Rattle.hash.specs.Fnv.{fnv}
use Rattle.partition.specs.Cases.{chosen, All, table}

-- every case holds; the hash chosen for cases 5 to 9 is of 32 bits
pub record Worked : Type 0 where
  pub cases : All fnv table
  pub chosen_32 : (c : List ℕ) → chosen c < 2 ^ 32
