-- What a run knows of its store. Assumes nothing.
use Rattle.std.specs.Prelude.{◌≡◌, ℕ, Bool, true, List}
use Rattle.hash.specs.Fnv.{fnv}
use Rattle.partition.specs.Sizes.{shape_of}
use Rattle.store.specs.Accepted.{Accepted}

-- a store that is known to be accepted is accepted, at the page size that it says
abbrev pub Known : Bool → List ℕ → Type 0
Known b s = b ≡ true → Accepted (shape_of s) fnv s
