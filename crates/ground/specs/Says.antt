-- What the answer of a test says. Assumes nothing.
use Rattle.std.specs.Prelude.{Bool, true, false}

-- the answer is true exactly when P holds
abbrev pub Says : Bool → Type 0 → Type 0
Says true P = P
Says false P = P → ⊥
