-- What the first eight bytes of a code, as one number, tell of the order. Assumes nothing.
use Rattle.std.specs.Prelude.{ℕ, ◌+◌, ◌-◌, ◌≤◌, ◌<◌, List, length}
use Rattle.ground.specs.Lists.{part}
use Rattle.words.specs.Codes.{Before}
use Rattle.words.specs.Big.{big}

-- bytes a up to b of p
pub record Stretch (p : List ℕ) (a b : ℕ) : Type 0 where
  pub order : a ≤ b
  pub within : b ≤ length p

-- a code of eight bytes or more in p whose first eight, as one number, are above n comes after c
abbrev pub Led : List ℕ → List ℕ → ℕ → Type 0
Led p c n = (x y : ℕ) → Stretch p x y → x + 8 ≤ y → n < big 8 p x → Before c (part p x (y - x))
