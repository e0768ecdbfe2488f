-- A row place in 8 bytes. Assumes nothing.
use Rattle.std.specs.Prelude.{List, ◌++◌, ◌⊎◌, ℕ, ◌^◌, ◌<◌, pos, ◌<ℤ◌}
use Rattle.std.specs.Int.Signed.{mag}
use Rattle.words.specs.Le.{le16, le32, bytes}
use Rattle.page.specs.declared.Place.{Place}

-- a place in 8 bytes: page, slot, volume
abbrev pub stored : Place → List ℕ
stored p = bytes 4 (mag p.page) ++ bytes 2 (mag p.slot) ++ bytes 2 (mag p.volume)

-- the place that 8 bytes hold
abbrev pub place_from : List ℕ → Place
place_from b = record { page = pos (le32 b 0); slot = pos (le16 b 4); volume = pos (le16 b 6) }

-- a part of the place is negative
abbrev pub Negative : Place → Type 0
Negative p = (p.page <ℤ pos 0) ⊎ ((p.slot <ℤ pos 0) ⊎ (p.volume <ℤ pos 0))

-- page is signed 32 bits, slot and volume signed 16 bits each
pub record InRange (p : Place) : Type 0 where
  pub page : mag p.page < 2 ^ 31
  pub slot : mag p.slot < 2 ^ 15
  pub volume : mag p.volume < 2 ^ 15
