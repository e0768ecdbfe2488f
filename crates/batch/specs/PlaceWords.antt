-- A row place as one 64-bit word, as include/lots.h has it. Assumes nothing.
use Rattle.std.specs.Prelude.{ℕ, suc, ◌-◌, ◌/◌, ◌%◌, ◌^◌, ltb, ℤ, pos, negsuc}
use Rattle.page.specs.declared.Place.{Place}
use Rattle.store.specs.Moves.{pick}

-- the bits of a part as a signed number, k of them below the sign
abbrev pub signed_bits : ℕ → ℕ → ℤ
signed_bits k x = pick (ltb x (2 ^ k)) (pos x) (negsuc (2 ^ suc k - suc x))

-- page in bits 0 to 31, slot in 32 to 47, volume in 48 to 63
abbrev pub word_place : ℕ → Place
word_place w = record { page = signed_bits 31 (w % 2 ^ 32); slot = signed_bits 15 (w / 2 ^ 32 % 2 ^ 16); volume = signed_bits 15 (w / 2 ^ 48 % 2 ^ 16) }
