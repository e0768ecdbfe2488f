-- The worked values of the hash, and that it has 32 bits. Assumes nothing.
use Rattle.std.specs.Prelude.{ℕ, ◌*◌, ◌%◌, ◌^◌, ◌<◌, ◌≡◌, List, [], ◌∷◌}
use Rattle.std.proofs.Common.{◌∙◌, arith, mod-lt, pow_pos}
use Rattle.std.specs.Int.Bits.{bit_xor}
use Rattle.fnv.specs.Fnv.{fnv, each}
use Rattle.fnv.specs.Fnv.Laws.{starts, ends, goes_on}

-- cases 1 and 2
pub fnv_none : fnv [] ≡ 2166136261
fnv_none = starts [] ∙ ends 2166136261

pub fnv_a : fnv (97 ∷ []) ≡ 0xE40C292C
fnv_a = starts _ ∙ goes_on _ 97 _ ∙ ends _

pub fnv_b : fnv (98 ∷ []) ≡ 0xE70C2DE5
fnv_b = starts _ ∙ goes_on _ 98 _ ∙ ends _

pub fnv_c : fnv (99 ∷ []) ≡ 0xE60C2C52
fnv_c = starts _ ∙ goes_on _ 99 _ ∙ ends _

-- a published vector: every bit of a byte counts
pub fnv_high : fnv (255 ∷ 0 ∷ 0 ∷ 1 ∷ []) ≡ 0xC48FB86D
fnv_high = starts _ ∙ goes_on _ 255 _ ∙ goes_on _ 0 _ ∙ goes_on _ 0 _ ∙ goes_on _ 1 _ ∙ ends _

each_lt : (h : ℕ) (c : List ℕ) → h < 2 ^ 32 → each h c < 2 ^ 32
each_lt h [] l = rw (ends h) l
each_lt h (b ∷ c) l = rw (goes_on h b c) (each_lt (bit_xor h b * 16777619 % 2 ^ 32) c (mod-lt _ (pow_pos 32)))

-- the hash has 32 bits
pub fnv_lt : (c : List ℕ) → fnv c < 2 ^ 32
fnv_lt c = rw (starts c) (each_lt 2166136261 c (omega arith))
