-- FNV-1a, 32 bits. The definitions carry no mark, so that nothing above opens them. Assumes nothing.
use Rattle.std.specs.Prelude.{ℕ, ◌*◌, ◌%◌, ◌^◌, List, [], ◌∷◌}
use Rattle.std.specs.Int.Bits.{bit_xor}
pub mod Laws

-- for each byte, exclusive-or it in, then multiply by 16,777,619, keeping the low 32 bits
pub each : ℕ → List ℕ → ℕ
each h [] = h
each h (b ∷ c) = each (bit_xor h b * 16777619 % 2 ^ 32) c

-- start at 2,166,136,261
pub fnv : List ℕ → ℕ
fnv c = each 2166136261 c
