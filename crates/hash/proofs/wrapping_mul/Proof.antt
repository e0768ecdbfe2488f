-- `hash::wrapping_mul` meets its contract: the product of two numbers of 32 bits has at most 64. Assumes nothing.
use Prim.Native.Nat.{ℕ, ◌*◌, ◌^◌, ◌<◌}
use native.Mathlib.Nat.{le_of_lt, lt_of_le_of_lt, mul-le-mul_left, mul-lt-mul_of_pos_right}
use lib.Pow.{pow_pos}
use borrow.Author.Rules.{rules}
use Rattle.hash.proofs.wrapping_mul.Statement.{statement}
use Rattle.hash.proofs.wrapping_mul.Tie as tie

product_lt : {x y : ℕ} → x < 2 ^ 32 → y < 2 ^ 32 → x * y < 2 ^ 64
product_lt {x} hx hy = lt_of_le_of_lt (mul-le-mul_left x (le_of_lt hy)) (mul-lt-mul_of_pos_right hx (pow_pos 32))

mul-result : tie.Need-overflow_mul-result
mul-result c = record { fits = product_lt (search rules) (search rules) }

cast-result : tie.Need-overflow_cast-result-3
cast-result c = search rules

returns : tie.Need-returns
returns c = search rules

pub wrapping_mul_spec : {M : Type 1} → statement M
wrapping_mul_spec = tie.close (tie.spec mul-result cast-result returns)
