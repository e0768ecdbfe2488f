-- A hash shifted left by at most 12 bits stays below 2 ^ 64.
use Rattle.std.proofs.Common.{rules, ℕ, ◌/◌, ◌^◌, ap, arith}
use Rattle.std.proofs.Math.Pow.{shl_exact}
use Rattle.partition.specs.Bits.{top}
use Rattle.partition.proofs.top_bits.Goals as goal

pub returns : goal.returns
unfolding top
returns c = ap (λ (n : ℕ). n / 2 ^ 32) (shl_exact 32 c.args.k 64 (search rules) (omega arith))
