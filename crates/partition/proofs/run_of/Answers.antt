-- The run lies in the directory, so nothing wraps.
use Rattle.std.proofs.Common.{ℕ, ◌≡◌, ◌+◌, ◌-◌, ◌*◌, ◌^◌, ◌≤◌, arith}
use Rattle.std.proofs.Math.Nat.{add-mul, one-mul}
use Rattle.std.proofs.Math.Path.{ap₂}
use Rattle.std.proofs.Math.Pow.{pow_mono}
use Rattle.partition.specs.Bits.{top}
use Rattle.partition.specs.Partition.{first, after}
use Rattle.partition.proofs.Directory.{run_within}
use Rattle.partition.proofs.run_of.Goals as goal

-- where the run begins, and that it ends in the directory
module _ (c : goal.After-two_to-w) where
  abbrev d : ℕ
  d = c.args.d

  abbrev k : ℕ
  k = c.args.k

  abbrev v : ℕ
  v = top k c.args.x

  within : v * 2 ^ (d - k) + 2 ^ (d - k) ≤ 2 ^ d
  within = run_within c.args.x k d c.ranges.x.fits (omega arith)

  small : 2 ^ d ≤ 2 ^ 12
  small = let l : d ≤ 12 = omega arith in pow_mono l

  from : c.top_bits-v.result * c.two_to-w.result ≡ v * 2 ^ (d - k)
  from = ap₂ ◌*◌ c.top_bits-v.ensures c.two_to-w.ensures

pub overflow_mul-from : goal.overflow_mul-from
overflow_mul-from c = record { fits = omega (arith, from c, within c, small c) }

pub overflow_add-result : goal.overflow_add-result
overflow_add-result c = record { fits = omega (arith, from c, c.two_to-w.ensures, within c, small c) }

pub returns : goal.returns
unfolding first after
returns c =
    let e = from c in
    let w = c.two_to-w.ensures in
    (e, omega (arith, e, w, add-mul (v c) 1 (2 ^ (d c - k c)), one-mul (2 ^ (d c - k c))), omega arith, omega (arith, e, w, within c))
