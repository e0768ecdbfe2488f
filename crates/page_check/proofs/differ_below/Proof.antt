-- `page_check::differ_below` meets its contract. Assumes nothing.
use Prim.Native.Nat.{◌<◌}
use native.Mathlib.Omega.{arith}
use lib.Bits.{bit_xor, xor_lt}
use Rattle.ground.proofs.Tests.{says_ltb}
use Rattle.page_check.proofs.differ_below.Statement.{statement}
use Rattle.page_check.proofs.differ_below.Tie as tie

cast-result : tie.Need-overflow_cast-result
cast-result c = record { fits = omega (arith, xor_lt 32 c.args.first c.args.x c.ranges.first.fits c.ranges.x.fits) }

returns : tie.Need-returns
returns c = says_ltb {P = bit_xor c.args.first c.args.x < c.args.m} (bit_xor c.args.first c.args.x) c.args.m (λ h. h) (λ h. h)

pub differ_below_spec : {M : Type 1} → statement M
differ_below_spec = tie.close (tie.spec cast-result returns)
