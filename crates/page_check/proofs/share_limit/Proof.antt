-- `page_check::share_limit` meets its contract. Assumes nothing.
use native.Mathlib.Omega.{arith}
use Rattle.page_check.proofs.Prefixes.{limit_is}
use Rattle.page_check.proofs.share_limit.Statement.{statement}
use Rattle.page_check.proofs.share_limit.Tie as tie

cast-result : tie.Need-overflow_cast-result-2
cast-result c = record { fits = omega (arith, c.requires) }

shr-result : tie.Need-overflow_shr-result
shr-result c = omega (arith, c.requires)

returns : tie.Need-returns
returns c = limit_is c.args.k c.requires

pub share_limit_spec : {M : Type 1} → statement M
share_limit_spec = tie.close (tie.spec cast-result shr-result returns)
