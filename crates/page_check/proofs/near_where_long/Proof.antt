-- `page_check::near_where_long` meets its contract. Assumes nothing.
use native.Mathlib.Omega.{arith}
use borrow.Author.Rules.{rules}
use Rattle.page_check.proofs.near_where_long.Statement.{statement}
use Rattle.page_check.proofs.near_where_long.Tie as tie

get16-requires : tie.Need-get16-requires
get16-requires c κs = omega (arith, c.requires.rules.least)

get16-requires-2 : tie.Need-get16-requires-2
get16-requires-2 c κs = omega (arith, c.requires.rules.least)

mul-if1 : tie.Need-overflow_mul-get16
mul-if1 c = search rules

returns : tie.Need-returns-then-get16
returns c = record { start = omega arith; within = c.requires.some; near = λ i h l. absurd (omega arith) }

near-by-twos-requires : tie.Need-near_by_twos-requires
near-by-twos-requires c κs = search rules

returns-2 : tie.Need-returns
returns-2 c = c.near_by_twos.ensures

pub near_where_long_spec : {M : Type 1} → statement M
near_where_long_spec = tie.close (tie.spec get16-requires get16-requires-2 mul-if1 returns near-by-twos-requires returns-2)
