-- `commands::upper_digit` meets its contract. Assumes nothing.
use borrow.Author.Tests.{lt-ltb, le-ltb}
use borrow.Author.Rules.{rules}
use Rattle.commands.proofs.answers.upper_digit.Statement.{statement}
use Rattle.commands.proofs.answers.upper_digit.Tie as tie

add-result : tie.Need-overflow_add-result
add-result c = search rules

add-result-2 : tie.Need-overflow_add-result-else-d-lt10
add-result-2 c = search rules

returns : tie.Need-returns-then-d-lt10
returns c = simp (lt-ltb _ _ c.if-d-lt10.true)

returns-2 : tie.Need-returns-else-d-lt10
returns-2 c = simp (le-ltb _ _ c.if-d-lt10.false)

pub upper_digit_spec : {M : Type 1} → statement M
upper_digit_spec = tie.close (tie.spec add-result add-result-2 returns returns-2)
