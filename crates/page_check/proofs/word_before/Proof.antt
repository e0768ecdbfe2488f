-- `page_check::word_before` meets its contract. Assumes nothing.
use native.Mathlib.Omega.{arith}
use Rattle.page_check.proofs.Sweep.{before_none, before_some}
use Rattle.page_check.proofs.word_before.Statement.{statement}
use Rattle.page_check.proofs.word_before.Tie as tie

add-if1 : tie.Need-overflow_add-k
add-if1 c = omega (arith, c.requires.at)

returns : tie.Need-returns-then-page-k
returns c = let s = c in before_none s.args.page.now s.args.k s.requires (omega (arith, c.if-page-k.true))

add-get32 : tie.Need-overflow_add-k-2
add-get32 c = omega (arith, c.requires.at)

get32-requires : tie.Need-get32-requires
get32-requires c κs = omega (arith, c.requires.at)

returns-2 : tie.Need-returns
returns-2 c =
    let s = c in
    before_some s.args.page.now s.args.k c.get32.result s.requires (omega (arith, c.if-page-k.false)) c.get32.ensures.0

pub word_before_spec : {M : Type 1} → statement M
word_before_spec = tie.close (tie.spec add-if1 returns add-get32 get32-requires returns-2)
