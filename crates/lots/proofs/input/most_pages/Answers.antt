use Rattle.std.proofs.Common.{arith, eq-eqb, ne_eqb}
use Rattle.lots.specs.Sessions.{most_pages}
use Rattle.lots.proofs.input.most_pages.Goals as goal

pub returns-then-size-eq4096 : goal.returns-then-size-eq4096
unfolding most_pages
returns-then-size-eq4096 c = (rw (eq-eqb _ 4096 c.if-size-eq4096.true), omega arith)

pub returns-then-size-eq16384 : goal.returns-then-size-eq16384
unfolding most_pages
returns-then-size-eq16384 c = (rw (ne_eqb _ 4096 c.if-size-eq4096.false, eq-eqb _ 16384 c.if-size-eq16384.true), omega arith)

pub returns : goal.returns
unfolding most_pages
returns c = (rw (ne_eqb _ 4096 c.if-size-eq4096.false, ne_eqb _ 16384 c.if-size-eq16384.false), omega arith)
