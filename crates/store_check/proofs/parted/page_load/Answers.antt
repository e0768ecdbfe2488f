use Rattle.store_check.proofs.Parting.{load_free, load_used}
use Rattle.store_check.proofs.parted.page_load.Goals as goal

pub returns-then-pg-eq0 : goal.returns-then-pg-eq0
returns-then-pg-eq0 c = load_free c.args.pg.now c.requires c.if-pg-eq0.true

pub returns : goal.returns
returns c = (load_used c.args.pg.now c.requires c.if-pg-eq0.false c.get16.result c.get16.ensures.0).1
