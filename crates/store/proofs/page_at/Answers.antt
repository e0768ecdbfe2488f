-- The part that is lent is page p.
use Rattle.store.proofs.Paging.Views.{page_lent}
use Rattle.store.proofs.page_at.Goals as goal

pub returns : goal.returns
returns c = page_lent c.args.z c.args.s.now c.args.p
