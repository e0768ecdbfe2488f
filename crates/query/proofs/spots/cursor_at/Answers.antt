-- From entry 0 on all rows are listed.
use Rattle.query.proofs.Finds.{from_first, from_at}
use Rattle.query.proofs.spots.cursor_at.Goals as goal

pub returns : goal.returns
returns c = from_at c.args.z c.args.s.now c.args.n 0 c.args.n (from_first c.args.z c.requires.0 c.args.s.now c.requires.1 c.args.n)
