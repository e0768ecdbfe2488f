-- One step from before place n.
use Rattle.query.proofs.spots.nth_row.Goals as goal

pub returns : goal.returns
returns c = (c.in_ok-spot.ensures c.args.n c.cursor_at.ensures).0
