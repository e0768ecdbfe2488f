use Rattle.report.specs.Report.{limit}
use Rattle.report.proofs.Tells.{take_replicate}
use Rattle.lots.proofs.bid.tell_fresh.Goals as goal

pub tell_marked-requires : goal.tell_marked-requires
tell_marked-requires g c = (c.requires, take_replicate c.args.n limit 0 c.requires.markable.laid.most)
