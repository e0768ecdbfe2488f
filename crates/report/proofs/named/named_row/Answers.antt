-- `report::named::named_row`: the amount of a laid-out row can be lowered.
use Rattle.std.proofs.Common.{length, arith}
use Rattle.report.proofs.Told.{amount_low}
use Rattle.report.proofs.named.named_row.Goals as goal

pub lower-z-requires : goal.lower-z-requires
lower-z-requires c = (omega (arith, amount_low c.args.flat.now (length c.args.counts.now) c.args.i c.requires.0 c.requires.1), omega arith)
