use Rattle.std.proofs.Common.{◌-◌}
use Rattle.putting.proofs.split.+write_below.Given as goal

abbrev pub decreases-write_below : goal.decreases-write_below
decreases-write_below l = l.z.deepest - l.k
