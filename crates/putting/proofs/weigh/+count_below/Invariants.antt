use Rattle.std.proofs.Common.{◌-◌}
use Rattle.putting.proofs.weigh.+count_below.Given as goal

abbrev pub decreases-count_below : goal.decreases-count_below
decreases-count_below l = l.z.deepest - l.k
