use Rattle.std.proofs.Common.{◌≡◌, take, drop}
use Rattle.fnv.specs.Fnv.{each}
use Rattle.hash.proofs.block.Given as goal

abbrev pub invariant-loop-b : goal.invariant-loop-b
invariant-loop-b g l = l.x ≡ each l.h (take l.b-index (drop l.i l.s))
