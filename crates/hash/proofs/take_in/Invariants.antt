use Rattle.std.proofs.Common.{◌≡◌, ◌*◌, take, drop}
use Rattle.fnv.specs.Fnv.{each}
use Rattle.hash.proofs.take_in.Given as goal

abbrev pub invariant-loop-k : goal.invariant-loop-k
invariant-loop-k l = l.x ≡ each l.h (take (16 * l.k) (drop l.from l.s))
