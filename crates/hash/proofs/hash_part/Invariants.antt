use Rattle.std.proofs.Common.{◌≡◌, ◌*◌, take, drop}
use Rattle.fnv.specs.Fnv.{each}
use Rattle.hash.proofs.hash_part.Given as goal

abbrev pub invariant-loop-k : goal.invariant-loop-k
invariant-loop-k l = l.y ≡ each 2166136261 (take (16 * l.k) (drop l.from l.s))
