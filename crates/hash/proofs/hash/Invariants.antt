use Rattle.std.proofs.Common.{◌≡◌, ◌*◌, take}
use Rattle.fnv.specs.Fnv.{each}
use Rattle.hash.proofs.hash.Given as goal

abbrev pub invariant-loop-k : goal.invariant-loop-k
invariant-loop-k l = l.h ≡ each 2166136261 (take (16 * l.k) l.code)
