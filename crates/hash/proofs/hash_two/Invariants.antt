use Rattle.std.proofs.Common.{◌≡◌, ◌*◌, take, drop}
use Rattle.fnv.specs.Fnv.{each}
use Rattle.hash.proofs.hash_two.Given as goal

abbrev pub invariant-loop-k : goal.invariant-loop-k
invariant-loop-k l = record {
  first : l.x ≡ each 2166136261 (take (16 * l.k) (drop l.a l.s));
  second : l.y ≡ each 2166136261 (take (16 * l.k) (drop l.c l.s));
}
