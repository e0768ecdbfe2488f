use Rattle.std.proofs.Common.{◌≡◌, ℕ, ◌+◌, ◌*◌, ◌<◌, ◌≤◌}
use Rattle.words.specs.Le.{le32}
use Rattle.counts.proofs.kept.deepest_counted.Given as goal

abbrev pub invariant-loop-k : goal.invariant-loop-k
invariant-loop-k l = (i : ℕ) → l.k < i → i ≤ l.most → le32 l.s (28 + 4 * i) ≡ 0
