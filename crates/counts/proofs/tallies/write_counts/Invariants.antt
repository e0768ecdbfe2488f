use Rattle.std.proofs.Common.{◌≡◌, ℕ, ◌+◌, ◌*◌, ◌<◌, get_or}
use Rattle.words.specs.Le.{le32}
use Rattle.words.specs.Moves.{Frame}
use Rattle.counts.proofs.tallies.write_counts.Given as goal

abbrev pub invariant-loop-j : goal.invariant-loop-j
invariant-loop-j l = Frame l.initial.s 24 56 l.s × ((i : ℕ) → i < l.j → le32 l.s (24 + 4 * i) ≡ get_or l.tallies i 0)
