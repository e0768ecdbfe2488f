use Rattle.std.proofs.Common.{◌≡◌, ◌+◌, ◌<◌, ℕ, length}
use Rattle.ground.specs.Lists.{byte}
use Rattle.words.specs.Folds.{fold}
use Rattle.words.specs.Moves.{Wrote}
use Rattle.words.proofs.fold_eight.Given as goal

abbrev pub invariant-loop-i : goal.invariant-loop-i
invariant-loop-i l = record { long : length l.e ≡ 8; same : (j : ℕ) → j < l.i → byte l.e j ≡ byte (fold l.src) (l.a + j) }

abbrev pub invariant-loop-i-2 : goal.invariant-loop-i-2
invariant-loop-i-2 l = Wrote l.fn.dst l.a l.i (λ j. byte (fold l.src) (l.a + j)) l.dst
