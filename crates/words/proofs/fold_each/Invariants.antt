use Rattle.ground.specs.Lists.{byte}
use Rattle.words.specs.Folds.{fold}
use Rattle.words.specs.Moves.{Wrote}
use Rattle.words.proofs.fold_each.Given as goal

abbrev pub invariant-loop-i : goal.invariant-loop-i
invariant-loop-i l = Wrote l.fn.dst 0 l.i (λ j. byte (fold l.src) j) l.dst
