use Rattle.ground.specs.Lists.{byte}
use Rattle.words.specs.Moves.{Wrote}
use Rattle.words.proofs.copy_at.Given as goal

abbrev pub invariant-loop-i : goal.invariant-loop-i
invariant-loop-i l = Wrote l.fn.dst l.at l.i (λ j. byte l.src j) l.dst
