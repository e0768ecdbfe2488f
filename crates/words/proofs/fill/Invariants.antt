use Rattle.words.specs.Moves.{Span}
use Rattle.words.proofs.fill.Given as goal

abbrev pub invariant-loop-i : goal.invariant-loop-i
invariant-loop-i l = Span l.fn.s l.a l.i (λ _. l.x) l.s
