use Rattle.code_index.specs.Entries.{MovedBack}
use Rattle.code_index.proofs.move_back.Given as goal

abbrev pub invariant-loop-j : goal.invariant-loop-j
invariant-loop-j l = MovedBack l.fn.x l.fn.i l.j l.x
