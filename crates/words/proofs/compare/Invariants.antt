use Rattle.std.proofs.Math.ListN.{drop}
use Rattle.std.specs.declared.cmp.Ordering.{Ordering}
use Rattle.words.specs.Codes.{Ordered}
use Rattle.words.proofs.compare.Given as goal

-- what an answer says of what is left it says of the codes
abbrev pub invariant-loop-i : goal.invariant-loop-i
invariant-loop-i l = (o : Ordering) → Ordered (drop l.i l.a) (drop l.i l.b) o → Ordered l.a l.b o
