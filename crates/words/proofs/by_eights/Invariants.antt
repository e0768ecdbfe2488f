use Rattle.std.proofs.Common.{◌+◌, ◌<◌}
use Rattle.words.proofs.Firsts.{Agreed}
use Rattle.words.proofs.by_eights.Given as goal

abbrev pub invariant-loop-i : goal.invariant-loop-i
invariant-loop-i l = record { near : l.i < l.last + 8; agreed : Agreed l.a l.b l.i }
