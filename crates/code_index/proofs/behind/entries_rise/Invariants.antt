use Rattle.code_index.specs.Sort.{RisingBy}
use Rattle.code_index.proofs.behind.entries_rise.Given as goal

abbrev pub invariant-loop-i : goal.invariant-loop-i
invariant-loop-i l = RisingBy 1 l.i l.x
