-- What `page::pack_into` keeps: the rows before i are packed. Assumes nothing.
use Rattle.page.specs.Packed.{PackedTo}
use Rattle.page.proofs.pack.pack_into.Given as goal

abbrev pub invariant-loop-i : goal.invariant-loop-i
invariant-loop-i l = PackedTo l.from l.i l.page
