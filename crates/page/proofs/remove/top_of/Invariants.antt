-- What `page::top_of` keeps: the largest record end of the slots before i. Assumes nothing.
use Prim.Native.Nat.{◌<◌}
use Rattle.page.specs.Steps.{Top}
use Rattle.page.proofs.remove.top_of.Given as goal

abbrev pub invariant-loop-i : goal.invariant-loop-i
invariant-loop-i l = Top l.fn.page l.i l.best × (l.best < 32768)
