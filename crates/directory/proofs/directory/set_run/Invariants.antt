use Rattle.std.proofs.Common.{◌≡◌, ◌≤◌}
use Rattle.directory.specs.Directory.{RunSet}
use Rattle.directory.proofs.directory.set_run.Given as goal

abbrev pub invariant-loop-i : goal.invariant-loop-i
invariant-loop-i l =
    RunSet l.z l.fn.s l.fn.run.start l.i-iterator.start l.p l.s
    × (l.fn.run.start ≤ l.i-iterator.start) × (l.i-iterator.start ≤ l.i-iterator.end) × (l.i-iterator.end ≡ l.fn.run.end)
