use Rattle.std.proofs.Common.{◌≡◌, length}
use Rattle.lots.specs.Runs.{Brought}
use Rattle.lots.proofs.input.read_all.Given as goal

abbrev pub invariant-loop : goal.invariant-loop
invariant-loop g l = Brought l.initial.y l.initial.store l.initial.line l.y l.store l.line × (length l.store ≡ length l.initial.store) × (length l.line ≡ 4096)
