use Rattle.std.proofs.Common.{◌≡◌, length, take}
use Rattle.lots.specs.Runs.{Feeds}
use Rattle.lots.proofs.input.feed.Given as goal

abbrev pub invariant-loop-b : goal.invariant-loop-b
invariant-loop-b g l = Feeds (take l.b-index l.piece) l.initial.y l.initial.store l.initial.line l.y l.store l.line × (length l.store ≡ length l.initial.store) × (length l.line ≡ 4096)
