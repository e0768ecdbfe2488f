-- `sheets::Sheet::take_piece`: the bytes before the next are taken.
use Rattle.std.proofs.Common.{◌≡◌, ◌*◌, length, take}
use Rattle.report.specs.Report.{limit}
use Rattle.sheets.specs.Laying.{BytesTaken}
use Rattle.sheets.proofs.Sheet.take_piece.Given as goal

abbrev pub invariant-loop-b : goal.invariant-loop-b
invariant-loop-b l = BytesTaken (take l.b-index l.piece) l.fn.self l.fn.line l.fn.flat l.self l.line l.flat × (length l.flat ≡ 2 * limit) × (length l.line ≡ 4096)
