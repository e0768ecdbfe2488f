use Rattle.std.proofs.Common.{◌≡◌, ◌+◌, ◌*◌, ◌-◌, length}
use Rattle.lots.specs.Reports.{FileBegun}
use Rattle.lots.proofs.sheet_file.read_sheet.Given as goal

abbrev pub invariant-loop : goal.invariant-loop
invariant-loop g l = FileBegun l.sheet l.line l.flat ((2251799813685248 - l.counter) * 4096 + 1) × (length l.flat ≡ length l.fn.flat) × (length l.line ≡ length l.fn.line)
