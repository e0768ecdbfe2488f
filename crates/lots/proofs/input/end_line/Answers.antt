use native.Mathlib.Nat.{sub-zero}
use Rattle.lots.proofs.Running.{line_turned}
use Rattle.lots.proofs.input.end_line.Goals as goal

pub returns : goal.returns
returns g c = line_turned c.requires c.next_line.ensures.0 c.next_line.ensures.1 (simp sub-zero at c.words_line.ensures)
