use Rattle.std.proofs.Common.{arith, refl, sym, true≢false}
use Rattle.commands.specs.SheetLines.{cut_from}
use Rattle.text_lines.specs.Ends.{behind_last}
use Rattle.text_lines.specs.LineText.{spaced}
use Rattle.text_lines.proofs.LineRead.fresh.Goals as goal

pub returns : goal.returns
unfolding spaced cut_from behind_last
returns c p = record { within = omega arith; words = λ _. refl; blank = λ _. refl; long = λ e. absurd (true≢false (sym e)) }
