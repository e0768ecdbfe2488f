-- `sheets::Sheet::take_line`: a line more is read.
use Rattle.std.proofs.Common.{refl}
use Rattle.sheets.proofs.Read.{line_read}
use Rattle.sheets.proofs.Sheet.take_line.Goals as goal

pub returns : goal.returns
returns c = record {
  number = refl;
  fill = refl;
  over = refl;
  read = line_read c.args.self.now c.add_line.new.self _ c.args.held.now c.args.flat.now _ c.line_says-x.result c.requires.short c.line_says-x.ensures c.add_line.ensures.0 c.add_line.ensures.1
      (record { wrong = refl; rows = refl; bad = refl; low = refl }) refl;
}
