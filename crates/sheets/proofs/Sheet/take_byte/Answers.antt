-- `sheets::Sheet::take_byte`: a line feed ends the line, and another byte is held where there is room.
use Rattle.std.proofs.Common.{refl}
use Rattle.sheets.proofs.Read.{feed_taken, byte_held, byte_over}
use Rattle.sheets.proofs.Sheet.take_byte.Goals as goal

pub returns-then-b-eq10 : goal.returns-then-b-eq10
returns-then-b-eq10 c = feed_taken c.args.self.now c.args.line.now c.args.flat.now c.args.b c.take_line.new.self _ c.if-b-eq10.true c.take_line.ensures

pub returns-then-fill-line : goal.returns-then-fill-line
returns-then-fill-line c =
    byte_held c.args.self.now c.args.line.now c.args.flat.now c.args.b (λ e. c.if-b-eq10.false e) _ (record { wrong = refl; rows = refl; bad = refl; low = refl }) refl c.if-fill-line.true c.requires.long refl refl

pub returns-else-fill-line : goal.returns-else-fill-line
returns-else-fill-line c =
    byte_over c.args.self.now c.args.line.now c.args.flat.now c.args.b (λ e. c.if-b-eq10.false e) _ (record { wrong = refl; rows = refl; bad = refl; low = refl }) refl c.if-fill-line.false c.requires.long c.requires.fill refl refl
