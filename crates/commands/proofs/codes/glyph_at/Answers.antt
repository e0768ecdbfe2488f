use Rattle.std.proofs.Common.{arith}
use Rattle.commands.proofs.Spelling.{of_plain, of_escaped}
use Rattle.commands.proofs.Unread.{too_low, too_high, too_short, first_other, second_other}
use Rattle.commands.proofs.codes.glyph_at.Goals as goal
use Rattle.commands.proofs.codes.glyph_at.Goals.{then-byte-lt33-via-then-byte-lt33, then-byte-lt33-via-else-byte-lt33+then-byte-gt126}

pub returns-then-byte-lt33 : goal.returns-then-byte-lt33
returns-then-byte-lt33 c = elim c.then-byte-lt33.branch [
  | then-byte-lt33-via-then-byte-lt33 w ↦ too_low _ _ c.requires w.if-byte-lt33.true
  | then-byte-lt33-via-else-byte-lt33+then-byte-gt126 w ↦ too_high _ _ c.requires w.if-byte-gt126.true
]

pub returns-then-byte-ne37 : goal.returns-then-byte-ne37
returns-then-byte-ne37 c = of_plain _ _ c.requires (record { least = omega arith; most = omega arith; other = c.if-byte-ne37.true })

pub returns-then-w-i-lt3 : goal.returns-then-w-i-lt3
returns-then-w-i-lt3 c = too_short _ _ c.requires c.if-byte-ne37.false c.if-w-i-lt3.true

pub returns-in_err-x : goal.returns-in_err-x
returns-in_err-x c = rw c.from_residual.ensures (first_other _ _ c.requires c.if-byte-ne37.false c.in_err-x.ensures)

pub returns-in_err-y : goal.returns-in_err-y
returns-in_err-y c = rw c.from_residual-in_err-y.ensures (second_other _ _ c.requires c.if-byte-ne37.false c.in_err-y.ensures)

pub returns : goal.returns
returns c = of_escaped _ _ _ _ (omega arith) c.if-byte-ne37.false c.in_ok-x.ensures c.in_ok-y.ensures
