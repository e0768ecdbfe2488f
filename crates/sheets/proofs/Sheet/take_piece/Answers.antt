-- `sheets::Sheet::take_piece`: one byte more each turn.
use Rattle.std.proofs.Common.{◌∙◌, arith}
use lib.Seq.{length-take-le}
use Rattle.sheets.proofs.Read.{none_taken, piece_more, piece_whole}
use Rattle.sheets.proofs.Sheet.take_piece.Goals as goal

pub loop-b-init : goal.loop-b-init
loop-b-init c = (none_taken c.args.self.now c.args.line.now c.args.flat.now c.requires.fill, c.requires.flat, c.requires.long)

pub take_byte-requires : goal.take_byte-requires
take_byte-requires c =
    let r = c.loop-b.invariant in
    let k = length-take-le c.loop-b.b-index c.args.piece.now (omega (arith, c.loop-b-test.true)) in
    record { flat = r.1; long = r.2; fill = r.0.fill; number = omega (arith, r.0.number, k, c.requires.number, c.loop-b-test.true) }

pub loop-b-preserved : goal.loop-b-preserved
loop-b-preserved c =
    let r = c.loop-b.invariant in
    (piece_more c.args.piece.now c.loop-b.b-index c.loop-b-test.true r.0 c.take_byte.ensures, c.take_byte.auto.flat ∙ r.1, c.take_byte.auto.line ∙ r.2)

pub returns : goal.returns
returns c = piece_whole c.args.piece.now c.loop-b.b-index c.loop-b-test.false c.loop-b.invariant.0
