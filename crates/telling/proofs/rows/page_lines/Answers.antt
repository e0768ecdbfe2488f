use Rattle.std.proofs.Common.{◌≤◌, ◌<◌, length, ap, arith}
use Rattle.commands.proofs.Adding.{as_text}
use Rattle.page.specs.Page.{count}
use Rattle.page.proofs.Sums.{slot_code}
use Rattle.telling.proofs.Lines.{no_slots, slot_more, line_is}
use Rattle.telling.proofs.rows.page_lines.Goals as goal

pub loop-slot-init : goal.loop-slot-init
loop-slot-init c = (omega arith, omega arith, no_slots c.args.page.now c.args.i c.args.out.now)

pub row_line-len-requires : goal.row_line-len-requires
row_line-len-requires c =
    let below : c.loop-slot.slot < count c.args.page.now = omega (arith, c.loop-slot-test.true, c.get16-n.ensures.0) in
    let short = (slot_code c.args.page.now c.loop-slot.slot c.requires.rules.rules below).most in
    omega (arith, c.if-len-gt-LAST.false, ap length c.code_at-code.ensures, short, c.loop-slot.invariant.2.long, c.requires.room)

pub loop-slot-preserved : goal.loop-slot-preserved
loop-slot-preserved c =
    let v = c.loop-slot.invariant in
    let below : c.loop-slot.slot < count c.args.page.now = omega (arith, c.loop-slot-test.true, c.get16-n.ensures.0) in
    let short = (slot_code c.args.page.now c.loop-slot.slot c.requires.rules.rules below).most in
    let m : length c.code_at-code.result.now ≤ 64 = omega (arith, ap length c.code_at-code.ensures, short) in (
      omega (arith, c.loop-slot.auto.slot, v.0, m, c.row_line-len.ensures.upper_bound),
      omega (arith, c.if-len-gt-LAST.false, m, c.row_line-len.ensures.upper_bound),
      slot_more c.args.page.now c.args.i c.loop-slot.slot c.loop-slot.auto.slot v.2 (as_text (line_is c.args.page.now c.loop-slot.slot _ _ c.code_at-code.ensures c.read_place-place.ensures) c.row_line-len.ensures.adds),
    )
