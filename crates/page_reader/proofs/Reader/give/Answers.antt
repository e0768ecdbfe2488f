-- The row's code goes to the start of out, or there is no row.
use Rattle.std.proofs.Common.{arith, sym, ◌∙◌, ◌<◌}
use Rattle.std.proofs.lemmas.Bool.{eqb-true, eqb-false}
use Rattle.page.specs.Page.{count}
use Rattle.page_reader.proofs.Rows.{unsound, at_row, row_slotted, nth_none, nth_past, nth_row}
use Rattle.page_reader.proofs.Reader.give.Goals as goal

pub returns-then-is_empty : goal.returns-then-is_empty
returns-then-is_empty c =
    let s = c.args.self in
    nth_none s.page.now s.slot c.args.out.now (unsound s.page.now (eqb-true _ 0 (sym c.is_empty.ensures ∙ c.if-is_empty.true)))

pub returns-then-left-eq0 : goal.returns-then-left-eq0
returns-then-left-eq0 c =
    let s = c.args.self in
    nth_past s.page.now s.slot c.args.out.now (s.readable.sound (omega (arith, eqb-false _ 0 (sym c.is_empty.ensures ∙ c.if-is_empty.false)))) (omega (arith, c.left.ensures, c.if-left-eq0.true))

pub read_code-len-requires : goal.read_code-len-requires
read_code-len-requires c =
    let s = c.args.self in
    let h : s.slot < count s.page.now = omega (arith, c.left.ensures, c.if-left-eq0.false) in
    record { page = row_slotted s.readable h; within = h; room = c.requires }

pub returns : goal.returns
returns c =
    let s = c.args.self in
    let h : s.slot < count s.page.now = omega (arith, c.left.ensures, c.if-left-eq0.false) in
    nth_row s.page.now s.slot c.args.out.now (at_row s.page.now s.slot s.readable h) h _ c.read_code-len.ensures.size _ c.place.ensures _ c.read_code-len.ensures.wrote
