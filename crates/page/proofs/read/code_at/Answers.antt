-- `page::code_at` meets its contract: the page's rules say where the record lies. Assumes nothing.
use Prim.Native.Nat.{◌-◌, ◌/◌, ◌%◌}
use native.Mathlib.Omega.{arith}
use Rattle.page.specs.Page.{word}
use Rattle.page.proofs.Slots.{lies, split_word, code_part}
use Rattle.page.proofs.read.code_at.Goals as goal

pub overflow_sub-l : goal.overflow_sub-l
unfolding word
overflow_sub-l c = omega (arith, split_word c.args.i c.get32-w.result c.requires.0 c.requires.1 c.get32-w.ensures.0)

pub slice_bounds-result-count : goal.slice_bounds-result-count
unfolding word
slice_bounds-result-count c = omega (arith, lies c.args.i c.requires.0 c.requires.1, split_word c.args.i c.get32-w.result c.requires.0 c.requires.1 c.get32-w.ensures.0)

pub slice_bounds-result-start : goal.slice_bounds-result-start
unfolding word
slice_bounds-result-start c = omega (arith, lies c.args.i c.requires.0 c.requires.1, split_word c.args.i c.get32-w.result c.requires.0 c.requires.1 c.get32-w.ensures.0)

pub slice_bounds-result-end : goal.slice_bounds-result-end
unfolding word
slice_bounds-result-end c = omega (arith, lies c.args.i c.requires.0 c.requires.1, split_word c.args.i c.get32-w.result c.requires.0 c.requires.1 c.get32-w.ensures.0)

pub returns : goal.returns
unfolding word
returns c =
    let w = c.get32-w.result in
    let y = lies c.args.i c.requires.0 c.requires.1 in
    let d = split_word c.args.i w c.requires.0 c.requires.1 c.get32-w.ensures.0 in
    code_part c.args.page.now c.args.i (w % 16384) (w / 16384 - 16384) d.0 (omega (arith, d)) (omega (arith, y, d))
