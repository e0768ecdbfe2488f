-- The slot's word, pulled apart.
use Rattle.std.proofs.Common.{arith}
use Rattle.page.proofs.Slots.{split_word}
use Rattle.page_check.proofs.Sweep.{word_is}
use Rattle.page_check.proofs.record_of.Goals as goal

pub overflow_sub-result : goal.overflow_sub-result
overflow_sub-result c = omega (arith, split_word c.args.i c.get32-w.result c.requires.0.rules c.requires.1 (word_is _ _ _ c.get32-w.ensures.0))

pub returns : goal.returns
returns c =
    let e = split_word c.args.i c.get32-w.result c.requires.0.rules c.requires.1 (word_is _ _ _ c.get32-w.ensures.0) in
    (e.0, omega (arith, e.1))
