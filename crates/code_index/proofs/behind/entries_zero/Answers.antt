use Rattle.std.proofs.Common.{arith, subst, sym, ◌∙◌}
use Rattle.words.specs.Zeros.{Zero}
use Rattle.code_index.specs.Entries.{entry_in}
use Rattle.code_index.proofs.Writing.{entry_size}
use Rattle.code_index.proofs.Zeroed.{none_zero, zero_none, none_more}
use Rattle.code_index.proofs.behind.entries_zero.Goals as goal

pub loop-i-init : goal.loop-i-init
loop-i-init c = λ j a b. absurd (omega arith)

pub loop-i-preserved : goal.loop-i-preserved
loop-i-preserved c =
    let x = c.args.x.now in
    let i = c.loop-i.i in
    none_more x c.args.n i c.loop-i.invariant (zero_none (entry_in x i) (entry_size x i (omega arith)) (subst Zero c.entry_at.ensures c.if-not-all_zero.ensures))

pub returns-then-not-all_zero : goal.returns-then-not-all_zero
returns-then-not-all_zero c = λ f. c.if-not-all_zero.ensures (subst Zero (sym (c.entry_at.ensures ∙ f c.loop-i.i (omega arith) (omega arith))) none_zero)

pub returns : goal.returns
returns c = λ j a b. c.loop-i.invariant j a (omega arith)
