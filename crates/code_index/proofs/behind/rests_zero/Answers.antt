use Rattle.std.proofs.Common.{arith, ◌+◌, ◌*◌}
use Rattle.words.proofs.Zeros.{part_zero, zero_part}
use Rattle.code_index.proofs.Zeroed.{rests_more, rests_at}
use Rattle.code_index.proofs.behind.rests_zero.Goals as goal

pub loop-p-init : goal.loop-p-init
loop-p-init c = λ q k l. absurd (omega arith)

pub loop-p-preserved : goal.loop-p-preserved
loop-p-preserved c =
    let x = c.args.x.now in
    let p = c.loop-p.p in
    rests_more x p c.loop-p.invariant (part_zero x (1024 * p + 1008) (1024 * p + 1008 + 16) c.if-not-all_zero.ensures)

pub returns-then-not-all_zero : goal.returns-then-not-all_zero
returns-then-not-all_zero c =
    let x = c.args.x.now in
    let p = c.loop-p.p in
    λ f. c.if-not-all_zero.ensures (zero_part x (1024 * p + 1008) (1024 * p + 1008 + 16) (rests_at x p f (omega arith)))

pub returns : goal.returns
returns c = λ p k h a b. c.loop-p.invariant p k (omega arith) a b
