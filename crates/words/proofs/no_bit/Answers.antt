use Rattle.std.proofs.Common.{arith}
use Rattle.ground.proofs.Tests.{says_eqb}
use Rattle.words.proofs.Zeros.{gathered_none, gathered_more, zero_all}
use Rattle.words.proofs.no_bit.Goals as goal

pub loop-x-init : goal.loop-x-init
loop-x-init c = gathered_none _ _ _ (omega arith)

pub loop-x-preserved : goal.loop-x-preserved
loop-x-preserved c = gathered_more (omega arith) c.loop-x.invariant

pub returns : goal.returns
returns c =
    let g = c.loop-x.invariant in
    says_eqb c.loop-x.acc 0 (λ z. zero_all c.args.s.now c.loop-x.x-index (omega arith) (λ k l. g.so z k (omega arith) l)) (λ z. g.back (λ k _ _. z k))
