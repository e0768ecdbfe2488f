use Rattle.std.proofs.Common.{arith, length}
use mathlib.Core.Logic.{⊎_elim}
use Rattle.ground.proofs.Sides.{side}
use Rattle.ground.proofs.Tests.{says_same}
use Rattle.words.proofs.Zeros.{part_zero, zero_part, zero_all}
use Rattle.words.proofs.all_zero.Goals as goal

pub returns : goal.returns
returns c =
    let s = c.args.s.now in
    let e = c.zeros_end.result in
    says_same c.no_bit.result c.no_bit.ensures
    (λ z. zero_all s (length s) (omega arith) (λ k l. ⊎_elim (λ lt. c.zeros_end.ensures.zero k (omega arith) lt) (λ ge. part_zero s e (length s) z k ge l) (side k e)))
    (λ z. zero_part s e (length s) (λ k _ _. z k))
