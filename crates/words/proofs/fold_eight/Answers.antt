use Rattle.std.proofs.Common.{arith, ◌≡◌, ◌+◌, ◌∙◌, sym}
use mathlib.Core.Logic.{⊎_elim}
use Rattle.ground.proofs.Sides.{side}
use lib.ListN.{length-set}
use Rattle.words.proofs.Bytes.{byte_set, byte_other, wrote_none, wrote_more}
use Rattle.words.proofs.Folds.{byte_fold}
use Rattle.words.proofs.fold_eight.Goals as goal

pub loop-i-preserved : goal.loop-i-preserved
loop-i-preserved c =
    let l = c.loop-i in
    record {
      long = simp length-set l.invariant.long;
      same = λ j h. ⊎_elim
          (λ lt. byte_other l.e l.i c.fold_byte.result j (omega arith) ∙ l.invariant.same j lt)
          (λ ge. let same : j ≡ l.i = omega arith in rw same (byte_set l.e l.i c.fold_byte.result (omega (arith, l.invariant.long)) ∙ c.fold_byte.ensures ∙ sym (byte_fold c.args.src.now (c.args.a + l.i))))
          (side j l.i);
    }

pub loop-i-2-init : goal.loop-i-2-init
loop-i-2-init c = wrote_none _ _ _

pub loop-i-2-preserved : goal.loop-i-2-preserved
loop-i-2-preserved c = wrote_more _ c.loop-i-2.invariant (omega arith) (c.loop-i.invariant.same c.loop-i-2.i (omega arith))
