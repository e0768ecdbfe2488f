use Rattle.std.proofs.Common.{arith, ◌≡◌, ◌∙◌, sym, length}
use Rattle.ground.specs.Lists.{byte}
use Rattle.words.specs.Folds.{fold}
use Rattle.words.proofs.Bytes.{wrote_none, at_start}
use Rattle.words.proofs.Folds.{byte_fold, fold_length}
use Rattle.words.proofs.fold_each.Goals as goal

pub loop-i-init : goal.loop-i-init
loop-i-init c = wrote_none _ 0 (λ j. byte (fold c.args.src.now) j)

pub loop-i-preserved : goal.loop-i-preserved
loop-i-preserved c = at_start _ c.loop-i.invariant (omega arith) (c.fold_byte.ensures ∙ sym (byte_fold c.args.src.now c.loop-i.i))

pub returns : goal.returns
returns c =
    let e : c.loop-i.i ≡ length (fold c.args.src.now) = omega (arith, fold_length c.args.src.now) in
    rw (← e) c.loop-i.invariant
