use Rattle.std.proofs.Common.{arith}
use mathlib.Core.Logic.{inl, inr, ⊎_elim}
use Rattle.ground.proofs.Sides.{side}
use Rattle.words.proofs.Folds.{byte_kept}
use Rattle.words.proofs.letter.Goals as goal

pub returns : goal.returns
returns c = (
  λ h. (byte_kept _).1 (⊎_elim (λ l. inl l) (λ g. inr (omega arith)) (side c.args.x 0x41)),
  λ e. ⊎_elim (λ l. omega arith) (λ l. omega arith) ((byte_kept _).0 e),
)
