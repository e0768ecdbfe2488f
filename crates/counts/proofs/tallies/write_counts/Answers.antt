-- `counts::write_counts` meets its contract. Assumes nothing.
use Rattle.std.proofs.Common.{◌≡◌, ◌+◌, ◌*◌, get_or, arith, refl, sym, ap, ◌∙◌}
use mathlib.Core.Logic.{⊎_elim}
use Rattle.ground.proofs.Sides.{side}
use Rattle.words.specs.Le.{le32}
use Rattle.words.proofs.Bytes.{frame_join, le32_same}
use Rattle.counts.proofs.tallies.write_counts.Goals as goal

pub loop-j-init : goal.loop-j-init
loop-j-init c = (record { len = refl; below = λ i l. refl; above = λ i l. refl }, λ i l. absurd (omega arith))

pub loop-j-preserved : goal.loop-j-preserved
loop-j-preserved c =
    let l = c.loop-j in
    let w = c.put32.ensures in (
      frame_join 24 56 l.invariant.0 w.old (omega arith) (omega arith) (omega arith) (omega arith),
      λ i m. ⊎_elim
          (λ a. le32_same _ _ (24 + 4 * i) (λ k b. w.old.below (24 + 4 * i + k) (omega arith)) ∙ l.invariant.1 i a)
          (λ a. let e : i ≡ l.j = omega arith in ap (λ x. le32 c.put32.new.s (24 + 4 * x)) e ∙ w.val ∙ ap (λ x. get_or c.args.tallies.now x 0) (sym e))
          (side i l.j),
    )

pub returns : goal.returns
returns c = record { old = c.loop-j.invariant.0; new = λ j m. c.loop-j.invariant.1 j (omega arith) }
