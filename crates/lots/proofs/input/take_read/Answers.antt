use Rattle.std.proofs.Common.{length, sym, refl, ◌∙◌, true≢false}
use Rattle.std.proofs.lemmas.Bool.{eqb-true}
use Rattle.std.proofs.lemmas.List.{nil_from_length}
use Rattle.lots.proofs.Leaving.{beside, holds_as}
use Rattle.lots.proofs.Running.{feeds_as, feeds_none}
use Rattle.lots.proofs.input.take_read.Goals as goal

pub returns-then-is_empty : goal.returns-then-is_empty
returns-then-is_empty g c =
    let h = c.requires in
    let e = nil_from_length c.in-Some.piece.now (eqb-true (length c.in-Some.piece.now) 0 (sym c.is_empty.ensures ∙ c.if-is_empty.true)) in
    rw c.in-Some.is (feeds_as (sym e) (feeds_none (beside (record { len = refl; known = refl; changed = refl; stopped = refl }) h.holds) refl refl refl h.fits))

pub returns-in-None : goal.returns-in-None
returns-in-None g c =
    let h = c.requires in
    rw c.in-None.is (feeds_none (record { quiet = λ q. absurd (true≢false q.1); same = λ q. refl; long = λ q. refl; holds = holds_as refl refl h.holds }) refl refl refl h.fits)
