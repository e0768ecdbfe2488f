-- A remove is refused 1, 3 or 2; then it is that of an accepted store.
use Rattle.std.proofs.Common.{ap, refl, ◌∙◌}
use mathlib.Core.Logic.{inl, inr}
use Rattle.std.proofs.lemmas.Result.{err_from_is_err_and}
use Rattle.std.specs.Prelude.{Err}
use Rattle.ground.proofs.Tests.{says_true, says_false}
use Rattle.hash.specs.Fnv.{fnv}
use Rattle.store.proofs.Accepted.Rules.{accepted_whole}
use Rattle.store_check.proofs.Doors.{length_refused, page_refused, own_size}
use Rattle.store_check.proofs.Said.{said_sized}
use Rattle.words.specs.Codes.{GoodCode}
use Rattle.store.specs.Tables.{remove_table}
use Rattle.store.proofs.Demands.Kept.{three, no_three}
use Rattle.removal.proofs.removal.remove.Goals as goal

pub returns-in_err-z : goal.returns-in_err-z
unfolding remove_table
returns-in_err-z c =
    let p = err_from_is_err_and c.from_residual.result c.from_residual.ensures.1 in
    let said = c.in_err-z.ensures in
    inl (tt, (said.1, length_refused (λ o. (o, c.args.s.now)) _ _ (p.1 ∙ ap Err p.2) said.0))

pub returns-then-not-good_code : goal.returns-then-not-good_code
unfolding remove_table
returns-then-not-good_code c =
    let said = c.in_ok-z.ensures in
    own_size c.args.s.now c.in_ok-z.z said (λ S. remove_table S fnv c.args.s.now c.args.key.now) _
    (inr ((λ _ n. n said.1), inl (tt, (three c.args.key.now (says_false {P = GoodCode c.args.key.now} c.good_code.result c.if-not-good_code.true c.good_code.ensures), refl))))

pub returns-in_err-accept : goal.returns-in_err-accept
unfolding remove_table
returns-in_err-accept c =
    let p = err_from_is_err_and c.from_residual-in_err-accept.result c.from_residual-in_err-accept.ensures.1 in
    let said = c.in_ok-z.ensures in
    let bad = c.in_err-accept.ensures in
    own_size c.args.s.now c.in_ok-z.z said (λ S. remove_table S fnv c.args.s.now c.args.key.now) _
    (inr ((λ _ n. n said.1), inr ((λ _ r. no_three _ (says_true {P = GoodCode c.args.key.now} c.good_code.result c.if-not-good_code.false c.good_code.ensures) r), inl (bad.0, (bad.2, page_refused (λ o. (o, c.args.s.now)) _ _ (p.1 ∙ ap Err p.2) _ bad.1)))))

pub remove_given-requires : goal.remove_given-requires
remove_given-requires c = record { sized = said_sized c.args.s.now c.in_ok-z.z c.in_ok-z.ensures.0; accepted = c.in_ok-accept.ensures; good = says_true {P = GoodCode c.args.key.now} c.good_code.result c.if-not-good_code.false c.good_code.ensures }

pub returns : goal.returns
unfolding remove_table
returns c =
    let said = c.in_ok-z.ensures in
    let a = c.in_ok-accept.ensures in
    own_size c.args.s.now c.in_ok-z.z said (λ S. remove_table S fnv c.args.s.now c.args.key.now) _
    (inr ((λ _ n. n said.1), inr ((λ _ r. no_three _ (says_true {P = GoodCode c.args.key.now} c.good_code.result c.if-not-good_code.false c.good_code.ensures) r), inr (accepted_whole _ fnv _ a, (a, c.remove_given.ensures)))))
