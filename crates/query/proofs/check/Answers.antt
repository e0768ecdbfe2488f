-- The check refuses by the length, then by the first page that breaks a rule.
use Rattle.std.proofs.Common.{ap, refl, ◌∙◌}
use mathlib.Core.Logic.{inl, inr}
use Rattle.std.proofs.lemmas.Result.{err_from_is_err_and}
use Rattle.std.specs.Prelude.{Err}
use Rattle.hash.specs.Fnv.{fnv}
use Rattle.store.proofs.Accepted.Rules.{accepted_whole}
use Rattle.store.specs.Tables.{check_table}
use Rattle.store_check.proofs.Doors.{length_refused, page_refused, own_size}
use Rattle.query.proofs.check.Goals as goal

pub returns-in_err-z : goal.returns-in_err-z
unfolding check_table
returns-in_err-z c =
    let p = err_from_is_err_and c.from_residual.result c.from_residual.ensures.1 in
    let said = c.in_err-z.ensures in
    inl (tt, (said.1, length_refused (λ o. o) _ _ (p.1 ∙ ap Err p.2) said.0))

pub returns-in_err-accept : goal.returns-in_err-accept
unfolding check_table
returns-in_err-accept c =
    let p = err_from_is_err_and c.from_residual-in_err-accept.result c.from_residual-in_err-accept.ensures.1 in
    let said = c.in_ok-z.ensures in
    let bad = c.in_err-accept.ensures in
    own_size c.args.s.now c.in_ok-z.z said (λ S. check_table S fnv c.args.s.now) _
    (inr ((λ _ n. n said.1), inl (bad.0, (bad.2, page_refused (λ o. o) _ _ (p.1 ∙ ap Err p.2) _ bad.1))))

pub returns : goal.returns
unfolding check_table
returns c =
    let said = c.in_ok-z.ensures in
    let a = c.in_ok-accept.ensures in
    own_size c.args.s.now c.in_ok-z.z said (λ S. check_table S fnv c.args.s.now) _
    (inr ((λ _ n. n said.1), inr (accepted_whole _ fnv _ a, (a, refl))))
