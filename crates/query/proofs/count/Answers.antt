-- The count is the check's table, with page 0's number of rows where the store is accepted.
use Rattle.std.proofs.Common.{ap, ◌∙◌, arith}
use mathlib.Core.Logic.{inl, inr}
use Rattle.std.proofs.lemmas.Result.{err_from_is_err_and}
use Rattle.std.specs.Prelude.{Err}
use Rattle.hash.specs.Fnv.{fnv}
use Rattle.store.proofs.Accepted.Rules.{accepted_whole, opened}
use Rattle.store.proofs.Accepted.Unique.{within}
use Rattle.store.specs.Tables.{count_table, counted}
use Rattle.store_check.proofs.Doors.{length_refused, page_refused, own_size}
use Rattle.store_check.proofs.Said.{said_sized}
use Rattle.query.proofs.count.Goals as goal

pub returns-in_err-z : goal.returns-in_err-z
unfolding count_table
returns-in_err-z c =
    let p = err_from_is_err_and c.from_residual.result c.from_residual.ensures.1 in
    let said = c.in_err-z.ensures in
    inl (tt, (said.1, length_refused (λ o. o) _ _ (p.1 ∙ ap Err p.2) said.0))

pub returns-in_err-accept : goal.returns-in_err-accept
unfolding count_table
returns-in_err-accept c =
    let p = err_from_is_err_and c.from_residual-in_err-accept.result c.from_residual-in_err-accept.ensures.1 in
    let said = c.in_ok-z.ensures in
    let bad = c.in_err-accept.ensures in
    own_size c.args.s.now c.in_ok-z.z said (λ S. count_table S fnv c.args.s.now) _
    (inr ((λ _ n. n said.1), inl (bad.0, (bad.2, page_refused (λ o. o) _ _ (p.1 ∙ ap Err p.2) _ bad.1))))

pub rows_counted-requires : goal.rows_counted-requires
rows_counted-requires c =
    let s = c.args.s.now in
    let said = c.in_ok-z.ensures in
    omega (arith, within c.in_ok-z.z s 0 (omega (arith, said.1.least)), (said_sized s c.in_ok-z.z said.0).least)

pub returns : goal.returns
unfolding count_table
returns c =
    let said = c.in_ok-z.ensures in
    let a = c.in_ok-accept.ensures in
    own_size c.args.s.now c.in_ok-z.z said (λ S. count_table S fnv c.args.s.now) _
    (inr ((λ _ n. n said.1), inr (accepted_whole _ fnv _ a, (a, ap counted (c.rows_counted.ensures ∙ (opened _ fnv _ a).counts.rows)))))
