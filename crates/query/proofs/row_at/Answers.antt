-- A row is refused 1, 8 or 2; then the listing answers.
use Rattle.std.proofs.Common.{ap, refl, ◌∙◌, arith}
use mathlib.Core.Logic.{inl, inr}
use Rattle.std.proofs.lemmas.Result.{err_from_is_err_and}
use Rattle.std.specs.Prelude.{Err}
use Rattle.hash.specs.Fnv.{fnv}
use Rattle.store.proofs.Accepted.Rules.{accepted_whole}
use Rattle.store.specs.Tables.{row_table}
use Rattle.store_check.proofs.Doors.{length_refused, page_refused, own_size}
use Rattle.store_check.proofs.Said.{said_sized}
use Rattle.query.proofs.row_at.Goals as goal

pub returns-in_err-z : goal.returns-in_err-z
unfolding row_table
returns-in_err-z c =
    let p = err_from_is_err_and c.from_residual.result c.from_residual.ensures.1 in
    let said = c.in_err-z.ensures in
    inl (tt, (said.1, length_refused (λ o. (o, c.args.out.now)) _ _ (p.1 ∙ ap Err p.2) said.0))

pub returns-then-out-lt64 : goal.returns-then-out-lt64
unfolding row_table
returns-then-out-lt64 c =
    let said = c.in_ok-z.ensures in
    own_size c.args.s.now c.in_ok-z.z said (λ S. row_table S fnv c.args.s.now c.args.n c.args.out.now) _
    (inr ((λ _ n. n said.1), inl (tt, (c.if-out-lt64.true, refl))))

pub returns-in_err-accept : goal.returns-in_err-accept
unfolding row_table
returns-in_err-accept c =
    let p = err_from_is_err_and c.from_residual-in_err-accept.result c.from_residual-in_err-accept.ensures.1 in
    let said = c.in_ok-z.ensures in
    let bad = c.in_err-accept.ensures in
    own_size c.args.s.now c.in_ok-z.z said (λ S. row_table S fnv c.args.s.now c.args.n c.args.out.now) _
    (inr ((λ _ n. n said.1), inr ((λ _ l. omega (arith, l, c.if-out-lt64.false)), inl (bad.0, (bad.2, page_refused (λ o. (o, c.args.out.now)) _ _ (p.1 ∙ ap Err p.2) _ bad.1)))))

pub give_row-requires : goal.give_row-requires
give_row-requires c = record {
  sized = said_sized c.args.s.now c.in_ok-z.z c.in_ok-z.ensures.0;
  accepted = c.in_ok-accept.ensures;
  room = c.if-out-lt64.false;
}

pub returns : goal.returns
unfolding row_table
returns c =
    let said = c.in_ok-z.ensures in
    let a = c.in_ok-accept.ensures in
    own_size c.args.s.now c.in_ok-z.z said (λ S. row_table S fnv c.args.s.now c.args.n c.args.out.now) _
    (inr ((λ _ n. n said.1), inr ((λ _ l. omega (arith, l, c.if-out-lt64.false)), inr (accepted_whole _ fnv _ a, (a, c.give_row.ensures)))))
