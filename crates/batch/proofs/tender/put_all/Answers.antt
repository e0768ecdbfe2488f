-- A batch is refused 1, 12, 14 or 2; then its puts are made one by one.
use Rattle.std.proofs.Common.{◌≡◌, ◌<◌, ap, refl, ◌∙◌, arith}
use mathlib.Core.Logic.{inl, inr}
use Rattle.std.proofs.lemmas.Result.{err_from_is_err_and}
use Rattle.std.specs.Prelude.{Err}
use Rattle.ground.proofs.Tests.{says_true, says_false}
use Rattle.hash.specs.Fnv.{fnv}
use Rattle.store.proofs.Accepted.Rules.{accepted_whole}
use Rattle.store_check.proofs.Doors.{length_refused, page_refused, own_size}
use Rattle.store_check.proofs.Said.{said_sized}
use Rattle.store.proofs.Demands.Kept.{a_mode}
use Rattle.batch.specs.Batch.{runs, GoodRuns, batch_table}
use Rattle.batch.proofs.tender.put_all.Goals as goal

pub returns-in_err-z : goal.returns-in_err-z
unfolding batch_table
returns-in_err-z c =
    let p = err_from_is_err_and c.from_residual.result c.from_residual.ensures.1 in
    let said = c.in_err-z.ensures in
    inl (tt, (said.1, length_refused (λ o. (o, (c.args.s.now, c.args.answers.now))) _ _ (p.1 ∙ ap Err p.2) said.0))

pub returns-then-not-good_runs : goal.returns-then-not-good_runs
unfolding batch_table
returns-then-not-good_runs c =
    let said = c.in_ok-z.ensures in
    own_size c.args.s.now c.in_ok-z.z said (λ S. batch_table S fnv c.args.s.now (runs c.args.codes.now c.args.lengths.now c.args.places.now c.args.answers.now) c.args.mode) _
    (inr ((λ _ n. n said.1), inl (tt, (says_false {P = GoodRuns (runs c.args.codes.now c.args.lengths.now c.args.places.now c.args.answers.now)} c.good_runs.result c.if-not-good_runs.true c.good_runs.ensures, refl))))

pub returns-then-mode-gt2 : goal.returns-then-mode-gt2
unfolding batch_table
returns-then-mode-gt2 c =
    let said = c.in_ok-z.ensures in
    own_size c.args.s.now c.in_ok-z.z said (λ S. batch_table S fnv c.args.s.now (runs c.args.codes.now c.args.lengths.now c.args.places.now c.args.answers.now) c.args.mode) _
    (inr ((λ _ n. n said.1), inr ((λ _ n. n (says_true {P = GoodRuns (runs c.args.codes.now c.args.lengths.now c.args.places.now c.args.answers.now)} c.good_runs.result c.if-not-good_runs.false c.good_runs.ensures)), inl (tt, (c.if-mode-gt2.true, refl)))))

pub returns-in_err-accept : goal.returns-in_err-accept
unfolding batch_table
returns-in_err-accept c =
    let p = err_from_is_err_and c.from_residual-in_err-accept.result c.from_residual-in_err-accept.ensures.1 in
    let said = c.in_ok-z.ensures in
    let bad = c.in_err-accept.ensures in
    own_size c.args.s.now c.in_ok-z.z said (λ S. batch_table S fnv c.args.s.now (runs c.args.codes.now c.args.lengths.now c.args.places.now c.args.answers.now) c.args.mode) _
    (inr ((λ _ n. n said.1), inr ((λ _ n. n (says_true {P = GoodRuns (runs c.args.codes.now c.args.lengths.now c.args.places.now c.args.answers.now)} c.good_runs.result c.if-not-good_runs.false c.good_runs.ensures)), inr ((λ _ l. omega (arith, l, c.if-mode-gt2.false)), inl (bad.0, (bad.2, page_refused (λ o. (o, (c.args.s.now, c.args.answers.now))) _ _ (p.1 ∙ ap Err p.2) _ bad.1))))))

pub put_each-requires : goal.put_each-requires
put_each-requires c = (record { sized = said_sized c.args.s.now c.in_ok-z.z c.in_ok-z.ensures.0; accepted = c.in_ok-accept.ensures; mode = a_mode c.args.mode (λ l. omega (arith, l, c.if-mode-gt2.false)) }, says_true {P = GoodRuns (runs c.args.codes.now c.args.lengths.now c.args.places.now c.args.answers.now)} c.good_runs.result c.if-not-good_runs.false c.good_runs.ensures)

pub returns : goal.returns
unfolding batch_table
returns c =
    let said = c.in_ok-z.ensures in
    let a = c.in_ok-accept.ensures in
    own_size c.args.s.now c.in_ok-z.z said (λ S. batch_table S fnv c.args.s.now (runs c.args.codes.now c.args.lengths.now c.args.places.now c.args.answers.now) c.args.mode) _
    (inr ((λ _ n. n said.1), inr ((λ _ n. n (says_true {P = GoodRuns (runs c.args.codes.now c.args.lengths.now c.args.places.now c.args.answers.now)} c.good_runs.result c.if-not-good_runs.false c.good_runs.ensures)), inr ((λ _ l. omega (arith, l, c.if-mode-gt2.false)), inr (accepted_whole _ fnv _ a, (a, (refl, c.put_each.ensures)))))))
