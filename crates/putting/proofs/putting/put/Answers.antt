-- A put is refused 1, 3, 4, 14 or 2; then it is that of an accepted store, by its mode.
use Rattle.std.proofs.Common.{ap, refl, ◌∙◌, arith}
use mathlib.Core.Logic.{inl, inr}
use Rattle.std.proofs.lemmas.Result.{err_from_is_err_and}
use Rattle.std.specs.Prelude.{Err}
use Rattle.ground.proofs.Tests.{says_true, says_false}
use Rattle.hash.specs.Fnv.{fnv}
use Rattle.store.proofs.Accepted.Rules.{accepted_whole}
use Rattle.store_check.proofs.Doors.{length_refused, page_refused, own_size}
use Rattle.store_check.proofs.Said.{said_sized}
use Rattle.words.specs.Codes.{GoodCode}
use Rattle.page.specs.Places.{Negative}
use Rattle.store.specs.Tables.{put_table}
use Rattle.store.proofs.Demands.Kept.{three, no_three}
use Rattle.putting.proofs.putting.put.Goals as goal

pub returns-in_err-z : goal.returns-in_err-z
unfolding put_table
returns-in_err-z c =
    let p = err_from_is_err_and c.from_residual.result c.from_residual.ensures.1 in
    let said = c.in_err-z.ensures in
    inl (tt, (said.1, length_refused (λ o. (o, c.args.s.now)) _ _ (p.1 ∙ ap Err p.2) said.0))

pub returns-then-not-good_code : goal.returns-then-not-good_code
unfolding put_table
returns-then-not-good_code c =
    let said = c.in_ok-z.ensures in
    own_size c.args.s.now c.in_ok-z.z said (λ S. put_table S fnv c.args.s.now c.args.key.now c.args.place c.args.mode) _
    (inr ((λ _ n. n said.1), inl (tt, (three c.args.key.now (says_false {P = GoodCode c.args.key.now} c.good_code.result c.if-not-good_code.true c.good_code.ensures), refl))))

pub returns-then-negative : goal.returns-then-negative
unfolding put_table
returns-then-negative c =
    let said = c.in_ok-z.ensures in
    own_size c.args.s.now c.in_ok-z.z said (λ S. put_table S fnv c.args.s.now c.args.key.now c.args.place c.args.mode) _
    (inr ((λ _ n. n said.1), inr ((λ _ r. no_three _ (says_true {P = GoodCode c.args.key.now} c.good_code.result c.if-not-good_code.false c.good_code.ensures) r), inl (tt, (says_true {P = Negative c.args.place} c.negative.result c.if-negative.true c.negative.ensures, refl)))))

pub returns-then-mode-gt2 : goal.returns-then-mode-gt2
unfolding put_table
returns-then-mode-gt2 c =
    let said = c.in_ok-z.ensures in
    own_size c.args.s.now c.in_ok-z.z said (λ S. put_table S fnv c.args.s.now c.args.key.now c.args.place c.args.mode) _
    (inr ((λ _ n. n said.1), inr ((λ _ r. no_three _ (says_true {P = GoodCode c.args.key.now} c.good_code.result c.if-not-good_code.false c.good_code.ensures) r), inr ((λ _ n. (says_false {P = Negative c.args.place} c.negative.result c.if-negative.false c.negative.ensures) n), inl (tt, (c.if-mode-gt2.true, refl))))))

pub returns-in_err-accept : goal.returns-in_err-accept
unfolding put_table
returns-in_err-accept c =
    let p = err_from_is_err_and c.from_residual-in_err-accept.result c.from_residual-in_err-accept.ensures.1 in
    let said = c.in_ok-z.ensures in
    let bad = c.in_err-accept.ensures in
    own_size c.args.s.now c.in_ok-z.z said (λ S. put_table S fnv c.args.s.now c.args.key.now c.args.place c.args.mode) _
    (inr ((λ _ n. n said.1), inr ((λ _ r. no_three _ (says_true {P = GoodCode c.args.key.now} c.good_code.result c.if-not-good_code.false c.good_code.ensures) r), inr ((λ _ n. (says_false {P = Negative c.args.place} c.negative.result c.if-negative.false c.negative.ensures) n), inr ((λ _ l. omega (arith, l, c.if-mode-gt2.false)), inl (bad.0, (bad.2, page_refused (λ o. (o, c.args.s.now)) _ _ (p.1 ∙ ap Err p.2) _ bad.1)))))))

pub put_allowed-requires : goal.put_allowed-requires
put_allowed-requires c = record {
  sized = said_sized c.args.s.now c.in_ok-z.z c.in_ok-z.ensures.0;
  accepted = c.in_ok-accept.ensures;
  good = says_true {P = GoodCode c.args.key.now} c.good_code.result c.if-not-good_code.false c.good_code.ensures;
  natural = says_false {P = Negative c.args.place} c.negative.result c.if-negative.false c.negative.ensures;
}

pub returns : goal.returns
unfolding put_table
returns c =
    let said = c.in_ok-z.ensures in
    let a = c.in_ok-accept.ensures in
    own_size c.args.s.now c.in_ok-z.z said (λ S. put_table S fnv c.args.s.now c.args.key.now c.args.place c.args.mode) _
    (inr ((λ _ n. n said.1), inr ((λ _ r. no_three _ (says_true {P = GoodCode c.args.key.now} c.good_code.result c.if-not-good_code.false c.good_code.ensures) r), inr ((λ _ n. (says_false {P = Negative c.args.place} c.negative.result c.if-negative.false c.negative.ensures) n), inr ((λ _ l. omega (arith, l, c.if-mode-gt2.false)), inr (accepted_whole _ fnv _ a, (a, c.put_allowed.ensures)))))))
