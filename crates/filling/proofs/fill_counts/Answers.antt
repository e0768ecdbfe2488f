-- Filling is refused 1 by the length, or 2 with the page that the old rules name; else page 0 gets its counts.
use Rattle.std.proofs.Common.{◌≡◌, List, ℕ, ap, refl, subst, ◌∙◌}
use mathlib.Core.Logic.{inl, inr}
use Rattle.std.proofs.lemmas.Result.{err_from_is_err_and}
use Rattle.std.specs.Prelude.{Err, None}
use Rattle.hash.specs.Fnv.{fnv}
use Rattle.partition.specs.declared.Shape.{Shape}
use Rattle.store.specs.Accepted.{GoodLength, AcceptedBefore, BrokenBefore, rules_before}
use Rattle.store_check.specs.First.{JudgedBefore}
use Rattle.store_check.proofs.Doors.{length_refused, own_size}
use Rattle.store_check.proofs.Said.{said_sized}
use Rattle.filling.specs.Filling.{fill_table}
use Rattle.filling.proofs.OldRules.{before_whole, before_settling}
use Rattle.filling.proofs.fill_counts.Goals as goal

pub returns-in_err-z : goal.returns-in_err-z
unfolding fill_table
returns-in_err-z c =
    let p = err_from_is_err_and c.from_residual.result c.from_residual.ensures.1 in
    let said = c.in_err-z.ensures in
    inl (tt, (said.1, length_refused (λ o. (o, c.args.s.now)) _ _ (p.1 ∙ ap Err p.2) said.0))

pub returns-in-Some : goal.returns-in-Some
unfolding fill_table BrokenBefore rules_before
returns-in-Some c =
    let said = c.in_ok-z.ensures in
    let bad = c.in-Some.ensures in
    own_size c.args.s.now c.in_ok-z.z said (λ S. fill_table S fnv c.args.s.now) _
    (inr ((λ _ n. n said.1), inl (c.in-Some.p, (bad.1, refl))))

-- what is known where no page breaks the old rules
met_old : (z : Shape) (s : List ℕ) → GoodLength z s → JudgedBefore z fnv s None → AcceptedBefore z fnv s
unfolding rules_before
met_old z s l k = record { long = l; keeps = k }

pub recount-requires : goal.recount-requires
recount-requires c = (
  said_sized c.args.s.now c.in_ok-z.z c.in_ok-z.ensures.0,
  before_settling c.in_ok-z.z fnv c.args.s.now (met_old c.in_ok-z.z c.args.s.now c.in_ok-z.ensures.1 (subst (JudgedBefore c.in_ok-z.z fnv c.args.s.now) c.in_default.is c.first_bad_before.ensures)),
)

pub returns : goal.returns
unfolding fill_table
returns c =
    let s = c.args.s.now in
    let z = c.in_ok-z.z in
    let said = c.in_ok-z.ensures in
    let met = met_old z s said.1 (subst (JudgedBefore z fnv s) c.in_default.is c.first_bad_before.ensures) in
    own_size s z said (λ S. fill_table S fnv s) _
    (inr ((λ _ n. n said.1), inr (before_whole z fnv s met, (met, (refl, record { byte_size = λ i. (c.type_inv.s i).fits; old = c.recount.ensures.old; counts = c.recount.ensures.counts })))))
