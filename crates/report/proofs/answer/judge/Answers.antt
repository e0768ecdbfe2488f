-- A report over numbers is refused 1, 10 or 2; then it is told over the listing.
use Rattle.std.proofs.Common.{◌≡◌, List, ℕ, ◌≤◌, ◌+◌, ◌-◌, ◌*◌, ap, refl, sym, subst, ◌∙◌, length, take, drop, replicate, arith}
use mathlib.Core.Logic.{inl, inr}
use Rattle.std.proofs.lemmas.Result.{err_from_is_err_and}
use Rattle.std.specs.Prelude.{Err}
use Rattle.ground.proofs.Tests.{says_true, says_false}
use Rattle.hash.specs.Fnv.{fnv}
use Rattle.partition.specs.Listing.{listing}
use Rattle.store.specs.Pages.{rows_held}
use Rattle.store.specs.Tables.{refusal}
use Rattle.store.proofs.Accepted.Rules.{accepted_whole}
use Rattle.store_check.proofs.Doors.{own_size}
use Rattle.store_check.proofs.Said.{said_sized}
use Rattle.partition.specs.Partition.{Row}
use Rattle.report.specs.Report.{Reported, limit, other, reported}
use Rattle.report.specs.Numbers.{Sound, SoundSheet, ToldBy, ranks_of, raised_of, numbers_table}
use Rattle.report.proofs.Tells.{ranks_length, raised_length, raised_is}
use Rattle.report.proofs.answer.judge.Goals as goal

-- the two halves of the numbers, as they are lent
module _ (flat : List ℕ) (n : ℕ) (two : length flat ≡ 2 * limit) (few : n ≤ limit) where
  raised_here : take ((limit + n) - limit) (drop limit flat) ≡ raised_of flat n
  raised_here = raised_is flat n two few

  ranks_here : length (ranks_of flat n) ≡ n
  ranks_here = ranks_length flat n two few

  same_long : length (raised_of flat n) ≡ length (ranks_of flat n)
  same_long = raised_length flat n two few ∙ sym ranks_here

  halves : Sound (ranks_of flat n) (take ((limit + n) - limit) (drop limit flat)) → Sound (ranks_of flat n) (raised_of flat n)
  halves x = subst (Sound (ranks_of flat n)) raised_here x

  sheet_of : Sound (ranks_of flat n) (raised_of flat n) → SoundSheet (ranks_of flat n) (take ((limit + n) - limit) (drop limit flat))
  sheet_of x = subst (SoundSheet (ranks_of flat n)) (sym raised_here) (record { sound = x; paired = same_long; most = omega (arith, ranks_here, few) })

  told_of : (rs : List Row) (r : Reported) → ToldBy (ranks_of flat n) (take ((limit + n) - limit) (drop limit flat)) rs (replicate (length (ranks_of flat n)) 0) r → ToldBy (ranks_of flat n) (raised_of flat n) rs (replicate n 0) r
  told_of rs r x = subst (λ ls. ToldBy (ranks_of flat n) ls rs (replicate n 0) r) raised_here (subst (λ m. ToldBy (ranks_of flat n) (take ((limit + n) - limit) (drop limit flat)) rs (replicate m 0) r) ranks_here x)

pub returns-in_err-z : goal.returns-in_err-z
unfolding numbers_table
returns-in_err-z c =
    let p = err_from_is_err_and c.from_residual.result c.from_residual.ensures.1 in
    let said = c.in_err-z.ensures in
    inl (tt, (said.1, ap reported p.1 ∙ ap (λ e. reported (Err e)) p.2 ∙ ap (λ r. other (refusal r)) said.0))

pub returns-then-n-gt-LIMIT : goal.returns-then-n-gt-LIMIT
unfolding numbers_table
returns-then-n-gt-LIMIT c =
    let said = c.in_ok-z.ensures in
    own_size c.args.s.now c.in_ok-z.z said (λ S. numbers_table S fnv c.args.s.now c.args.flat.now c.args.n) _
    (inr ((λ _ n. n said.1), inl (tt, ((λ h. omega (arith, h.0, c.if-n-gt-LIMIT.true)), refl))))

pub returns-then-not-sound : goal.returns-then-not-sound
unfolding numbers_table
returns-then-not-sound c =
    let said = c.in_ok-z.ensures in
    let bad = says_false {P = Sound (ranks_of c.args.flat.now c.args.n) (take ((limit + c.args.n) - limit) (drop limit c.args.flat.now))} c.sound.result c.if-not-sound.true c.sound.ensures in
    own_size c.args.s.now c.in_ok-z.z said (λ S. numbers_table S fnv c.args.s.now c.args.flat.now c.args.n) _
    (inr ((λ _ n. n said.1), inl (tt, ((λ h. bad (subst (Sound (ranks_of c.args.flat.now c.args.n)) (sym (raised_here c.args.flat.now c.args.n c.requires c.if-n-gt-LIMIT.false)) h.1)), refl))))

pub returns-in_err-accept : goal.returns-in_err-accept
unfolding numbers_table
returns-in_err-accept c =
    let p = err_from_is_err_and c.from_residual-in_err-accept.result c.from_residual-in_err-accept.ensures.1 in
    let said = c.in_ok-z.ensures in
    let bad = c.in_err-accept.ensures in
    let good = halves c.args.flat.now c.args.n c.requires c.if-n-gt-LIMIT.false (says_true {P = Sound (ranks_of c.args.flat.now c.args.n) (take ((limit + c.args.n) - limit) (drop limit c.args.flat.now))} c.sound.result c.if-not-sound.false c.sound.ensures) in
    own_size c.args.s.now c.in_ok-z.z said (λ S. numbers_table S fnv c.args.s.now c.args.flat.now c.args.n) _
    (inr ((λ _ n. n said.1), inr ((λ _ x. x (c.if-n-gt-LIMIT.false, good)), ((c.if-n-gt-LIMIT.false, good), inl (bad.0, (bad.2, ap reported p.1 ∙ ap (λ e. reported (Err e)) p.2 ∙ ap (λ r. other (refusal r)) bad.1))))))

pub told_fresh-requires : goal.told_fresh-requires
told_fresh-requires c = record {
  sized = said_sized c.args.s.now c.in_ok-z.z c.in_ok-z.ensures.0;
  accepted = c.in_ok-accept.ensures;
  sheet = sheet_of c.args.flat.now c.args.n c.requires c.if-n-gt-LIMIT.false (halves c.args.flat.now c.args.n c.requires c.if-n-gt-LIMIT.false (says_true {P = Sound (ranks_of c.args.flat.now c.args.n) (take ((limit + c.args.n) - limit) (drop limit c.args.flat.now))} c.sound.result c.if-not-sound.false c.sound.ensures));
}

pub returns : goal.returns
unfolding numbers_table
returns c =
    let said = c.in_ok-z.ensures in
    let a = c.in_ok-accept.ensures in
    let good = halves c.args.flat.now c.args.n c.requires c.if-n-gt-LIMIT.false (says_true {P = Sound (ranks_of c.args.flat.now c.args.n) (take ((limit + c.args.n) - limit) (drop limit c.args.flat.now))} c.sound.result c.if-not-sound.false c.sound.ensures) in
    let z = c.in_ok-z.z in
    own_size c.args.s.now z said (λ S. numbers_table S fnv c.args.s.now c.args.flat.now c.args.n) _
    (inr ((λ _ n. n said.1), inr ((λ _ x. x (c.if-n-gt-LIMIT.false, good)), ((c.if-n-gt-LIMIT.false, good), inr (accepted_whole z fnv _ a, (a, told_of c.args.flat.now c.args.n c.requires c.if-n-gt-LIMIT.false (listing z fnv (rows_held z c.args.s.now)) _ c.told_fresh.ensures))))))
