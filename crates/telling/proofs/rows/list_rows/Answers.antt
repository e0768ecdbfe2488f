use Rattle.std.proofs.Common.{◌≡◌, ◌+◌, ◌-◌, ◌≤◌, ◌<◌, length, subst, ◌∙◌, arith}
use Rattle.hash.specs.Fnv.{fnv}
use Rattle.partition.specs.Listing.{listing}
use Rattle.query.specs.Cursors.{Stepped}
use Rattle.report.proofs.Runs.{unlisted}
use Rattle.store.specs.Pages.{rows_held}
use Rattle.telling.proofs.Counting.{listing_counts}
use Rattle.telling.proofs.Lines.{run_within, at_further}
use Rattle.telling.proofs.rows.list_rows.Goals as goal

pub list_run-requires : goal.list_run-requires
list_run-requires g c =
    let st = subst (Stepped c.args.z c.args.s.now c.loop-i.i) c.in-Some.is (c.next_row.ensures c.loop-i.i c.loop-i.invariant.0) in
    record { here = st.0.0; along = st.2; room = omega (arith, c.loop-i.invariant.2, c.requires.1) }

pub overflow_add-i : goal.overflow_add-i
overflow_add-i g c =
    let st = subst (Stepped c.args.z c.args.s.now c.loop-i.i) c.in-Some.is (c.next_row.ensures c.loop-i.i c.loop-i.invariant.0) in
    let many : c.args.n ≡ length (listing c.args.z fnv (rows_held c.args.z c.args.s.now)) = c.requires.0.rows ∙ listing_counts c.args.z c.args.s.now c.requires.0.sized c.requires.0.accepted in
    let on : c.in-Some.spot.slot < c.in_ok-to.to = c.in_ok-to.ensures.some in
    let within : c.loop-i.i + (c.in_ok-to.to - c.in-Some.spot.slot) ≤ c.args.n = omega (arith, many, run_within c.args.z c.args.s.now c.loop-i.i c.in-Some.spot.page c.in-Some.spot.slot st.2 c.in_ok-to.to on c.in_ok-to.ensures.within) in
    omega (arith, within, c.ranges.n.fits)

pub loop-i-preserved : goal.loop-i-preserved
loop-i-preserved g c =
    let st = subst (Stepped c.args.z c.args.s.now c.loop-i.i) c.in-Some.is (c.next_row.ensures c.loop-i.i c.loop-i.invariant.0) in
    let many : c.args.n ≡ length (listing c.args.z fnv (rows_held c.args.z c.args.s.now)) = c.requires.0.rows ∙ listing_counts c.args.z c.args.s.now c.requires.0.sized c.requires.0.accepted in
    let on : c.in-Some.spot.slot < c.in_ok-to.to = c.in_ok-to.ensures.some in
    let within : c.loop-i.i + (c.in_ok-to.to - c.in-Some.spot.slot) ≤ c.args.n = omega (arith, many, run_within c.args.z c.args.s.now c.loop-i.i c.in-Some.spot.page c.in-Some.spot.slot st.2 c.in_ok-to.to on c.in_ok-to.ensures.within) in
    (at_further c.args.z c.args.s.now c.loop-i.i c.in-Some.spot.slot c.in_ok-to.to c.in-Some.next _ st.1 st.3 on c.further-c.ensures.0 c.further-c.ensures.1, within, c.in_ok-to.ensures.long ∙ c.loop-i.invariant.2)

pub returns-in_default : goal.returns-in_default
returns-in_default g c =
    let many : c.args.n ≡ length (listing c.args.z fnv (rows_held c.args.z c.args.s.now)) = c.requires.0.rows ∙ listing_counts c.args.z c.args.s.now c.requires.0.sized c.requires.0.accepted in
    let none = subst (Stepped c.args.z c.args.s.now c.loop-i.i) c.in_default.is (c.next_row.ensures c.loop-i.i c.loop-i.invariant.0) in
    absurd (omega (arith, many, unlisted (listing c.args.z fnv (rows_held c.args.z c.args.s.now)) c.loop-i.i none, c.loop-i-test.true))

pub returns : goal.returns
returns g c =
    let many : c.args.n ≡ length (listing c.args.z fnv (rows_held c.args.z c.args.s.now)) = c.requires.0.rows ∙ listing_counts c.args.z c.args.s.now c.requires.0.sized c.requires.0.accepted in
    omega (arith, c.loop-i.invariant.1, c.loop-i-test.false, many)
