-- The run of zeros, by the size that was worked out.
use Rattle.std.proofs.Common.{◌≡◌, ◌*◌, ◌/◌, get_or, subst}
use Rattle.words.specs.Zeros.{ZeroRun}
use Rattle.store_check.specs.First.{FirstFrom}
use Rattle.store_check.proofs.Skips.{skipped}
use Rattle.store_check.proofs.pages.skip_free.Goals as goal

pub returns : goal.returns
returns c =
    let a = c.args in
    let e = c.zeros_end.result in
    let by = c.size-size.ensures in
    skipped a.z a.s.now a.counts.now a.p c.requires e (subst (λ n. ZeroRun a.s.now (a.p * n) e) by c.zeros_end.ensures)
    (subst (λ n. FirstFrom a.p (e / n) (λ k. get_or a.counts.now k 0 ≡ 0) c.first_named.result) by c.first_named.ensures)
