-- `page_check::shares` meets its contract. Assumes nothing.
use mathlib.Core.Path.{◌≡◌}
use borrow.Author.Rules.{rules}
use Rattle.ground.proofs.Tests.{says_leb}
use Rattle.partition.proofs.Bits as bits
use Rattle.partition.specs.Bits.{top}
use Rattle.page_check.proofs.shares.Statement.{statement}
use Rattle.page_check.proofs.shares.Tie as tie

shared-bits-requires : tie.Need-shared_bits-requires
shared-bits-requires c κs = search rules

returns : tie.Need-returns
returns c =
    let s = c in
    let a = s.args in
    let l = bits.shares a.first a.x a.k s.ranges.first.fits s.ranges.x.fits s.requires in
    let e = c.shared_bits.ensures in
    says_leb {P = top a.k a.first ≡ top a.k a.x} a.k c.shared_bits.result (λ h. l.1 (rw e at h)) (λ h. rw e (l.0 h))

pub shares_spec : {M : Type 1} → statement M
shares_spec = tie.close (tie.spec shared-bits-requires returns)
