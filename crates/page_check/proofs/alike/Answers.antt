use Rattle.std.proofs.Common.{◌≡◌, ◌<◌, subst, sym, ◌∙◌, bit_xor, arith}
use Rattle.ground.proofs.Tests.{says_same}
use Rattle.hash.specs.Fnv.{fnv}
use Rattle.page.specs.Page.{count, code}
use Rattle.page_check.proofs.Prefixes.{Ored, ored_near, ored_more, top_zero}
use Rattle.page_check.proofs.alike.Goals as goal

pub loop-i-init : goal.loop-i-init
loop-i-init c = ored_near _ c.requires.bits _ _ _ c.requires.hash (λ i h l. subst (λ m. bit_xor c.args.first (fnv (code c.args.page.now i)) < m) c.share_limit.ensures (c.near_by_twos-i.ensures.near i h l))

pub loop-i-preserved : goal.loop-i-preserved
loop-i-preserved c = rw c.hash_slot.ensures (ored_more _ c.requires.bits _ _ _ _ c.loop-i.invariant)

pub returns : goal.returns
returns c =
    let a = c.args in
    let l = c.loop-i in
    let e : l.i ≡ count a.page.now = omega (arith, c.get16-n.ensures.0, c.near_by_twos-i.ensures.within) in
    let o : Ored a.k (λ j. fnv (code a.page.now j)) a.first (count a.page.now) l.acc = rw e at l.invariant in
    let z = top_zero a.k c.requires.bits in
    says_same c.shares.result c.shares.ensures (λ t. rw c.requires.hash at (o.so (sym t ∙ z))) (λ h. z ∙ sym (o.back (rw c.requires.hash h)))
