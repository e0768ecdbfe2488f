use Rattle.std.proofs.Common.{◌≡◌, sym, ◌∙◌, ◌↔◌, ℕ, suc, ◌+◌, ◌*◌, ◌-◌, ◌^◌, ◌≤◌, ◌<◌, List, get_or, arith, ap, subst}
use Rattle.ground.specs.Lists.{byte}
use Rattle.ground.proofs.Tests.{says_ltb}
use Rattle.hash.specs.Fnv.{fnv}
use Rattle.page.specs.Page.{depth}
use Rattle.partition.specs.Bits.{top}
use Rattle.partition.specs.declared.Shape.{Shape}
use Rattle.partition.specs.Partition.{first, after}
use Rattle.partition.proofs.Tree.{pfx}
use Rattle.partition.proofs.Sizes.{twelve}
use Rattle.store.specs.Accepted.{Parted}
use Rattle.store.specs.Pages.{size, page, pages}
use Rattle.store.proofs.Paging.Depths.{page_byte}
use Rattle.store_check.specs.Digest.{Digested}
use Rattle.store_check.proofs.Parting.{depth_most, parted_flat, sums_rise, parted_by}
use Rattle.store_check.proofs.parted.parted_ok.Goals as goal

-- a page's depth stands in the store
depth_there : (S : Shape) (s : List ℕ) (p z : ℕ) → z ≡ size S → depth (page S s p) ≡ byte s (p * z + 1)
depth_there S s p z e = page_byte S s p 1 (omega arith) ∙ ap (λ n. byte s (p * n + 1)) (sym e)

pub returns-then-d-eq0 : goal.returns-then-d-eq0
returns-then-d-eq0 c =
    let a = c.args in
    parted_flat a.z a.s.now _ c.requires.stand a.p c.requires.from c.requires.to (depth_there a.z a.s.now a.p c.size.result c.size.ensures ∙ c.if-d-eq0.true)

pub overflow_cast-z : goal.overflow_cast-z
overflow_cast-z c = record { fits = omega (arith, twelve c.args.z c.requires.stand.sized) }

pub run_of-run-requires : goal.run_of-run-requires
run_of-run-requires c =
    let a = c.args in
    let low : byte a.s.now (a.p * c.size.result + 1) ≤ a.z.deepest = subst (λ n. byte a.s.now (a.p * n + 1) ≤ a.z.deepest) (sym c.size.ensures) (depth_most a.z a.s.now _ a.p c.requires.stand c.requires.from c.requires.to) in
    (omega (arith, low), twelve a.z c.requires.stand.sized)

-- the run of the prefix one bit shorter, from a up to b
module _ (S : Shape) (s hashes sums : List ℕ) (p z a b : ℕ) (q : Digested S s hashes sums p) (e : z ≡ size S) (some : byte s (p * z + 1) ≡ 0 → ⊥)
    (begins : a ≡ first S.deepest (pfx (byte s (p * z + 1) - 1) (top (byte s (p * z + 1) - 1) (get_or hashes p 0))))
    (ends : b ≡ after S.deepest (pfx (byte s (p * z + 1) - 1) (top (byte s (p * z + 1) - 1) (get_or hashes p 0)))) (up : a ≤ b) (most : b ≤ 2 ^ S.deepest) where
  shorter : suc (byte s (p * z + 1) - 1) ≡ depth (page S s p)
  shorter = omega (arith, some, depth_there S s p z e)

  within : b ≤ S.entries
  within = omega (arith, most, q.stand.sized.deep)

  rise : get_or sums a 0 ≤ get_or sums b 0
  rise = sums_rise S s (pages S s) q.stand p q.from q.to hashes sums q.digest a b _ shorter begins ends within up

  rule : (S.capacity < get_or sums b 0 - get_or sums a 0) ↔ Parted S fnv s p
  rule = parted_by S s (pages S s) q.stand p q.from q.to hashes sums q.digest a b _ shorter begins ends within up

pub overflow_sub-result : goal.overflow_sub-result
overflow_sub-result c =
    let a = c.args in
    let e = c.run_of-run.ensures in
    rise a.z a.s.now a.hashes.now a.sums.now a.p c.size.result _ _ c.requires c.size.ensures c.if-d-eq0.false e.0 e.1 e.2 e.3

pub returns : goal.returns
returns c =
    let a = c.args in
    let e = c.run_of-run.ensures in
    let r = rule a.z a.s.now a.hashes.now a.sums.now a.p c.size.result _ _ c.requires c.size.ensures c.if-d-eq0.false e.0 e.1 e.2 e.3 in
    says_ltb a.z.capacity _ r.0 r.1
