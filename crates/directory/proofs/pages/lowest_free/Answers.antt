-- No page passed is free, and the free page that is there is not passed.
use Rattle.std.proofs.Common.{◌≡◌, ℕ, List, ◌+◌, ◌*◌, ◌≤◌, ◌<◌, length, sym, subst, arith}
use Rattle.ground.specs.Lists.{byte}
use Rattle.partition.specs.declared.Shape.{Shape}
use Rattle.store.specs.Moves.{find, is_free, frees}
use Rattle.store.specs.Pages.{size, contents}
use Rattle.directory.proofs.Frees.{found_there, page_there, passed, lowest}
use Rattle.directory.proofs.pages.lowest_free.Goals as goal

-- the page looked at lies in the store, by the size that was worked out
there : (S : Shape) (s : List ℕ) → 0 < frees (contents S s) → (p : ℕ) → 2 ≤ p → p ≤ 2 + find is_free (contents S s) → (n : ℕ) → n ≡ size S → p * n + n ≤ length s
there S s f p a b n e = subst (λ m. p * m + m ≤ length s) (sym e) (page_there S s f p a b)

pub size-requires : goal.size-requires
size-requires c = let v = c.loop-p.invariant in omega (arith, page_there c.args.z c.args.s.now c.requires c.loop-p.p v.0 v.1)

pub overflow_mul-p : goal.overflow_mul-p
overflow_mul-p c = let v = c.loop-p.invariant in omega (arith, there c.args.z c.args.s.now c.requires c.loop-p.p v.0 v.1 c.size.result c.size.ensures)

pub bounds-s-p : goal.bounds-s-p
bounds-s-p c = let v = c.loop-p.invariant in omega (arith, there c.args.z c.args.s.now c.requires c.loop-p.p v.0 v.1 c.size.result c.size.ensures, c.size.ensures)

pub overflow_add-p : goal.overflow_add-p
overflow_add-p c = let v = c.loop-p.invariant in omega (arith, page_there c.args.z c.args.s.now c.requires c.loop-p.p v.0 v.1)

pub loop-p-smaller : goal.loop-p-smaller
loop-p-smaller c = omega (arith, found_there c.args.z c.args.s.now c.requires, c.loop-p.invariant.1)

pub loop-p-preserved : goal.loop-p-preserved
loop-p-preserved c =
    let l = c.loop-p in
    (omega arith, passed c.args.z c.args.s.now c.requires l.p l.invariant.0 l.invariant.1 (λ u. c.loop-p-test.true (subst (λ m. byte c.args.s.now (l.p * m) ≡ 0) (sym c.size.ensures) u)))

pub returns : goal.returns
returns c =
    let l = c.loop-p in
    (lowest c.args.z c.args.s.now c.requires l.p l.invariant.0 l.invariant.1 (subst (λ m. byte c.args.s.now (l.p * m) ≡ 0) c.size.ensures c.loop-p-test.false), omega (arith, found_there c.args.z c.args.s.now c.requires, l.invariant.1))
