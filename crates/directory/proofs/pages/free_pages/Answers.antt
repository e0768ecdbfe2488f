-- `directory::free_pages` meets its contract: those counted and those left are all. Assumes nothing.
use Rattle.std.proofs.Common.{◌≡◌, ℕ, List, ◌+◌, ◌-◌, ◌*◌, ◌/◌, ◌≤◌, ◌<◌, length, arith, sym, ap, subst, ◌∙◌}
use Rattle.ground.specs.Lists.{byte}
use native.Mathlib.Nat.{mul-div_cancel}
use Rattle.partition.specs.declared.Shape.{Shape}
use Rattle.store.specs.Pages.{size, pages, contents}
use Rattle.store.proofs.Paging.Views.{apart}
use Rattle.store.proofs.Showing.Showing.{pages_held}
use Rattle.directory.proofs.Frees.{free_more, used_more, frees_end}
use Rattle.directory.proofs.pages.free_pages.Goals.{then-s-p-eq0, else-s-p-eq0}
use Rattle.directory.proofs.pages.free_pages.Goals as goal

module _ (S : Shape) (s : List ℕ) (n p : ℕ) (long : length s ≡ n * size S) (l : p < n) where
  -- the page looked at lies in the store, by the size that was worked out
  there : (z : ℕ) → z ≡ size S → p * z + z ≤ length s
  there z e = let m : p * size S + size S ≤ length s = omega (arith, long, apart (size S) p n l) in subst (λ z. p * z + z ≤ length s) (sym e) m

many_pages : (S : Shape) (s : List ℕ) (n : ℕ) → length s ≡ n * size S → pages S s ≡ n
many_pages S s n long = ap (λ m. m / size S) long ∙ mul-div_cancel n (omega arith)

pub overflow_mul-p : goal.overflow_mul-p
overflow_mul-p c = omega (arith, there c.args.z _ _ _ c.requires.0 c.loop-p-test.true c.size.result c.size.ensures)

pub bounds-s-p : goal.bounds-s-p
bounds-s-p c = omega (arith, there c.args.z _ _ _ c.requires.0 c.loop-p-test.true c.size.result c.size.ensures, c.size.ensures)

pub loop-p-preserved : goal.loop-p-preserved
loop-p-preserved c =
    let l = c.loop-p in
    let s = c.args.s.now in
    let many = many_pages c.args.z s c.args.n c.requires.0 in
    elim c.if-s-p-eq0.branch [
      | then-s-p-eq0 w ↦ (omega arith, omega arith, omega (arith, free_more c.args.z s l.p l.auto.p (omega (arith, many, c.loop-p-test.true)) (subst (λ m. byte s (l.p * m) ≡ 0) c.size.ensures w.if-s-p-eq0.true)))
      | else-s-p-eq0 w ↦ (omega arith, omega arith, omega (arith, used_more c.args.z s l.p l.auto.p (omega (arith, many, c.loop-p-test.true)) (λ u. w.if-s-p-eq0.false (subst (λ m. byte s (l.p * m) ≡ 0) (sym c.size.ensures) u))))
    ]

pub returns : goal.returns
returns c =
    let l = c.loop-p in
    let many = many_pages c.args.z c.args.s.now c.args.n c.requires.0 in
    let e = frees_end (contents c.args.z c.args.s.now) (l.p - 2) (omega (arith, many, pages_held c.args.z c.args.s.now, c.requires.1, l.auto.p-end c.requires.1)) in
    (omega (arith, e), omega (arith, l.auto.p-end c.requires.1))
