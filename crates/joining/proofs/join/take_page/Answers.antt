-- The page's rows go, then the page is cleared.
use Rattle.std.proofs.Common.{◌≡◌, ℕ, ◌+◌, ◌-◌, ◌*◌, ◌≤◌, List, ◌++◌, length, get_or, take, drop, replicate, sym, ap, subst, ◌∙◌, arith}
use Rattle.ground.specs.Lists.{byte}
use Rattle.page.specs.Page.{depth}
use Rattle.partition.specs.declared.Shape.{Shape}
use Rattle.store.specs.Pages.{size, page, contents, set_page}
use Rattle.store.proofs.Paging.Depths.{page_byte}
use Rattle.store.proofs.Paging.Views.{page_lent, page_back}
use Rattle.counts.specs.Tallies.{BucketsCounted, one_less}
use Rattle.joining.specs.Join.{PageTaking}
use Rattle.joining.proofs.Prefixes.{page_whole, page_below}
use Rattle.joining.proofs.Empties.{page_gone}
use Rattle.joining.proofs.join.take_page.Goals as goal

-- the page by the size z that was worked out, and its bucket no longer counted
module _ (S : Shape) (s : List ℕ) (p : ℕ) (tallies to key : List ℕ) (z : ℕ) (e : z ≡ size S) (q : PageTaking S to s p key) (B : BucketsCounted (contents S s) tallies) where
  lent : take (p * z + z - p * z) (drop (p * z) s) ≡ page S s p
  lent = subst (λ n. take (p * n + n - p * n) (drop (p * n) s) ≡ page S s p) (sym e) (page_lent S s p)

  deep : depth (page S s p) ≡ byte s (p * z + 1)
  deep = page_byte S s p 1 (omega arith) ∙ ap (λ n. byte s (p * n + 1)) (sym e)

  without : (1 ≤ get_or tallies (1 + depth (page S s p)) 0) × BucketsCounted (contents S (set_page S s p (replicate (size S) 0))) (one_less tallies (1 + depth (page S s p)))
  without = page_gone S s p q.from (page_below S s p q.there) q.slots q.shallow tallies B

  wrote : (g : List ℕ) → g ≡ replicate (length (take (p * z + z - p * z) (drop (p * z) s))) 0 → take (p * z) s ++ (g ++ drop (p * z + z - p * z) (drop (p * z) s)) ≡ set_page S s p (replicate (size S) 0)
  wrote g f =
      page_back S s g p (p * z) (p * z + z) (ap (λ n. p * n) e) (ap (λ n. p * z + n) e)
      ∙ ap (set_page S s p) (f ∙ ap (λ y. replicate (length y) 0) lent ∙ ap (λ n. replicate n 0) (page_whole S s p q.there))

pub count_down-requires : goal.count_down-requires
count_down-requires c =
    let a = c.args in
    let d = deep a.z a.s.now a.p a.tallies.now a.to.now a.key.now c.size-size.result c.size-size.ensures c.requires.0 c.requires.1 in
    (omega (arith, d, c.requires.0.shallow, c.requires.1.long), subst (λ k. 1 ≤ get_or a.tallies.now (1 + k) 0) d (without a.z a.s.now a.p a.tallies.now a.to.now a.key.now c.size-size.result c.size-size.ensures c.requires.0 c.requires.1).0)

pub add_rows-requires : goal.add_rows-requires
add_rows-requires c = rw c.page_at.ensures (c.requires.0.slots, c.requires.0.room)

pub returns-clause-gathered : goal.returns-clause-gathered
returns-clause-gathered c = rw c.page_at.ensures at c.add_rows.ensures

pub returns-clause-wrote : goal.returns-clause-wrote
returns-clause-wrote c = let a = c.args in wrote a.z a.s.now a.p a.tallies.now a.to.now a.key.now c.size-size.result c.size-size.ensures c.requires.0 c.requires.1 c.clear_page.new.page c.clear_page.ensures

pub returns-clause-counted : goal.returns-clause-counted
returns-clause-counted c =
    let a = c.args in
    let l = c.count_down.new.tallies in
    subst (λ y. BucketsCounted (contents a.z y) l) (sym (wrote a.z a.s.now a.p a.tallies.now a.to.now a.key.now c.size-size.result c.size-size.ensures c.requires.0 c.requires.1 c.clear_page.new.page c.clear_page.ensures))
    (subst (BucketsCounted (contents a.z (set_page a.z a.s.now a.p (replicate (size a.z) 0)))) (sym (c.count_down.ensures ∙ ap (λ d. one_less a.tallies.now (1 + d)) (sym (deep a.z a.s.now a.p a.tallies.now a.to.now a.key.now c.size-size.result c.size-size.ensures c.requires.0 c.requires.1)))) (without a.z a.s.now a.p a.tallies.now a.to.now a.key.now c.size-size.result c.size-size.ensures c.requires.0 c.requires.1).1)
