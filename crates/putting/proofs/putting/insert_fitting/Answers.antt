-- The page with the row in, which needed no other page to work in where the room at the frontier was enough.
use Rattle.std.proofs.Common.{◌≡◌, refl, ℕ, ◌+◌, ◌*◌, ◌≤◌, List, length, arith}
use Rattle.hash.specs.Fnv.{fnv, fnv_lt}
use Rattle.page.specs.Page.{count, frontier}
use Rattle.page.specs.Packed.{Added}
use Rattle.page.specs.Steps.{Insertable}
use Rattle.partition.specs.declared.Shape.{Shape}
use Rattle.store.specs.Pages.{size, page}
use Rattle.store.proofs.Accepted.Unique.{page_long}
use Rattle.putting.specs.Put.{Insertion}
use Rattle.putting.proofs.Puts.{lent_by, back_by, inside_by, home_page, home_there, fitted_more, put_fitted}
use Rattle.putting.proofs.putting.insert_fitting.Goals as goal

module _ (S : Shape) (s : List ℕ) (p i : ℕ) (key place : List ℕ) (I : Insertion S fnv s p i key place) where
  -- the page is there
  inside : p * size S + size S ≤ length s
  inside = home_there S fnv fnv_lt s p key place I.row

  there : (n : ℕ) → n ≡ size S → p * n + n ≤ length s
  there n e = inside_by S s p n e inside

  long : length (page S s p) ≡ size S
  long = page_long S s p (home_page S fnv fnv_lt s p key place I.row).to

  -- the room between frontier and slots is enough
  insertable : frontier (page S s p) + 4 * count (page S s p) + (12 + length key) ≤ length (page S s p) → Insertable (page S s p) i key place
  insertable roomy = let F = I.fits in record { page = F.page; belongs = F.belongs; natural = F.natural; good = F.good; fits = F.fits; room = omega (arith, roomy) }

pub page_at-page-requires : goal.page_at-page-requires
page_at-page-requires c = inside _ _ _ _ _ _ c.requires

pub overflow_mul-start : goal.overflow_mul-start
overflow_mul-start c = omega (arith, there _ _ _ _ _ _ c.requires c.size-size.result c.size-size.ensures)

pub overflow_add-start : goal.overflow_add-start
overflow_add-start c = omega (arith, there _ _ _ _ _ _ c.requires c.size-size.result c.size-size.ensures)

pub slice_bounds-insert_at_frontier-end : goal.slice_bounds-insert_at_frontier-end
slice_bounds-insert_at_frontier-end c = omega (arith, there _ _ _ _ _ _ c.requires c.size-size.result c.size-size.ensures)

pub insert_at_frontier-requires : goal.insert_at_frontier-requires
insert_at_frontier-requires c =
    let a = c.args in
    let n = rw c.page_at-page.ensures at c.get16-n.ensures.0 in
    let f = rw c.page_at-page.ensures at c.get16-f.ensures.0 in
    rw (lent_by a.z a.s.now a.at.page c.size-size.result c.size-size.ensures)
    (insertable _ _ _ _ _ _ c.requires (omega (arith, c.if-f-n.true, n, f, c.size-size.ensures, long _ _ _ _ _ _ c.requires)))

pub raise-requires : goal.raise-requires
raise-requires c =
    let a = c.args in
    let p = a.at.page in
    let row = c.requires.row.row in
    let g = page a.z a.s.now p in
    let q = c.insert_at_frontier.new.page in
    let z = c.size-size.result in
    let e = c.size-size.ensures in
    let n = rw c.page_at-page.ensures at c.get16-n.ensures.0 in
    let f = rw c.page_at-page.ensures at c.get16-f.ensures.0 in
    let room : frontier g + 4 * count g + (12 + length a.row.code.now) ≤ length g = omega (arith, c.if-f-n.true, n, f, e, long _ _ _ _ _ _ c.requires) in
    let H = home_page a.z fnv fnv_lt a.s.now p a.row.code.now a.row.place.now c.requires.row in
    let D : Added g a.at.slot a.row.code.now a.row.place.now g q g = record { roomy = λ h. (rw (lent_by a.z a.s.now p z e) at c.insert_at_frontier.ensures, refl); tight = λ h. absurd (omega (arith, h, room)) } in
    rw (back_by a.z a.s.now p z e q)
    (fitted_more a.z fnv row.sized fnv_lt a.s.now row.accepted a.row.code.now p H a.at.slot a.row.place.now g q g c.requires.fits D row.folded)

pub returns-then-f-n : goal.returns-then-f-n
returns-then-f-n c =
    let a = c.args in
    let p = a.at.page in
    let row = c.requires.row.row in
    let g = page a.z a.s.now p in
    let q = c.insert_at_frontier.new.page in
    let z = c.size-size.result in
    let e = c.size-size.ensures in
    let n = rw c.page_at-page.ensures at c.get16-n.ensures.0 in
    let f = rw c.page_at-page.ensures at c.get16-f.ensures.0 in
    let room : frontier g + 4 * count g + (12 + length a.row.code.now) ≤ length g = omega (arith, c.if-f-n.true, n, f, e, long _ _ _ _ _ _ c.requires) in
    let H = home_page a.z fnv fnv_lt a.s.now p a.row.code.now a.row.place.now c.requires.row in
    let D : Added g a.at.slot a.row.code.now a.row.place.now g q g = record { roomy = λ h. (rw (lent_by a.z a.s.now p z e) at c.insert_at_frontier.ensures, refl); tight = λ h. absurd (omega (arith, h, room)) } in
    put_fitted a.z fnv row.sized fnv_lt a.s.now row.accepted a.row.code.now p H a.at.slot a.row.place.now g q g c.requires.fits D row.folded
    c.raise.new.s (rw (back_by a.z a.s.now p z e q) at c.raise.ensures) (λ k. omega (arith, c.type_inv.s k))
