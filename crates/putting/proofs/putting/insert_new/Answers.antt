-- The page with the row in.
use Rattle.std.proofs.Common.{◌≡◌, ℕ, ◌+◌, ◌*◌, ◌≤◌, List, length, sym, ap, ◌∙◌, arith}
use Rattle.hash.specs.Fnv.{fnv, fnv_lt}
use Rattle.page.specs.Packed.{Added}
use Rattle.partition.specs.declared.Shape.{Shape}
use Rattle.store.specs.Pages.{size, page}
use Rattle.store.proofs.Accepted.Unique.{page_long}
use Rattle.putting.proofs.Puts.{lent_by, back_by, inside_by, home_page, home_there, fitted_more, put_fitted}
use Rattle.putting.specs.Put.{Homed}
use Rattle.putting.proofs.putting.insert_new.Goals as goal

-- the page is there
there : (S : Shape) (s : List ℕ) (p : ℕ) (key place : List ℕ) → Homed S fnv s p key place → (n : ℕ) → n ≡ size S → p * n + n ≤ length s
there S s p key place H n e = inside_by S s p n e (home_there S fnv fnv_lt s p key place H)

pub overflow_mul-start : goal.overflow_mul-start
overflow_mul-start c = omega (arith, there _ _ _ _ _ c.requires.0.row c.size-size.result c.size-size.ensures)

pub overflow_add-start : goal.overflow_add-start
overflow_add-start c = omega (arith, there _ _ _ _ _ c.requires.0.row c.size-size.result c.size-size.ensures)

pub slice_bounds-insert_row-end : goal.slice_bounds-insert_row-end
slice_bounds-insert_row-end c = omega (arith, there _ _ _ _ _ c.requires.0.row c.size-size.result c.size-size.ensures)

pub insert_row-requires : goal.insert_row-requires
insert_row-requires c =
    let a = c.args in
    let e = lent_by a.z a.s.now a.at.page c.size-size.result c.size-size.ensures in
    let H = home_page a.z fnv fnv_lt a.s.now a.at.page a.row.code.now a.row.place.now c.requires.0.row in
    (rw e c.requires.0.fits, c.requires.1 ∙ sym (ap length e ∙ page_long a.z a.s.now a.at.page H.to))

pub raise-requires : goal.raise-requires
raise-requires c =
    let a = c.args in
    let R = c.requires.0 in
    let row = R.row.row in
    let n = c.size-size.result in
    let e = c.size-size.ensures in
    let w = c.insert_row.new in
    let H = home_page a.z fnv fnv_lt a.s.now a.at.page a.row.code.now a.row.place.now R.row in
    let D : Added (page a.z a.s.now a.at.page) a.at.slot a.row.code.now a.row.place.now a.scratch.now w.page w.scratch = rw (lent_by a.z a.s.now a.at.page n e) at c.insert_row.ensures in
    rw (back_by a.z a.s.now a.at.page n e w.page)
    (fitted_more a.z fnv row.sized fnv_lt a.s.now row.accepted a.row.code.now a.at.page H a.at.slot a.row.place.now _ w.page _ R.fits D row.folded)

pub returns : goal.returns
returns c =
    let a = c.args in
    let R = c.requires.0 in
    let row = R.row.row in
    let n = c.size-size.result in
    let e = c.size-size.ensures in
    let w = c.insert_row.new in
    let H = home_page a.z fnv fnv_lt a.s.now a.at.page a.row.code.now a.row.place.now R.row in
    let D : Added (page a.z a.s.now a.at.page) a.at.slot a.row.code.now a.row.place.now a.scratch.now w.page w.scratch = rw (lent_by a.z a.s.now a.at.page n e) at c.insert_row.ensures in
    put_fitted a.z fnv row.sized fnv_lt a.s.now row.accepted a.row.code.now a.at.page H a.at.slot a.row.place.now _ w.page _ R.fits D row.folded
    c.raise.new.s (rw (back_by a.z a.s.now a.at.page n e w.page) at c.raise.ensures) (λ k. omega (arith, c.type_inv.s k))
