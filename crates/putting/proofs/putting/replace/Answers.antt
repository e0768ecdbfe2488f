-- The page with the place overwritten.
use Rattle.std.proofs.Common.{◌≡◌, refl, ℕ, ◌+◌, ◌*◌, ◌≤◌, ◌<◌, List, length, sym, ap, subst, ◌∙◌, arith}
use Rattle.ground.specs.Lists.{byte}
use Rattle.ground.specs.Ladder.{Answers}
use Rattle.hash.specs.Fnv.{fnv, fnv_lt}
use Rattle.page.specs.Page.{code, place}
use Rattle.page.specs.Steps.{Overwritten}
use Rattle.page.specs.Places as Places
use Rattle.partition.specs.Partition.{Row}
use Rattle.partition.specs.declared.Shape.{Shape}
use Rattle.store.specs.Pages.{size, page, set_page}
use Rattle.store.specs.Tables.{replaced, put_accepted}
use Rattle.store.proofs.Accepted.Reading.{Naming}
use Rattle.partition.specs.Bits.{top}
use Rattle.store.specs.Pages.{dir_depth}
use Rattle.putting.specs.Put.{new_row, KnownAt}
use Rattle.putting.proofs.Puts.{lent_by, back_by, inside_by, home_page, home_there, put_known}
use Rattle.putting.proofs.putting.replace.Goals as goal

-- the page is there
module _ (S : Shape) (s : List ℕ) (p i : ℕ) (pl : List ℕ) (K : KnownAt S fnv s p i pl) where
  home : Naming S fnv s (top (dir_depth s) (fnv (code (page S s p) i))) p
  home = home_page S fnv fnv_lt s p (code (page S s p) i) pl K.row

  inside : p * size S + size S ≤ length s
  inside = home_there S fnv fnv_lt s p (code (page S s p) i) pl K.row

  there : (n : ℕ) → n ≡ size S → p * n + n ≤ length s
  there n e = inside_by S s p n e inside

pub page_at-requires : goal.page_at-requires
page_at-requires c = inside _ _ _ _ _ c.requires

pub read_place-old-requires : goal.read_place-old-requires
read_place-old-requires c = rw c.page_at.ensures ((home _ _ _ _ _ c.requires).bytes.rules.rules, c.requires.slot)

pub overflow_mul-start : goal.overflow_mul-start
overflow_mul-start c = omega (arith, there _ _ _ _ _ c.requires c.size-size.result c.size-size.ensures)

pub overflow_add-start : goal.overflow_add-start
overflow_add-start c = omega (arith, there _ _ _ _ _ c.requires c.size-size.result c.size-size.ensures)

pub slice_bounds-set_place-end : goal.slice_bounds-set_place-end
slice_bounds-set_place-end c = omega (arith, there _ _ _ _ _ c.requires c.size-size.result c.size-size.ensures)

pub set_place-requires : goal.set_place-requires
set_place-requires c =
    let a = c.args in
    rw (lent_by a.z a.s.now a.at.page c.size-size.result c.size-size.ensures)
    (record { page = (home _ _ _ _ _ c.requires).bytes.rules.rules; within = c.requires.slot; natural = c.requires.row.row.natural })

pub returns : goal.returns
returns c =
    let a = c.args in
    let p = a.at.page in
    let i = a.at.slot in
    let n = c.size-size.result in
    let row = c.requires.row.row in
    let q = c.set_place.new.page in
    let g : List ℕ = page a.z a.s.now p in
    let back = back_by a.z a.s.now p n c.size-size.ensures q in
    let old = c.read_place-old.ensures ∙ ap (λ g. Places.place_from (place g i)) c.page_at.ensures in
    let O : Overwritten g i a.place.now q = rw (lent_by a.z a.s.now p n c.size-size.ensures) at c.set_place.ensures in
    let new : Row = new_row (code g i) a.place.now in
    subst (λ t. Answers (put_accepted a.z fnv a.s.now new) (replaced c.read_place-old.result, t)) (sym back)
    (subst (λ o. Answers (put_accepted a.z fnv a.s.now new) (replaced o, set_page a.z a.s.now p q)) (sym old)
    (put_known a.z fnv row.sized fnv_lt a.s.now row.accepted (code g i) p (home _ _ _ _ _ c.requires) i c.requires.slot refl a.place.now q O
    (λ k. subst (λ t. byte t k < 256) back (omega (arith, c.type_inv.s k)))))
