use Rattle.std.proofs.Common.{◌≡◌, refl, sym, ℕ, ◌+◌, ◌-◌, ◌≤◌, ◌<◌, List, get_or, ap, subst, ◌∙◌, arith}
use Rattle.partition.specs.Bits.{top}
use Rattle.partition.specs.declared.Shape.{Shape}
use Rattle.partition.proofs.Sizes.{twelve}
use Rattle.store.specs.Pages.{page}
use Rattle.store.proofs.Accepted.Unique.{page_long}
use Rattle.store_check.specs.Digest.{LoadOf, Legible, Celled, Pass2, first_of, top_at, load_at}
use Rattle.store_check.proofs.Heaps.{heaped_none}
use Rattle.store_check.proofs.Parting.{legible, top_most, cell_most, celled_more}
use Rattle.store_check.proofs.parted.digest.Goals as goal

pub loop-p-init : goal.loop-p-init
loop-p-init c = heaped_none (top_at c.args.z c.args.s.now) (load_at c.args.z c.args.s.now) _ _ c.requires.sums_long c.requires.no_sums

pub overflow_cast-z : goal.overflow_cast-z
overflow_cast-z c = record { fits = omega (arith, twelve c.args.z c.requires.stand.sized) }

pub top_bits-t-requires : goal.top_bits-t-requires
top_bits-t-requires c = twelve c.args.z c.requires.stand.sized

pub page_load-requires : goal.page_load-requires
page_load-requires c =
    let a = c.args in
    subst Legible (sym c.page_at.ensures) (legible a.z a.s.now a.n c.loop-p.p c.requires.stand c.loop-p.auto.p c.loop-p-test.true)

-- a page's cell, and what the page needs
module _ (S : Shape) (s hashes cells : List ℕ) (n p t x : ℕ) (q : Pass2 S s n hashes cells) (two : 2 ≤ p) (there : p < n) (falls : t ≡ top S.deepest (get_or hashes p 0)) where
  cell_is : t ≡ top S.deepest (first_of (page S s p))
  cell_is = falls ∙ ap (top S.deepest) (q.hashed.each p two there)

  cell_in : t < S.entries
  cell_in = omega (arith, cell_is, top_most S q.stand.sized (page S s p))

  few : S.entries ≤ 4096
  few = omega (arith, q.stand.sized.whole, q.stand.sized.most)

  module _ (g : List ℕ) (e : g ≡ page S s p) (load : LoadOf g x) where
    load_is : LoadOf (page S s p) x
    load_is = subst (λ y. LoadOf y x) e load

    sum_small : (l : List ℕ) → Celled S s p l → get_or l t 0 + x < 4294967296
    sum_small l C =
        omega (arith, C.each t (omega (arith, cell_in)), cell_most S s n q.stand (p - 2) t (omega (arith, there)), load_is.1, page_long S s p (omega (arith, q.stand.number, there)), q.stand.sized.most, few, q.stand.most, there)

pub offset_bounds-cells-t : goal.offset_bounds-cells-t
offset_bounds-cells-t c =
    let a = c.args in
    record { fits = omega (arith, cell_in a.z a.s.now a.hashes.now a.cells.now a.n c.loop-p.p c.top_bits-t.result 0 c.requires c.loop-p.auto.p c.loop-p-test.true c.top_bits-t.ensures, few a.z a.s.now a.hashes.now a.cells.now a.n c.loop-p.p c.top_bits-t.result 0 c.requires c.loop-p.auto.p c.loop-p-test.true c.top_bits-t.ensures) }

pub bounds-cells-t : goal.bounds-cells-t
bounds-cells-t c =
    let a = c.args in
    omega (arith, cell_in a.z a.s.now a.hashes.now a.cells.now a.n c.loop-p.p c.top_bits-t.result 0 c.requires c.loop-p.auto.p c.loop-p-test.true c.top_bits-t.ensures, c.loop-p.invariant.long)

pub overflow_add-cells : goal.overflow_add-cells
overflow_add-cells c =
    let a = c.args in
    record { fits = sum_small a.z a.s.now a.hashes.now a.cells.now a.n c.loop-p.p c.top_bits-t.result c.page_load.result c.requires c.loop-p.auto.p c.loop-p-test.true c.top_bits-t.ensures c.page_at.result.now c.page_at.ensures c.page_load.ensures c.loop-p.cells c.loop-p.invariant }

pub bounds-cells-t-in-loop-p : goal.bounds-cells-t-in-loop-p
bounds-cells-t-in-loop-p c =
    let a = c.args in
    omega (arith, cell_in a.z a.s.now a.hashes.now a.cells.now a.n c.loop-p.p c.top_bits-t.result 0 c.requires c.loop-p.auto.p c.loop-p-test.true c.top_bits-t.ensures, c.loop-p.invariant.long)

pub loop-p-preserved : goal.loop-p-preserved
loop-p-preserved c =
    let a = c.args in
    let p = c.loop-p.p in
    celled_more a.z a.s.now a.n c.requires.stand p c.loop-p.auto.p c.loop-p.invariant
    (cell_is a.z a.s.now a.hashes.now a.cells.now a.n p c.top_bits-t.result 0 c.requires c.loop-p.auto.p c.loop-p-test.true c.top_bits-t.ensures)
    (load_is a.z a.s.now a.hashes.now a.cells.now a.n p c.top_bits-t.result c.page_load.result c.requires c.loop-p.auto.p c.loop-p-test.true c.top_bits-t.ensures c.page_at.result.now c.page_at.ensures c.page_load.ensures).0 refl
