-- Gathered, cleared, packed.
use Rattle.std.proofs.Common.{◌≡◌, ℕ, ◌+◌, ◌*◌, ◌≤◌, ◌<◌, List, length, sym, ap, subst, subst₂, arith}
use Rattle.hash.specs.Fnv.{fnv}
use Rattle.partition.specs.Bits.{top}
use Rattle.partition.specs.declared.Shape.{Shape}
use Rattle.partition.proofs.Sizes.{twelve}
use Rattle.store.proofs.Paging.Views.{apart, page_back}
use Rattle.store.specs.Moves.{find, within}
use Rattle.store.specs.Pages.{size, contents, set_page}
use Rattle.counts.specs.Tallies.{BucketsCounted, one_more}
use Rattle.joining.specs.Join.{Housed, Joinable, Emptied, Rejoined, others_in}
use Rattle.joining.proofs.Joins.{fresh_taking, low_within, rejoined, joined_more, joined_counted}
use Rattle.joining.proofs.join.join.Goals as goal

module _ (S : Shape) (s : List ℕ) (n x j : ℕ) (key : List ℕ) (J : Joinable S fnv s n x j key) where
  bits : j ≤ 12
  bits = let P = J.prefix in omega (arith, P.bits, P.deep, twelve S P.sized)

  -- the lowest-numbered page of the prefix is there
  there : (t : List ℕ) → Emptied S fnv s n j (top j x) t → (low : ℕ) → low ≡ 2 + find (within fnv j (top j x)) (contents S s) → (z : ℕ) → z ≡ size S → low * z + z ≤ length t
  there t E low e z f =
      let m : low < n = omega (arith, low_within S fnv s n x j key J, e) in
      let l : low * size S + size S ≤ length t = omega (arith, E.long, J.prefix.sound.long, apart (size S) low n m) in
      subst (λ y. low * y + y ≤ length t) (sym f) l

pub overflow_cast-of : goal.overflow_cast-of
overflow_cast-of c = let a = c.args in record { fits = omega (arith, bits a.z a.s.now a.of.n a.of.x a.of.j a.of.key.now c.requires.1.joinable) }

pub gather-low-requires : goal.gather-low-requires
gather-low-requires c =
    let a = c.args in
    let rs = others_in fnv a.of.j (top a.of.j a.of.x) a.of.key.now (contents a.z a.s.now) in
    (c.requires.1, fresh_taking rs c.new_page.ensures (subst (λ m. Housed m rs) (sym c.requires.0) c.requires.1.joinable.housed))

pub overflow_mul-start : goal.overflow_mul-start
overflow_mul-start c = let a = c.args in let g = c.gather-low in omega (arith, there a.z a.s.now a.of.n a.of.x a.of.j a.of.key.now c.requires.1.joinable g.new.s g.ensures.cleared g.result g.ensures.lowest c.size-size.result c.size-size.ensures)

pub overflow_add-start : goal.overflow_add-start
overflow_add-start c = let a = c.args in let g = c.gather-low in omega (arith, there a.z a.s.now a.of.n a.of.x a.of.j a.of.key.now c.requires.1.joinable g.new.s g.ensures.cleared g.result g.ensures.lowest c.size-size.result c.size-size.ensures)

pub slice_bounds-pack_into-end : goal.slice_bounds-pack_into-end
slice_bounds-pack_into-end c = let a = c.args in let g = c.gather-low in omega (arith, there a.z a.s.now a.of.n a.of.x a.of.j a.of.key.now c.requires.1.joinable g.new.s g.ensures.cleared g.result g.ensures.lowest c.size-size.result c.size-size.ensures)

pub count_up-requires : goal.count_up-requires
count_up-requires c =
    let a = c.args in
    let g = c.gather-low in
    joined_more a.z fnv a.s.now a.of.n a.of.x a.of.j a.of.key.now c.requires.1.joinable c.requires.0 c.new_page.ensures g.ensures.gathered g.ensures.cleared c.pack_into.ensures g.new.tallies g.ensures.counted

pub returns-clause-joined : goal.returns-clause-joined
returns-clause-joined c =
    let a = c.args in
    let g = c.gather-low in
    let z = c.size-size.result in
    let k = c.pack_into in
    let e = c.size-size.ensures in
    let back = page_back a.z g.new.s k.new.page g.result (g.result * z) (g.result * z + z) (ap (λ m. g.result * m) e) (ap (λ m. g.result * z + m) e) in
    subst (Rejoined a.z fnv a.s.now a.of.n a.of.j (top a.of.j a.of.x) a.of.key.now g.result) (sym back)
    (subst (λ p. Rejoined a.z fnv a.s.now a.of.n a.of.j (top a.of.j a.of.x) a.of.key.now p (set_page a.z g.new.s p k.new.page)) (sym g.ensures.lowest)
    (rejoined a.z fnv a.s.now a.of.n a.of.x a.of.j a.of.key.now c.requires.1.joinable c.requires.0 c.new_page.ensures g.ensures.gathered g.ensures.cleared k.ensures))

pub returns-clause-counted : goal.returns-clause-counted
returns-clause-counted c =
    let a = c.args in
    let g = c.gather-low in
    let z = c.size-size.result in
    let k = c.pack_into in
    let e = c.size-size.ensures in
    let back = page_back a.z g.new.s k.new.page g.result (g.result * z) (g.result * z + z) (ap (λ m. g.result * m) e) (ap (λ m. g.result * z + m) e) in
    subst₂ (λ y m. BucketsCounted (contents a.z y) m) (sym back) (sym c.count_up.ensures)
    (subst (λ p. BucketsCounted (contents a.z (set_page a.z g.new.s p k.new.page)) (one_more g.new.tallies (1 + a.of.j))) (sym g.ensures.lowest)
    (joined_counted a.z fnv a.s.now a.of.n a.of.x a.of.j a.of.key.now c.requires.1.joinable c.requires.0 c.new_page.ensures g.ensures.gathered g.ensures.cleared k.ensures g.new.tallies g.ensures.counted))
