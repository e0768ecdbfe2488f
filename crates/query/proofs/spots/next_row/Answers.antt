-- Bucket after bucket by first entry, each once.
use Rattle.std.proofs.Common.{◌≡◌, refl, ◌∙◌, ap, sym, subst, arith, List, ℕ, ◌+◌, ◌*◌, ◌-◌, ◌<◌, ◌≤◌, ◌^◌}
use Rattle.std.proofs.Math.Pow.{pow_mono}
use Rattle.words.specs.Le.{le32}
use Rattle.page.specs.Page.{count}
use Rattle.partition.specs.declared.Shape.{Shape}
use Rattle.partition.proofs.Sizes.{twelve}
use Rattle.store.specs.Pages.{size, page, dir_depth, entry_at}
use Rattle.query.specs.declared.Cursor.{Cursor}
use Rattle.query.specs.Cursors.{At, Steppable}
use Rattle.query.proofs.Finds.{From, long_enough, shallow, at_from, at_next, from_end, from_none, entry_low, page_inside, page_head, page_deep, from_here, from_along, from_past}
use Rattle.query.proofs.spots.next_row.Goals as goal

-- an entry i that the loop comes to, and the page p that it names
module _ {z : Shape} {s : List ℕ} {c : Cursor} {d end i : ℕ} (r : Steppable z s c) (ed : d ≡ dir_depth s) (ee : end ≡ 2 ^ d) (t : i < end) where
  below : i < 2 ^ dir_depth s
  below = subst (λ m. i < m) (ee ∙ ap (λ k. 2 ^ k) ed) t

  low : i < z.entries
  low = entry_low z r.sized s r.accepted r.place i below

names : (z : Shape) (s : List ℕ) (i : ℕ) {m p : ℕ} → m ≡ size z → p ≡ le32 s (m + 4 * i) → p ≡ entry_at z s i
names z s i es ep = ep ∙ ap (λ k. le32 s (k + 4 * i)) es

pub two_to-end-requires : goal.two_to-end-requires
two_to-end-requires c =
    let r = c.requires in
    omega (arith, c.get32-d.ensures.0, shallow _ r.sized _ r.accepted, twelve _ r.sized)

pub loop-i-init : goal.loop-i-init
loop-i-init c = λ n a. at_from c.args.z c.args.s.now n c.args.c a

pub overflow_mul-i : goal.overflow_mul-i
overflow_mul-i c = record { fits = omega (arith, low c.requires c.get32-d.ensures.0 c.two_to-end.ensures c.loop-i-test.true, c.requires.sized) }

pub overflow_add-size : goal.overflow_add-size
overflow_add-size c = record { fits = omega (arith, low c.requires c.get32-d.ensures.0 c.two_to-end.ensures c.loop-i-test.true, c.requires.sized, c.size.ensures) }

pub get32-page-requires : goal.get32-page-requires
get32-page-requires c =
    let r = c.requires in
    omega (arith, low r c.get32-d.ensures.0 c.two_to-end.ensures c.loop-i-test.true, r.sized, c.size.ensures, long_enough c.args.z r.sized c.args.s.now r.accepted)

pub loop-i-preserved-then-page-eq0 : goal.loop-i-preserved-then-page-eq0
loop-i-preserved-then-page-eq0 c =
    let r = c.requires in
    let l = below r c.get32-d.ensures.0 c.two_to-end.ensures c.loop-i-test.true in
    let e = names c.args.z c.args.s.now c.loop-i.i c.size.ensures c.get32-page.ensures.0 in
    λ n a. from_none c.args.z r.sized c.args.s.now r.accepted n c.loop-i.i c.loop-i.left l (sym e ∙ c.if-page-eq0.true) (c.loop-i.invariant n a)

pub page_at-requires : goal.page_at-requires
page_at-requires c =
    let r = c.requires in
    let l = below r c.get32-d.ensures.0 c.two_to-end.ensures c.loop-i-test.true in
    let e = names c.args.z c.args.s.now c.loop-i.i c.size.ensures c.get32-page.ensures.0 in
    page_inside c.args.z r.sized c.args.s.now r.accepted r.place c.loop-i.i c.get32-page.result l e c.if-page-eq0.false

pub get16-k-requires : goal.get16-k-requires
get16-k-requires c =
    let r = c.requires in
    let l = below r c.get32-d.ensures.0 c.two_to-end.ensures c.loop-i-test.true in
    let e = names c.args.z c.args.s.now c.loop-i.i c.size.ensures c.get32-page.ensures.0 in
    rw c.page_at.ensures (page_head c.args.z r.sized c.args.s.now r.accepted r.place c.loop-i.i c.get32-page.result l e c.if-page-eq0.false)

pub returns-then-left-k : goal.returns-then-left-k
returns-then-left-k c =
    let r = c.requires in
    let l = below r c.get32-d.ensures.0 c.two_to-end.ensures c.loop-i-test.true in
    let e = names c.args.z c.args.s.now c.loop-i.i c.size.ensures c.get32-page.ensures.0 in
    let k : c.get16-k.result ≡ count (page c.args.z c.args.s.now c.get32-page.result) = rw c.page_at.ensures at c.get16-k.ensures.0 in
    λ n a. let f = c.loop-i.invariant n a in (
      from_here c.args.z r.sized c.args.s.now r.accepted n c.loop-i.i c.get32-page.result l e c.if-page-eq0.false c.loop-i.left f (omega (arith, c.if-left-k.true, k)),
      at_next c.args.z r.sized c.args.s.now r.accepted n c.loop-i.i c.loop-i.left _ refl f,
      from_along c.args.z r.sized c.args.s.now r.accepted n c.loop-i.i c.get32-page.result l e c.if-page-eq0.false c.loop-i.left f,
      refl,
    )

pub entries_of-i-requires : goal.entries_of-i-requires
entries_of-i-requires c =
    let r = c.requires in
    let l = below r c.get32-d.ensures.0 c.two_to-end.ensures c.loop-i-test.true in
    let e = names c.args.z c.args.s.now c.loop-i.i c.size.ensures c.get32-page.ensures.0 in
    let in_it = page_inside c.args.z r.sized c.args.s.now r.accepted r.place c.loop-i.i c.get32-page.result l e c.if-page-eq0.false in
    let deep = page_deep c.args.z r.sized c.args.s.now r.accepted r.place c.loop-i.i c.get32-page.result l e c.if-page-eq0.false in
    rw c.size-else-page-eq0.ensures (record {
      there = omega (arith, in_it, r.sized);
      low = omega (arith, deep, c.get32-d.ensures.0);
      deep = omega (arith, c.get32-d.ensures.0, shallow c.args.z r.sized c.args.s.now r.accepted, twelve c.args.z r.sized);
    })

-- past a page
past : (c : goal.After-entries_of-i) (n : ℕ) → At c.args.z c.args.s.now n c.args.c → From c.args.z c.args.s.now n (c.loop-i.i + c.entries_of-i.result) (c.loop-i.left - c.get16-k.result)
past c n a =
    let r = c.requires in
    let l = below r c.get32-d.ensures.0 c.two_to-end.ensures c.loop-i-test.true in
    let e = names c.args.z c.args.s.now c.loop-i.i c.size.ensures c.get32-page.ensures.0 in
    let k : c.get16-k.result ≡ count (page c.args.z c.args.s.now c.get32-page.result) = rw c.page_at.ensures at c.get16-k.ensures.0 in
    let w = rw c.get32-d.ensures.0 at (rw c.size-else-page-eq0.ensures at c.entries_of-i.ensures) in
    rw k (from_past c.args.z r.sized c.args.s.now r.accepted n c.loop-i.i c.get32-page.result l e c.if-page-eq0.false c.loop-i.left (c.loop-i.invariant n a) c.entries_of-i.result w (omega (arith, c.if-left-k.false, k)))

pub overflow_add-i-else-page-eq0 : goal.overflow_add-i-else-page-eq0
overflow_add-i-else-page-eq0 c =
    let r = c.requires in
    let m : 2 ^ dir_depth c.args.s.now ≤ 2 ^ c.args.z.deepest = pow_mono (shallow c.args.z r.sized c.args.s.now r.accepted) in
    record { fits = omega (arith, (past c r.place r.at).most, m, r.sized) }

pub loop-i-preserved : goal.loop-i-preserved
loop-i-preserved c = past c

pub returns : goal.returns
returns c =
    let r = c.requires in
    λ n a. from_end c.args.z r.sized c.args.s.now r.accepted n c.loop-i.i c.loop-i.left
    (subst (λ m. m ≤ c.loop-i.i) (c.two_to-end.ensures ∙ ap (λ k. 2 ^ k) c.get32-d.ensures.0) c.loop-i-test.false) (c.loop-i.invariant n a)
