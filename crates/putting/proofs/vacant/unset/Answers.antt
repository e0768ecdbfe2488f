-- The run of entries is all that the prefix calls for.
use Rattle.std.proofs.Common.{◌≡◌, refl, ℕ, ◌+◌, ◌*◌, ◌≤◌, ◌<◌, sym, ap, subst, ◌∙◌, below_more, rules, arith}
use Rattle.words.specs.Le.{le32}
use Rattle.partition.specs.Bits.{top}
use Rattle.partition.specs.Partition.{Prefix}
use Rattle.partition.proofs.Directory.{holds_range}
use Rattle.partition.proofs.Sizes.{twelve}
use Rattle.store.specs.Pages.{entry_at}
use Rattle.store_check.proofs.Naming.{room}
use Rattle.putting.proofs.vacant.unset.Goals as goal

pub run_of-requires : goal.run_of-requires
run_of-requires c = omega (arith, twelve c.args.z c.requires.0.sized)

pub loop-i-init : goal.loop-i-init
loop-i-init c =
    let g = c.into_iter-i-iterator.ensures.into_iter_gives in
    ((λ j l m. absurd (omega arith)), omega arith, omega (arith, c.run_of.ensures.2, c.entries-i-items.ensures, ap (λ r. r.start) g, ap (λ r. r.end) g), refl)

pub get32-requires : goal.get32-requires
get32-requires c =
    let v = c.loop-i.invariant in
    let q = c.requires.0 in
    let g = c.into_iter-i-iterator.ensures.into_iter_gives in
    let at : c.in-Some.i ≡ c.loop-i.i-iterator.start = search rules in
    let more : c.loop-i.i-iterator.start < c.loop-i.i-iterator.end = search rules in
    let low : c.run_of.result.to ≤ c.args.z.entries = omega (arith, c.run_of.ensures.3, room c.args.z q.sized c.args.d q.deep) in
    omega (arith, at, more, v.3, c.entries-i-items.ensures.1, ap (λ r. r.end) g, q.sized.whole, q.long, low, c.size.ensures)

pub overflow_mul-i : goal.overflow_mul-i
overflow_mul-i c =
    let v = c.loop-i.invariant in
    let q = c.requires.0 in
    let g = c.into_iter-i-iterator.ensures.into_iter_gives in
    let at : c.in-Some.i ≡ c.loop-i.i-iterator.start = search rules in
    let more : c.loop-i.i-iterator.start < c.loop-i.i-iterator.end = search rules in
    let low : c.run_of.result.to ≤ c.args.z.entries = omega (arith, c.run_of.ensures.3, room c.args.z q.sized c.args.d q.deep) in
    omega (arith, at, more, v.3, c.entries-i-items.ensures.1, ap (λ r. r.end) g, q.sized.whole, q.sized.most, low)

pub overflow_add-size : goal.overflow_add-size
overflow_add-size c =
    let v = c.loop-i.invariant in
    let q = c.requires.0 in
    let g = c.into_iter-i-iterator.ensures.into_iter_gives in
    let at : c.in-Some.i ≡ c.loop-i.i-iterator.start = search rules in
    let more : c.loop-i.i-iterator.start < c.loop-i.i-iterator.end = search rules in
    let low : c.run_of.result.to ≤ c.args.z.entries = omega (arith, c.run_of.ensures.3, room c.args.z q.sized c.args.d q.deep) in
    omega (arith, at, more, v.3, c.entries-i-items.ensures.1, ap (λ r. r.end) g, q.sized.whole, q.sized.most, low, c.size.ensures)

pub returns-then-get32-ne0 : goal.returns-then-get32-ne0
returns-then-get32-ne0 c =
    let v = c.loop-i.invariant in
    let q = c.requires.0 in
    let g = c.into_iter-i-iterator.ensures.into_iter_gives in
    let at : c.in-Some.i ≡ c.loop-i.i-iterator.start = search rules in
    let more : c.loop-i.i-iterator.start < c.loop-i.i-iterator.end = search rules in
    let e = c.run_of.ensures in
    let prefix : Prefix = record { bits = c.args.k; value = top c.args.k c.args.x } in
    let lo : c.run_of.result.from ≤ c.in-Some.i = omega (arith, at, v.1, c.entries-i-items.ensures.0, ap (λ r. r.start) g) in
    let hi : c.in-Some.i < c.run_of.result.to = omega (arith, at, more, v.3, c.entries-i-items.ensures.1, ap (λ r. r.end) g) in
    λ f. c.if-get32-ne0.true (c.get32.ensures.0 ∙ ap (λ n. le32 c.args.s.now (n + 4 * c.in-Some.i)) c.size.ensures ∙ f c.in-Some.i (record {
      below = omega (arith, e.3, hi);
      bits = (holds_range c.args.d c.in-Some.i prefix).1 (omega (arith, e.0, lo), omega (arith, e.1, hi));
    }))

pub loop-i-preserved : goal.loop-i-preserved
loop-i-preserved c =
    let v = c.loop-i.invariant in
    let q = c.requires.0 in
    let g = c.into_iter-i-iterator.ensures.into_iter_gives in
    let at : c.in-Some.i ≡ c.loop-i.i-iterator.start = search rules in
    let more : c.loop-i.i-iterator.start < c.loop-i.i-iterator.end = search rules in
    let next : c.next.new.self.start ≡ c.loop-i.i-iterator.start + 1 = search rules in
    let end : c.next.new.self.end ≡ c.loop-i.i-iterator.end = search rules in
    let zero : entry_at c.args.z c.args.s.now c.in-Some.i ≡ 0 = ap (λ n. le32 c.args.s.now (n + 4 * c.in-Some.i)) (sym c.size.ensures) ∙ sym c.get32.ensures.0 ∙ c.if-get32-ne0.false in (
      subst (λ n. (j : ℕ) → j < n → c.into_iter-i-iterator.result.start ≤ j → entry_at c.args.z c.args.s.now j ≡ 0) (sym next)
          (below_more _ _ v.0 (λ _. subst (λ n. entry_at c.args.z c.args.s.now n ≡ 0) at zero)),
      omega (arith, next, v.1),
      omega (arith, next, end, more),
      end ∙ v.3,
    )

pub returns : goal.returns
returns c =
    let v = c.loop-i.invariant in
    let e = c.run_of.ensures in
    let g = c.into_iter-i-iterator.ensures.into_iter_gives in
    let past : c.loop-i.i-iterator.end ≤ c.loop-i.i-iterator.start = search rules in
    λ i q.
    let w = (holds_range c.args.d i (record { bits = c.args.k; value = top c.args.k c.args.x })).0 q.bits in
    v.0 i (omega (arith, e.1, w.1, past, v.3, c.entries-i-items.ensures.1, ap (λ r. r.end) g)) (omega (arith, e.0, w.0, c.entries-i-items.ensures.0, ap (λ r. r.start) g))
