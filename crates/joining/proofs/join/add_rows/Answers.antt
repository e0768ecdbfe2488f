-- Slot after slot.
use Rattle.std.proofs.Common.{◌≡◌, ◌+◌, ◌<◌, [], ◌∷◌, drop, ap, subst, ◌∙◌, arith}
use Rattle.page.specs.Page.{count}
use Rattle.joining.specs.Join.{rows_at, others}
use Rattle.joining.proofs.Gathers.{Coming, coming_all, coming_none, next_taking, next_coming, slots_next, slots_end, row_in}
use Rattle.joining.proofs.join.add_rows.Goals as goal

pub loop-i-init : goal.loop-i-init
loop-i-init c = coming_all c.requires.1

pub add_other-requires : goal.add_other-requires
add_other-requires c =
    let a = c.args in
    let l = c.loop-i in
    let b : l.i < count a.from.now = omega (arith, c.get16-i-end.ensures, c.loop-i-test.true) in
    record {
      page = c.requires.0;
      slot = b;
      room = next_taking (others a.key.now (row_in a.from.now l.i ∷ [])) (others a.key.now (drop (l.i + 1) (rows_at a.from.now)))
          (subst (λ r. Coming a.to.now (others a.key.now (rows_at a.from.now)) r l.to) (slots_next a.key.now a.from.now l.i b) l.invariant) c.requires.1;
    }

pub loop-i-preserved : goal.loop-i-preserved
loop-i-preserved c =
    let a = c.args in
    let l = c.loop-i in
    let b : l.i < count a.from.now = omega (arith, c.get16-i-end.ensures, c.loop-i-test.true) in
    next_coming (others a.key.now (row_in a.from.now l.i ∷ [])) (others a.key.now (drop (l.i + 1) (rows_at a.from.now)))
    (subst (λ r. Coming a.to.now (others a.key.now (rows_at a.from.now)) r l.to) (slots_next a.key.now a.from.now l.i b) l.invariant) c.add_other.ensures

pub returns : goal.returns
returns c =
    let a = c.args in
    let l = c.loop-i in
    let e : l.i ≡ count a.from.now = omega (arith, c.get16-i-end.ensures, l.auto.i-end, c.loop-i-test.false) in
    coming_none (subst (λ r. Coming a.to.now (others a.key.now (rows_at a.from.now)) r l.to) (ap (λ k. others a.key.now (drop k (rows_at a.from.now))) e ∙ slots_end a.key.now a.from.now) l.invariant)
