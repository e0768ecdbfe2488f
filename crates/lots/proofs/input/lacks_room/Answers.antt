use Rattle.std.proofs.Common.{◌≡◌, ℕ, ◌*◌, ◌<◌, subst, arith, ne_eqb}
use Rattle.lots.specs.Sessions.{most_pages, LacksRoom}
use Rattle.lots.proofs.input.lacks_room.Goals as goal

-- no page of another size
none_larger : (size : ℕ) → 16384 < size → most_pages size ≡ 0
unfolding most_pages
none_larger size h = rw (ne_eqb size 4096 (λ e. omega (arith, e, h)), ne_eqb size 16384 (λ e. omega (arith, e, h)))

too_large : (room n size : ℕ) → 16384 < size → LacksRoom room n size → ⊥
too_large room n size h x =
    let e : n ≡ 0 = omega (arith, x.0, none_larger size h) in
    let y : room < 0 * size = subst (λ (k : ℕ). room < k * size) e x.1 in
    omega (arith, y)

pub returns-then-size-gt16384 : goal.returns-then-size-gt16384
returns-then-size-gt16384 c = λ x. too_large _ _ _ c.if-size-gt16384.true x
