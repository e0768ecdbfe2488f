-- `page::store_place` meets its contract. Assumes nothing.
use mathlib.Core.Logic.{inl, inr}
use native.Mathlib.Omega.{arith}
use mir.Syntax.{w16, w32}
use Rattle.page.proofs.Signs.{cast_gives}
use Rattle.page.proofs.Stored.{stored_by}
use Rattle.page.proofs.places.store_place.Goals as goal

pub returns : goal.returns
returns c =
    let p = c.args.p in
    stored_by p c.requires.0
    (cast_gives w32 p.page (record { sfits = omega arith }) (λ n. c.requires.1 (inl n)))
    (cast_gives w16 p.slot (record { sfits = omega arith }) (λ n. c.requires.1 (inr (inl n))))
    (cast_gives w16 p.volume (record { sfits = omega arith }) (λ n. c.requires.1 (inr (inr n))))
    c.put32.ensures c.put16.ensures c.put16-2.ensures
    (λ k. omega (arith, c.type_inv.out k))
