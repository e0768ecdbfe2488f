use Rattle.std.proofs.Common.{ℕ, ◌≤◌, ◌<◌, arith, subst}
use Rattle.std.proofs.iter.Serving.{serving}
use Rattle.store_check.specs.Begun.{AllStand}
use Rattle.store_check.specs.Digest.{Digested}
use Rattle.store_check.proofs.Parting.{cells_fit, digested}
use Rattle.store_check.proofs.parted.first_joinable.Goals as goal

pub add_up-requires : goal.add_up-requires
add_up-requires c = cells_fit _ _ _ c.requires.stand _ c.digest.ensures

pub find-requires-clause-callable : goal.find-requires-clause-callable
find-requires-clause-callable c =
    let a = c.args in
    let at : (p : ℕ) → 2 ≤ p → p < a.n → Digested a.z a.s.now a.hashes.now c.add_up.new.cells p =
    λ p from to. record {
      stand = subst (λ m. AllStand a.z a.s.now m) c.requires.stand.number c.requires.stand;
      digest = digested _ _ _ c.requires.stand _ c.digest.ensures _ _ c.requires.hashed c.add_up.ensures;
      from = from;
      to = omega (arith, c.requires.stand.number, to);
    } in
    grind (serving, at)
