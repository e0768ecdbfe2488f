-- `page::set_place` meets its contract. Assumes nothing.
use native.Mathlib.Omega.{arith}
use Rattle.page.proofs.Overwriting.{overwritten}
use Rattle.page.proofs.places.set_place.Goals as goal

pub returns : goal.returns
returns c =
    overwritten c.args.page.now c.args.s c.args.place.now c.copy_at.new.dst c.requires
    (rw c.extent_of-off.ensures.0 at c.copy_at.ensures)
    (λ k. omega (arith, c.type_inv.page k))
