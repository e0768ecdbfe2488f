-- `page::remove_slot` meets its contract. Assumes nothing.
use native.Mathlib.Omega.{arith}
use Rattle.page.proofs.Removing.{erased, removed}
use Rattle.page.proofs.remove.remove_slot.Goals as goal

pub returns : goal.returns
returns c =
    let e = c.extent_of-off.ensures in
    removed c.args.page.now c.args.s c.set_head.new.page c.requires
    (erased c.requires c.get16-n.ensures.0 c.get16-r.ensures.0 e.0 e.1
    c.clear.ensures
    c.close_slot.ensures
    c.top_of-f.ensures.0
    c.set_head.ensures)
    (λ k. omega (arith, c.type_inv.page k))
