-- `page::insert_at_frontier` meets its contract. Assumes nothing.
use native.Mathlib.Omega.{arith}
use Rattle.page.proofs.Painted.{painted}
use Rattle.page.proofs.Inserting.{inserted}
use Rattle.page.proofs.insert.insert_at_frontier.Goals as goal

pub returns : goal.returns
returns c =
    let n = c.get16-n.ensures.0 in
    let f = c.get16-f.ensures.0 in
    inserted c.args.page.now c.args.s c.args.key.now c.args.place.now c.set_head.new.page c.requires
    (painted c.requires
    (rw f at c.write_record.ensures)
    (rw (n, f) at c.open_slot.ensures)
    (rw (n, f, c.get16-r.ensures.0) at c.set_head.ensures))
    (λ k. omega (arith, c.type_inv.page k))
