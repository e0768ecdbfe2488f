-- `page::new_page` meets its contract. Assumes nothing.
use native.Mathlib.Omega.{arith}
use Rattle.page.proofs.Packs.{fresh}
use Rattle.page.proofs.pack.new_page.Goals as goal

pub returns : goal.returns
returns c = fresh c.requires.0 c.requires.1 c.clear.ensures c.set_head.ensures (λ k. omega (arith, c.type_inv.page k))
