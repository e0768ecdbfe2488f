-- `page::close_slot` meets its contract. Assumes nothing.
use Rattle.page.proofs.Writes.{closed}
use Rattle.page.proofs.remove.close_slot.Goals as goal

pub returns : goal.returns
returns c = closed c.requires.0 c.requires.1 c.move_up.ensures c.clear.ensures
