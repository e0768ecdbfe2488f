-- `page::open_slot` meets its contract. Assumes nothing.
use Rattle.page.proofs.Writes.{opened}
use Rattle.page.proofs.insert.open_slot.Goals as goal

pub returns : goal.returns
returns c = opened c.requires.within c.requires.room c.move_down.ensures c.put32.ensures
