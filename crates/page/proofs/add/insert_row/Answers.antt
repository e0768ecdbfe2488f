-- `page::insert_row` meets its contract. Assumes nothing.
use Rattle.page.proofs.Packs.{once_packed}
use Rattle.page.proofs.add.insert_row.Goals as goal

pub insert_at_frontier-requires-else-f-n : goal.insert_at_frontier-requires-else-f-n
insert_at_frontier-requires-else-f-n c = once_packed c.requires.0 c.pack_page.ensures.0
