-- `page::start_page` meets its contract. Assumes nothing.
use Rattle.page.proofs.Packs.{first, started}
use Rattle.page.proofs.pack.start_page.Goals as goal

pub insert_at_frontier-requires : goal.insert_at_frontier-requires
insert_at_frontier-requires c = first c.requires c.new_page.ensures

pub returns : goal.returns
returns c = started c.requires c.new_page.ensures c.insert_at_frontier.ensures
