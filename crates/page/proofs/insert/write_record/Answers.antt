-- `page::write_record` meets its contract. Assumes nothing.
use Rattle.page.proofs.Writes.{recorded}
use Rattle.page.proofs.insert.write_record.Goals as goal

pub returns : goal.returns
returns c = recorded c.requires.0 c.requires.1 c.copy_at.ensures c.copy_at-2.ensures
