-- Where a row is read the page keeps its rules.
use Rattle.page_reader.proofs.Rows.{row_slotted}
use Rattle.page_reader.proofs.Reader.place.Goals as goal

pub read_place-requires : goal.read_place-requires
read_place-requires c = (row_slotted c.args.self.readable c.requires, c.requires)
