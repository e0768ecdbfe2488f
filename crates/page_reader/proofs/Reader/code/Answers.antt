-- Where a row is read the page keeps its rules.
use Rattle.page_reader.proofs.Rows.{row_slotted}
use Rattle.page_reader.proofs.Reader.code.Goals as goal

pub code_at-requires : goal.code_at-requires
code_at-requires c = (row_slotted c.args.self.readable c.requires, c.requires)
