-- `page::place_at` meets its contract: the page's rules say where the record lies. Assumes nothing.
use Rattle.page.proofs.Sums.{place_part}
use Rattle.page.proofs.read.place_at.Goals as goal

pub returns : goal.returns
returns c = place_part c.args.page.now c.args.i c.extent_of-off.result.off c.extent_of-off.ensures.0
