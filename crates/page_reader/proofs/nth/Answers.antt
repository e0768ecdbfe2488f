-- Row n of what `open` reads is the page's row n, and `skip` goes there or to the end.
use Rattle.store.specs.Tables.{meaning}
use Rattle.page_reader.proofs.Rows.{nth_near, reads_nth}
use Rattle.page_reader.proofs.nth.Goals as goal

pub returns : goal.returns
returns c =
    let out = c.args.out.now in
    reads_nth c.open.ensures.0 c.args.n out (meaning c.give.result, c.give.new.out)
    (nth_near c.open.result.page.now c.args.n out c.open.result.slot c.skip.result.slot c.open.ensures.1 c.skip.ensures.1 (meaning c.give.result, c.give.new.out) (rw c.skip.ensures.0 at c.give.ensures))
