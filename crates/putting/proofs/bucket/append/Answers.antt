-- At the slot behind the last.
use Rattle.std.proofs.Common.{sym, subst}
use Rattle.page.specs.Steps.{Insertable, Inserted}
use Rattle.putting.proofs.Appends.{ready, done}
use Rattle.putting.proofs.bucket.append.Goals as goal

pub insert_at_frontier-requires : goal.insert_at_frontier-requires
insert_at_frontier-requires c =
    let a = c.args in
    subst (λ n. Insertable a.page.now n a.row.code.now a.row.place.now) (sym c.get16-n.ensures.0) (ready a.page.now a.row.code.now a.row.place.now c.requires)

pub returns : goal.returns
returns c =
    let a = c.args in
    let w = c.insert_at_frontier in
    done a.page.now a.row.code.now a.row.place.now c.requires w.new.page
    (subst (λ n. Inserted a.page.now n a.row.code.now a.row.place.now w.new.page) c.get16-n.ensures.0 w.ensures)
