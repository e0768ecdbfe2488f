-- `page::append` meets its contract. Assumes nothing.
use Rattle.page.proofs.Packs.{insertable, appended}
use Rattle.page.proofs.pack.append.Goals as goal

pub insert_at_frontier-requires : goal.insert_at_frontier-requires
insert_at_frontier-requires c =
    rw (c.code_at.ensures, c.place_at.ensures) (insertable c.args.from.now c.args.i c.args.page.now c.requires.page c.requires.before c.requires.within)

pub returns : goal.returns
returns c =
    appended c.args.from.now c.args.i c.args.page.now c.requires.page c.requires.before c.requires.within c.insert_at_frontier.new.page
    (rw (c.code_at.ensures, c.place_at.ensures) at c.insert_at_frontier.ensures)
