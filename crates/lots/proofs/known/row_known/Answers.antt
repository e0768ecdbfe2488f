use Rattle.std.proofs.Common.{sym, subst}
use Rattle.ground.specs.Ladder.{Answers}
use Rattle.hash.specs.Fnv.{fnv}
use Rattle.store.specs.Accepted.{Accepted}
use Rattle.store.specs.Tables.{row_table, meaning}
use Rattle.store.proofs.Demands.Unchecked.{gives}
use Rattle.lots.proofs.known.row_known.Goals as goal

pub returns : goal.returns
returns c =
    let s = c.args.s.now in
    let own = subst (λ S. Accepted S fnv s) (sym c.shape_of.ensures.0) (c.requires.0 c.if-not-known.false) in
    subst (λ S. Answers (row_table S fnv s c.args.n c.args.out.now) (meaning c.give_row.result, c.give_row.new.out)) c.shape_of.ensures.0 (gives c.shape_of.result fnv s own _ _ _ c.requires.1 c.give_row.ensures)
