use Rattle.std.proofs.Common.{sym, subst}
use Rattle.ground.specs.Ladder.{Answers}
use Rattle.ground.proofs.Tests.{says_true, says_false}
use Rattle.hash.specs.Fnv.{fnv}
use Rattle.store.specs.Accepted.{Accepted}
use Rattle.store.specs.Demands.{GoodCode}
use Rattle.store.specs.Tables.{lookup_table, meaning}
use Rattle.store.proofs.Demands.Unchecked.{finds, finds_3}
use Rattle.lots.proofs.known.lookup_known.Goals as goal

pub returns-then-not-good_code : goal.returns-then-not-good_code
returns-then-not-good_code c = finds_3 _ fnv _ (c.requires c.if-not-known.false) _ (says_false {P = GoodCode c.args.key.now} c.good_code.result c.if-not-good_code.true c.good_code.ensures)

pub returns : goal.returns
returns c =
    let s = c.args.s.now in
    let coded = says_true {P = GoodCode c.args.key.now} c.good_code.result c.if-not-good_code.false c.good_code.ensures in
    let own = subst (λ S. Accepted S fnv s) (sym c.shape_of.ensures.0) (c.requires c.if-not-known.false) in
    subst (λ S. Answers (lookup_table S fnv s c.args.key.now) (meaning c.place_given.result)) c.shape_of.ensures.0 (finds c.shape_of.result fnv s own c.args.key.now _ coded c.place_given.ensures)
