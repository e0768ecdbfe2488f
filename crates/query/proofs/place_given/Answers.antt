-- The code is folded, then looked up.
use Rattle.std.proofs.Common.{subst, arith}
use Rattle.ground.specs.Ladder.{Answers}
use Rattle.words.proofs.Folds.{folded_part}
use Rattle.store.specs.Tables.{looked_up, meaning}
use Rattle.query.proofs.place_given.Goals as goal

pub returns : goal.returns
returns c =
    let f = c.fold_code in
    subst (λ x. Answers (looked_up c.args.z c.args.s.now x) (meaning c.place_of.result))
    (folded_part _ c.args.key.now f.new.dst f.ensures (omega (arith, f.ensures.old.len, c.requires.good.most))) c.place_of.ensures
