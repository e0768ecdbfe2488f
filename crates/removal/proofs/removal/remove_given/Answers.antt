-- The code is folded, then its row goes.
use Rattle.std.proofs.Common.{subst, arith}
use Rattle.ground.specs.Ladder.{Answers}
use Rattle.hash.specs.Fnv.{fnv}
use Rattle.words.proofs.Folds.{folded_part}
use Rattle.store.specs.Tables.{remove_accepted, meaning}
use Rattle.removal.proofs.removal.remove_given.Goals as goal

pub returns : goal.returns
returns c =
    let a = c.args in
    let f = c.fold_code in
    let r = c.remove_row in
    subst (λ x. Answers (remove_accepted a.z fnv a.s.now x) (meaning r.result, r.new.s))
    (folded_part _ a.key.now f.new.dst f.ensures (omega (arith, f.ensures.old.len, c.requires.good.most))) r.ensures
