-- The code is folded, then its row is put.
use Rattle.std.proofs.Common.{sym, subst, arith}
use Rattle.ground.specs.Ladder.{Answers}
use Rattle.hash.specs.Fnv.{fnv}
use Rattle.words.proofs.Folds.{folded_part, fold_good, fold_twice}
use Rattle.store.specs.Tables.{put_by_mode, meaning}
use Rattle.putting.specs.Put.{new_row, Puttable}
use Rattle.putting.proofs.putting.put_given.Goals as goal

pub put_row-requires : goal.put_row-requires
put_row-requires c =
    let a = c.args in
    let f = c.fold_code in
    let stored = folded_part _ a.key.now f.new.dst f.ensures (omega (arith, f.ensures.old.len, c.requires.good.most)) in
    subst (λ x. Puttable a.z fnv a.s.now x a.place.now) (sym stored)
    record { sized = c.requires.sized; accepted = c.requires.accepted; good = fold_good a.key.now c.requires.good; folded = fold_twice a.key.now; natural = c.requires.natural }

pub returns : goal.returns
returns c =
    let a = c.args in
    let f = c.fold_code in
    let r = c.put_row in
    let stored = folded_part _ a.key.now f.new.dst f.ensures (omega (arith, f.ensures.old.len, c.requires.good.most)) in
    subst (λ x. Answers (put_by_mode a.z fnv a.s.now a.mode (new_row x a.place.now)) (meaning r.result, r.new.s)) stored r.ensures
