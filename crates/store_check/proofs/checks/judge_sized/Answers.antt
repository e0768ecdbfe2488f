-- A size is told by its depth, and the tables are as long as it asks.
use Rattle.std.proofs.Common.{refl, arith}
use Rattle.partition.specs.Partition.{S1024}
use Rattle.partition.specs.Sizes.{S4096, S16384}
use Rattle.store.specs.Demands.{sized_1024}
use Rattle.store_check.proofs.Said.{by_depth, sized_4096, sized_16384, fresh}
use Rattle.store_check.proofs.checks.judge_sized.Goals as goal

pub judge-requires : goal.judge-requires
judge-requires c =
    let told = by_depth c.args.s.now c.args.z c.requires.0 in
    fresh S1024 _ _ _ sized_1024 refl (told.eight c.in-8.is, c.requires.1)

pub judge-requires-in-10 : goal.judge-requires-in-10
judge-requires-in-10 c =
    let told = by_depth c.args.s.now c.args.z c.requires.0 in
    fresh S4096 _ _ _ sized_4096 refl (told.ten c.in-10.is, c.requires.1)

pub judge-requires-in_default : goal.judge-requires-in_default
judge-requires-in_default c =
    let told = by_depth c.args.s.now c.args.z c.requires.0 in
    fresh S16384 _ _ _ sized_16384 refl (told.other (λ e. omega (arith, e)) (λ e. omega (arith, e)), c.requires.1)
