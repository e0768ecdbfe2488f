-- The counts are judged where every rule before them is kept.
use Rattle.std.proofs.Common.{◌/◌, length, subst, sym}
use Rattle.hash.specs.Fnv.{fnv}
use Rattle.store.specs.Accepted.{Page0From}
use Rattle.store.proofs.Accepted.Rules.{all_stand}
use Rattle.store_check.proofs.Heads.{standing}
use Rattle.store_check.proofs.Said.{said_sized}
use Rattle.store_check.proofs.Stops.{bad_before, bad_counts, all_counted}
use Rattle.store_check.specs.Begun.{AllStand}
use Rattle.store_check.proofs.checks.first_bad.Goals as goal

pub returns-in-Some : goal.returns-in-Some
returns-in-Some c = bad_before c.args.z fnv c.args.s.now c.requires.1 c.in-Some.p c.in-Some.ensures

pub counts_ok-requires : goal.counts_ok-requires
counts_ok-requires c =
    let a = c.args in
    let e = c.in_default.ensures in
    let all = standing 80 a.z (said_sized a.s.now a.z c.requires.0) a.s.now c.requires.1 e.0 (all_stand a.z fnv a.s.now (Page0From 80 a.z a.s.now) e) in
    subst (λ k. AllStand a.z a.s.now (length a.s.now / k)) (sym c.size.ensures) all

pub returns-then-not-counts_ok : goal.returns-then-not-counts_ok
returns-then-not-counts_ok c = bad_counts c.args.z fnv c.args.s.now c.requires.1 c.in_default.ensures c.if-not-counts_ok.ensures

pub returns : goal.returns
returns c = all_counted c.args.z fnv c.args.s.now c.requires.1 c.in_default.ensures c.if-not-counts_ok.ensures
