-- `report::report`: what holds of the report over the sheet's numbers holds of it over the sheet.
use mathlib.Core.Path.{subst}
use Prim.Native.Nat.{ℕ, ◌*◌}
use mathlib.Core.List.{List}
use lib.ListN.{replicate}
use Rattle.ground.specs.Ladder.{Answers}
use Rattle.hash.specs.Fnv.{fnv}
use Rattle.partition.specs.Sizes.{shape_of}
use Rattle.report.specs.Report.{limit, reported}
use Rattle.report.specs.Numbers.{outside, spread_from, numbers_table}
use Rattle.report.proofs.Refines.{refines}
use Rattle.report.proofs.report.Goals as goal

pub returns : goal.returns
returns c =
    let s : List ℕ = c.args.store.now in
    let xs = c.args.sheet.now in
    refines (shape_of s) fnv s xs (reported c.judge.result)
    (subst (λ (m : ℕ). Answers (numbers_table (shape_of s) fnv s (spread_from 0 xs (replicate (2 * limit) outside)) m) (reported c.judge.result)) c.spread-n.ensures.0
    (subst (λ (ws : List ℕ). Answers (numbers_table (shape_of s) fnv s ws c.spread-n.result) (reported c.judge.result)) c.spread-n.ensures.1 c.judge.ensures))
