-- `report::tally::tally`: the cursor stands before row k, of which the tally and the marks are known.
use Rattle.std.proofs.Common.{◌-◌, length, List, ℕ, map}
use Rattle.hash.specs.Fnv.{fnv}
use Rattle.partition.specs.declared.Shape.{Shape}
use Rattle.partition.specs.Listing.{listing}
use Rattle.store.specs.Pages.{rows_held}
use Rattle.query.specs.Cursors.{At}
use Rattle.report.specs.Numbers.{rank_on}
use Rattle.report.proofs.Counts.{Counting}
use Rattle.report.proofs.Runs.{Going}
use Rattle.report.proofs.tally.tally.Given as goal

abbrev pub ranks_in : Shape → List ℕ → List ℕ
ranks_in z s = map rank_on (listing z fnv (rows_held z s))

abbrev pub invariant-loop-place : goal.invariant-loop-place
invariant-loop-place l = Going l.sheet.ranks.now l.sheet.raised.now (ranks_in l.z l.s) l.fn.counts l.counts l.t.codes l.t.sum × Counting l.sheet.raised.now l.fn.counts l.counts l.t × At l.z l.s l.t.codes l.c

abbrev pub decreases-loop-place : goal.decreases-loop-place
decreases-loop-place l = length (listing l.z fnv (rows_held l.z l.s)) - l.t.codes
