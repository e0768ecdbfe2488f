use Rattle.std.proofs.Common.{◌≡◌, ◌≤◌}
use Rattle.hash.specs.Fnv.{fnv}
use Rattle.store.specs.Pages.{contents}
use Rattle.counts.specs.Tallies.{BucketsCounted}
use Rattle.joining.proofs.Empties.{Taken}
use Rattle.joining.proofs.join.gather.Given as goal

abbrev pub invariant-loop-i : goal.invariant-loop-i
invariant-loop-i l =
    Taken l.z fnv l.fn.s l.of.n l.of.x l.of.j l.of.key.now l.fn.to l.i-iterator.start l.low l.to l.s
    × BucketsCounted (contents l.z l.s) l.tallies
    × (l.initial.i-iterator.start ≤ l.i-iterator.start) × (l.i-iterator.start ≤ l.i-iterator.end) × (l.i-iterator.end ≡ l.initial.i-iterator.end)
