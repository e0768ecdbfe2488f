-- What `batch::put_each` keeps: the puts before i are made, and with those that are left the chain is whole. Assumes nothing.
use Prim.Native.Nat.{◌+◌}
use mathlib.Core.Path.{◌≡◌}
use lib.ListN.{length, drop}
use Rattle.hash.specs.Fnv.{fnv}
use Rattle.store.specs.Accepted.{Accepted}
use Rattle.batch.specs.Batch.{sum, wanted}
use Rattle.batch.proofs.Chains.{left_from, Made_to}
use Rattle.batch.proofs.tender.put_each.Given as goal

abbrev pub invariant-loop-i : goal.invariant-loop-i
invariant-loop-i l =
    (l.at + sum (drop l.i l.fn.lengths) ≡ length l.fn.codes) × (length l.answers ≡ length l.fn.answers) × (length l.s ≡ length l.fn.s) × Accepted l.fn.z fnv l.s
    × Made_to l.fn.z fnv l.fn.mode (wanted l.fn.codes l.fn.lengths l.fn.places) l.fn.s (left_from l.fn.codes l.fn.lengths l.fn.places l.at l.i) l.i l.answers l.s
