use Rattle.std.proofs.Common.{◌≡◌, length}
use Rattle.hash.specs.Fnv.{fnv}
use Rattle.partition.specs.Partition.{rows_of}
use Rattle.putting.specs.Split.{slots, Behind, Appended}
use Rattle.putting.proofs.bucket.append_slots.Given as goal

abbrev pub invariant-loop-i : goal.invariant-loop-i
invariant-loop-i l = (length l.page ≡ length l.initial.page) × Appended l.initial.page (rows_of fnv (slots l.from l.a l.i) l.k l.v) l.page × Behind l.page (rows_of fnv (slots l.from l.i l.b) l.k l.v)
