use Rattle.std.proofs.Common.{◌≡◌, ◌+◌, ◌*◌, ◌≤◌, ◌∷◌, map, drop}
use Rattle.hash.specs.Fnv.{fnv}
use Rattle.page.specs.Page.{rows}
use Rattle.partition.specs.Partition.{needs, rows_of}
use Rattle.store.specs.Pages.{as_row}
use Rattle.putting.specs.Split.{keyed}
use Rattle.putting.proofs.weigh.load.Given as goal

abbrev pub invariant-loop-i : goal.invariant-loop-i
invariant-loop-i l = (l.sum ≤ 76 * l.i + 76) × (l.sum + needs (rows_of fnv (drop l.i (map as_row (rows l.page))) l.k l.v) ≡ needs (rows_of fnv (keyed l.key ∷ map as_row (rows l.page)) l.k l.v))
