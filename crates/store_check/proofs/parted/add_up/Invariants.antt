use Rattle.std.proofs.Common.{◌≡◌, get_or}
use Rattle.ground.specs.Lists.{total}
use Rattle.words.specs.Moves.{Span}
use Rattle.store_check.proofs.parted.add_up.Given as goal

abbrev pub invariant-loop-cell : goal.invariant-loop-cell
invariant-loop-cell l =
    Span l.fn.cells 0 l.cell-index (λ i. total (λ j. get_or l.fn.cells j 0) i) l.cells
    × (l.sum ≡ total (λ j. get_or l.fn.cells j 0) l.cell-index)
