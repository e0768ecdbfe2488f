use Rattle.std.proofs.Common.{◌≡◌, sym, ℕ, ◌+◌, List, length, get_or, arith, ◌∙◌}
use Rattle.ground.specs.Lists.{total}
use Rattle.page.proofs.Sums.{total_more, total_none, total_le}
use Rattle.words.proofs.Bytes.{span_none, span_up}
use Rattle.store_check.proofs.parted.add_up.Goals as goal

pub loop-cell-init : goal.loop-cell-init
loop-cell-init c = (span_none _ _ _, sym (total_none _))

-- one more
module _ (c : goal.After-replace-sum) where
  abbrev old : List ℕ
  old = c.args.cells.now

  abbrev at : ℕ
  at = c.loop-cell.cell-index

  next : c.loop-cell.sum + c.replace-sum.result ≡ total (λ j. get_or old j 0) (at + 1)
  next = omega (arith, c.loop-cell.invariant.1, c.replace-sum.ensures.value, c.loop-cell.invariant.0.above at (omega arith), total_more (λ j. get_or old j 0) at)

pub overflow_add-sum : goal.overflow_add-sum
overflow_add-sum c = record { fits = omega (arith, next c, total_le (λ j. get_or (old c) j 0) (at c + 1) (length (old c)) (omega (arith, c.loop-cell-test.true)), c.requires) }

pub loop-cell-preserved : goal.loop-cell-preserved
loop-cell-preserved c = (span_up _ c.loop-cell.invariant.0 (omega arith) (omega (arith, c.loop-cell.auto.cells, c.loop-cell-test.true)) (c.replace-sum.ensures.after ∙ c.loop-cell.invariant.1), next c)
