use Rattle.words.proofs.Orders.{eq_says}
use Rattle.joining.proofs.join.has_code.Goals as goal

pub returns : goal.returns
returns c = rw c.is_eq.ensures (eq_says _ _ c.compare_slot.result c.compare_slot.ensures)
