use Rattle.std.proofs.Common.{rules}
use Rattle.telling.proofs.Inspecting.{slot_given}
use Rattle.telling.proofs.slots.page_row.Goals as goal

pub tell_slot-requires : goal.tell_slot-requires
tell_slot-requires g c = search (rules, slot_given)
