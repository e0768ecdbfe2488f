-- `cases::add` meets its contract. Assumes nothing.
use mathlib.Core.Logic.{⊎_elim}
use mathlib.Core.List.{List}
use Prim.Native.Nat.{ℕ, ◌+◌, ◌*◌}
use lib.ListN.{length}
use Rattle.ground.proofs.Sides.{side}
use Rattle.page.specs.Page.{Slotted, count, frontier}
use Rattle.page.specs.Packed.{Added}
use Rattle.cases.proofs.reads.add.Goals as goal

added : {p c pl t q t' : List ℕ} {s : ℕ} → Added p s c pl t q t' → Slotted q
added {p} {c} a = ⊎_elim (λ l. (a.tight l).0.2.page) (λ l. (a.roomy l).0.page) (side (length p) (frontier p + 4 * count p + (12 + length c)))

pub returns-in-Err : goal.returns-in-Err
returns-in-Err c = added c.insert_row.ensures
