-- `joining::gather_row` meets its contract: a row goes to the frontier, its slot where its code belongs. Assumes nothing.
use Prim.Native.Nat.{ℕ}
use mathlib.Core.Path.{subst}
use Rattle.std.specs.Prelude.{Result}
use Rattle.page.specs.Found.{FoundIn}
use Rattle.joining.proofs.Gathers.{row_fits, row_added, row_known}
use Rattle.joining.proofs.join.gather_row.Goals as goal

pub insert_at_frontier-requires : goal.insert_at_frontier-requires
insert_at_frontier-requires c =
    row_fits c.args.to.now c.args.key.now c.args.place.now c.requires.0 c.requires.1 c.in-Err.i
    (subst (λ (r : Result ℕ ℕ). FoundIn c.args.to.now c.args.key.now r) c.in-Err.is c.find_code.ensures)

pub returns-in-Err : goal.returns-in-Err
returns-in-Err c =
    row_added c.args.to.now c.args.key.now c.args.place.now c.requires.0 c.requires.1 c.in-Err.i c.insert_at_frontier.new.page
    (subst (λ (r : Result ℕ ℕ). FoundIn c.args.to.now c.args.key.now r) c.in-Err.is c.find_code.ensures) c.insert_at_frontier.ensures

pub returns-in_default : goal.returns-in_default
returns-in_default c =
    let w = subst (λ (r : Result ℕ ℕ). FoundIn c.args.to.now c.args.key.now r) c.in_default.is c.find_code.ensures in
    absurd (row_known c.args.to.now c.args.key.now c.args.place.now c.requires.0 c.requires.1 c.in_default.field-0 w.0 w.1)
