-- `sheets::Sheet::fresh` has nothing read.
use Rattle.std.proofs.Common.{refl}
use Rattle.sheets.proofs.Read.{nothing_read}
use Rattle.sheets.proofs.Sheet.fresh.Goals as goal

pub returns : goal.returns
returns c = record { fill = refl; number = refl; read = nothing_read _ refl refl refl refl refl refl refl }
