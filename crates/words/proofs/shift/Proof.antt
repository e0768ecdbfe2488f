-- `words::shift` meets its contract. Assumes nothing.
use mathlib.Core.Logic.{inl, inr}
use native.Mathlib.Omega.{arith}
use Rattle.words.proofs.Folds.{byte_kept, byte_capital}
use Rattle.words.proofs.shift.Statement.{statement}
use Rattle.words.proofs.shift.Tie as tie

returns : tie.Need-returns-then-x-lt65
returns c = (omega (arith, (byte_kept c.args.x).1 (inl (omega arith))), omega arith)

returns-2 : tie.Need-returns-then-x-gt90
returns-2 c = (omega (arith, (byte_kept c.args.x).1 (inr (omega arith))), omega arith)

returns-3 : tie.Need-returns
returns-3 c = (omega (arith, byte_capital c.args.x (omega arith) (omega arith)), omega arith)

pub shift_spec : {M : Type 1} → statement M
shift_spec = tie.close (tie.spec returns returns-2 returns-3)
