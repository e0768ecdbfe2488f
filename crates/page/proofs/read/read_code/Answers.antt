-- `page::read_code` meets its contract: there is room for the code. Assumes nothing.
use Prim.Native.Nat.{ℕ, ◌≤◌}
use mathlib.Core.Path.{ap}
use mathlib.Core.List.{List}
use native.Mathlib.Omega.{arith}
use lib.ListN.{length}
use Rattle.words.proofs.Bytes.{copied_front}
use Rattle.page.specs.Page.{code}
use Rattle.page.specs.Found.{CodeAsked}
use Rattle.page.proofs.Slots.{lies}
use Rattle.page.proofs.Sums.{len_of_code}
use Rattle.page.proofs.read.read_code.Goals as goal

fits : {p out : List ℕ} {i : ℕ} → CodeAsked p i out → length (code p i) ≤ length out
fits {p} {out} {i} a = omega (arith, lies i a.page a.within, len_of_code p i a.page a.within, a.room)

pub copy_at-requires : goal.copy_at-requires
copy_at-requires c = rw c.code_at-c.ensures (omega (arith, fits c.requires))

pub returns : goal.returns
returns c = record {
  size = ap length c.code_at-c.ensures;
  wrote = copied_front (code c.args.page.now c.args.i) (rw c.code_at-c.ensures at c.copy_at.ensures) (fits c.requires);
}
