-- `report::place_at` meets its contract. Assumes nothing.
use Prim.Native.Nat.{◌/◌, ◌%◌}
use native.Mathlib.Omega.{arith}
use mir.Syntax.{w16, w32}
use mir.Facts.{to_z_pos}
use Rattle.report.proofs.named.place_at.Goals as goal

pub returns : goal.returns
returns c = λ i. record {
  page = to_z_pos w32 {n = c.args.w / 4294967296 % 2147483648} (omega arith) i;
  slot = to_z_pos w16 {n = c.args.w / 65536 % 32768} (omega arith) i;
  volume = to_z_pos w16 {n = c.args.w % 32768} (omega arith) i;
}
