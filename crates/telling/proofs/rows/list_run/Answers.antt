use native.Mathlib.Nat.{sub-zero}
use Rattle.telling.proofs.Lines.{filled_lines}
use Rattle.telling.proofs.rows.list_run.Goals as goal

pub write_rows-requires : goal.write_rows-requires
write_rows-requires g c = simp sub-zero at (filled_lines c.args.z c.args.s.now c.args.n c.args.p c.args.i c.requires.along c.bucket_lines-f.ensures)
