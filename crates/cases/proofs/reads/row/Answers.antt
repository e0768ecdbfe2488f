-- The code that inspection gives fits the output. Assumes nothing.
use Rattle.std.proofs.Common.{arith}
use Rattle.page_reader.proofs.Rows.{inspect_fits}
use Rattle.cases.proofs.reads.row.Goals as goal

pub slice_bounds-digits-end : goal.slice_bounds-digits-end
slice_bounds-digits-end g c =
    omega (arith, inspect_fits c.args.bucket.now _ _ c.in-Ok-RowOf.m c.in-Ok-RowOf.p _ (rw c.in-Ok-RowOf.field-0-is at c.in-Ok-RowOf.ensures), c.inspect.auto)
