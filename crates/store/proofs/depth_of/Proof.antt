-- `store::depth_of` meets its contract. Assumes nothing.
use borrow.Author.Rules.{rules}
use Prim.Native.Nat.{◌*◌, ◌+◌}
use mathlib.Core.Path.{sym}
use native.Mathlib.Omega.{arith}
use Rattle.store.specs.Pages.{size}
use Rattle.store.proofs.Paging.Depths.{depth_free, depth_used}
use Rattle.store.proofs.depth_of.Statement.{statement}
use Rattle.store.proofs.depth_of.Tie as tie

add_a : tie.Need-overflow_add-a
add_a c = search rules

mul-a : tie.Need-overflow_mul-a
mul-a c = search rules

shared-slice-read-if1 : tie.Need-bounds-s-a
shared-slice-read-if1 c = search rules

returns : tie.Need-returns-then-s-a-eq0
returns c = let a = c.args in (sym (depth_free a.z a.s.now a.p c.if-s-a-eq0.true), omega arith)

add-result : tie.Need-overflow_add-result
add-result c = search rules

shared-slice-read-result : tie.Need-bounds-s-a-2
shared-slice-read-result c = search rules

cast-result : tie.Need-overflow_cast-result
cast-result c = let a = c.args in omega (arith, c.shared_slice_known-2-1.given (a.p * size a.z + 1))

returns-2 : tie.Need-returns
returns-2 c = let a = c.args in (sym (depth_used a.z a.s.now a.p c.if-s-a-eq0.false), omega (arith, c.shared_slice_known-2-1.given (a.p * size a.z + 1)))

pub depth_of_spec : {M : Type 1} → statement M
depth_of_spec = tie.close (tie.spec add_a mul-a shared-slice-read-if1 returns add-result shared-slice-read-result cast-result returns-2)
