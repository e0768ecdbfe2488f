-- A step of the copy: a page's bytes, then what is still to come. Assumes nothing.
use Rattle.std.proofs.Common.{arith, ◌<◌}
use Rattle.chains.proofs.Copying.{there, step_due, step_copied, lent_long}
use Rattle.chains.proofs.+copy_rest.Goals as goal

pub slice_bounds-copy_at-end : goal.slice_bounds-copy_at-end
slice_bounds-copy_at-end t c =
    let a = c.args in
    let some : 0 < a.m = omega (arith, c.if-m-eq0.false) in
    omega (arith, there a.size a.s.now a.q a.m a.out.now a.at c.requires some, c.requires.large, c.min-k.ensures)

pub copy_at-requires : goal.copy_at-requires
copy_at-requires t c =
    let a = c.args in
    let some : 0 < a.m = omega (arith, c.if-m-eq0.false) in
    let e = lent_long a.size a.s.now a.q 8 c.min-k.result (there a.size a.s.now a.q a.m a.out.now a.at c.requires some) (omega (arith, c.min-k.ensures, c.requires.large)) in
    omega (arith, e, c.requires.room, c.min-k.ensures)

pub copy_rest-requires : goal.copy_rest-requires
copy_rest-requires t c =
    let a = c.args in
    let k = c.min-k.ensures in
    let some : 0 < a.m = omega (arith, c.if-m-eq0.false) in (
      omega (arith, k, some, c.requires.large, c.decreases),
      rw (k, c.get32.ensures.0) (step_due a.size a.s.now a.q a.m a.out.now a.at c.requires some _ c.copy_at.ensures.old.len),
    )

pub returns : goal.returns
returns t c =
    let a = c.args in
    let some : 0 < a.m = omega (arith, c.if-m-eq0.false) in
    step_copied a.size a.s.now a.q a.m a.out.now a.at c.requires some c.min-k.result c.get32.result c.min-k.ensures c.get32.ensures.0 c.copy_at.ensures c.copy_rest.ensures
