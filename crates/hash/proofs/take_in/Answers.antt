use Rattle.std.proofs.Common.{arith, ◌+◌, ◌-◌, ◌*◌, ◌/◌, ◌%◌, refl}
use Rattle.hash.proofs.Bytes.{none, joined}
use Rattle.hash.proofs.take_in.Goals as goal

pub loop-k-init : goal.loop-k-init
loop-k-init c = none c.args.s.now c.args.h c.args.from 0 refl

pub loop-k-preserved : goal.loop-k-preserved
loop-k-preserved c =
    let k = c.loop-k.k in
    joined c.args.s.now c.args.h c.loop-k.x c.block-x.result c.args.from (c.args.from + 16 * k) (16 * k) 16 (16 * (k + 1)) c.loop-k.invariant c.block-x.ensures refl (omega arith)

pub returns : goal.returns
returns c =
    let n = c.args.to - c.args.from in
    joined c.args.s.now c.args.h c.loop-k.x c.rest.result c.args.from (c.args.from + n / 16 * 16) (16 * c.loop-k.k) (n % 16) n c.loop-k.invariant c.rest.ensures (omega arith) (omega arith)
