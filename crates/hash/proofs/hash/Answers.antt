use Rattle.std.proofs.Common.{arith, ◌+◌, ◌*◌, ◌/◌, ◌%◌, refl, sym, ap, ◌∙◌, length}
use lib.Seq.{take_all}
use Rattle.fnv.specs.Fnv.{each}
use Rattle.fnv.specs.Fnv.Laws.{starts}
use Rattle.hash.proofs.Bytes.{none, joined}
use Rattle.hash.proofs.hash.Goals as goal

pub loop-k-init : goal.loop-k-init
loop-k-init c = none c.args.code.now 2166136261 0 0 refl

pub loop-k-preserved : goal.loop-k-preserved
loop-k-preserved c =
    let k = c.loop-k.k in
    joined c.args.code.now 2166136261 c.loop-k.h c.block-h.result 0 (16 * k) (16 * k) 16 (16 * (k + 1)) c.loop-k.invariant c.block-h.ensures (omega arith) (omega arith)

pub returns : goal.returns
returns c =
    let s = c.args.code.now in
    let n = length s in
    joined s 2166136261 c.loop-k.h c.rest.result 0 (n / 16 * 16) (16 * c.loop-k.k) (n % 16) n c.loop-k.invariant c.rest.ensures (omega arith) (omega arith)
    ∙ ap (each 2166136261) (take_all n s (omega arith)) ∙ sym (starts _)
