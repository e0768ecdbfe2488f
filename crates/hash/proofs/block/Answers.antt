use Rattle.std.proofs.Common.{arith, ◌≡◌, ◌+◌, ◌-◌, ◌<◌, refl, ◌∙◌, sym, take, drop, get_or, length-take, length-drop}
use lib.Seq.{get_or-take, get_or-drop}
use Rattle.fnv.specs.Fnv.{each}
use Rattle.hash.proofs.Bytes.{none, taken, joined, counted}
use Rattle.hash.proofs.block.Goals as goal

pub loop-b-init : goal.loop-b-init
loop-b-init g c = none c.args.s.now c.args.h c.args.i 0 refl

pub loop-b-preserved : goal.loop-b-preserved
loop-b-preserved g c =
    let s = c.args.s.now in
    let i = c.args.i in
    let k = c.loop-b.b-index in
    let l : c.loop-b.x ≡ each c.args.h (take k (drop i s)) = c.loop-b.invariant in
    let n : k < i + g.row.N - i = omega (arith, length-take (i + g.row.N - i) (drop i s), length-drop i s) in
    let e : get_or (take (i + g.row.N - i) (drop i s)) k 0 ≡ get_or s (i + k) 0 = get_or-take (i + g.row.N - i) (drop i s) k 0 n ∙ get_or-drop i s k 0 in
    joined s c.args.h c.loop-b.x c.step-x.result i (i + k) k 1 (k + 1) l (taken s c.loop-b.x (i + k) c.step-x.result 1 (omega arith) (rw e at c.step-x.ensures) refl) refl refl

pub returns : goal.returns
returns g c =
    let s = c.args.s.now in
    let i = c.args.i in
    let k = c.loop-b.b-index in
    let l : c.loop-b.x ≡ each c.args.h (take k (drop i s)) = c.loop-b.invariant in
    counted s c.args.h c.loop-b.x i k g.row.N l (omega (arith, length-take (i + g.row.N - i) (drop i s), length-drop i s))
