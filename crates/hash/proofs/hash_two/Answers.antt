use Rattle.std.proofs.Common.{arith, ◌≡◌, ◌+◌, ◌-◌, ◌*◌, ◌/◌, refl, sym, ◌∙◌, take, drop}
use Rattle.fnv.specs.Fnv.Laws.{starts}
use Rattle.hash.specs.Fnv.{fnv}
use Rattle.hash.proofs.Bytes.{none, joined, counted}
use Rattle.hash.proofs.hash_two.Goals as goal
use Rattle.hash.proofs.hash_two.Goals.{then-i-b, else-i-b}

pub loop-k-init : goal.loop-k-init
loop-k-init c = record { first = none c.args.s.now 2166136261 c.args.a 0 refl; second = none c.args.s.now 2166136261 c.args.c 0 refl }

pub loop-k-preserved : goal.loop-k-preserved
loop-k-preserved c =
    let k = c.loop-k.k in
    record {
      first = joined c.args.s.now 2166136261 c.loop-k.x c.block-x.result c.args.a (c.args.a + 16 * k) (16 * k) 16 (16 * (k + 1)) c.loop-k.invariant.first c.block-x.ensures refl (omega arith);
      second = joined c.args.s.now 2166136261 c.loop-k.y c.block-y.result c.args.c (c.args.c + 16 * k) (16 * k) 16 (16 * (k + 1)) c.loop-k.invariant.second c.block-y.ensures refl (omega arith);
    }

pub returns-then-j-d : goal.returns-then-j-d
returns-then-j-d c =
    let s = c.args.s.now in
    let a = c.args.a in
    let b = c.args.b in
    let t = c.min-turns.result / 16 in
    let first : c.if-i-b.result ≡ fnv (take (b - a) (drop a s)) = elim c.if-i-b.branch [
      | then-i-b w ↦ rw w.result-is (counted s 2166136261 c.loop-k.x a (16 * c.loop-k.k) (b - a) c.loop-k.invariant.first (omega arith) ∙ sym (starts _))
      | else-i-b w ↦ rw w.result-is (joined s 2166136261 c.loop-k.x w.take_in.result a (a + 16 * t) (16 * c.loop-k.k) (b - (a + 16 * t)) (b - a) c.loop-k.invariant.first w.take_in.ensures (omega arith) (omega arith) ∙ sym (starts _))
    ] in
    (first, counted s 2166136261 c.loop-k.y c.args.c (16 * c.loop-k.k) (c.args.d - c.args.c) c.loop-k.invariant.second (omega arith) ∙ sym (starts _))

pub returns-else-j-d : goal.returns-else-j-d
returns-else-j-d c =
    let s = c.args.s.now in
    let a = c.args.a in
    let b = c.args.b in
    let t = c.min-turns.result / 16 in
    let first : c.if-i-b.result ≡ fnv (take (b - a) (drop a s)) = elim c.if-i-b.branch [
      | then-i-b w ↦ rw w.result-is (counted s 2166136261 c.loop-k.x a (16 * c.loop-k.k) (b - a) c.loop-k.invariant.first (omega arith) ∙ sym (starts _))
      | else-i-b w ↦ rw w.result-is (joined s 2166136261 c.loop-k.x w.take_in.result a (a + 16 * t) (16 * c.loop-k.k) (b - (a + 16 * t)) (b - a) c.loop-k.invariant.first w.take_in.ensures (omega arith) (omega arith) ∙ sym (starts _))
    ] in
    (first, joined s 2166136261 c.loop-k.y c.take_in-else-j-d.result c.args.c (c.args.c + 16 * t) (16 * c.loop-k.k) (c.args.d - (c.args.c + 16 * t)) (c.args.d - c.args.c) c.loop-k.invariant.second c.take_in-else-j-d.ensures (omega arith) (omega arith) ∙ sym (starts _))
