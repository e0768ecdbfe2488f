use Rattle.std.proofs.Common.{arith, ◌+◌, ◌-◌, ◌≤◌, ℕ, length}
use Rattle.std.proofs.lemmas.Cmp.{ranked}
use Rattle.words.proofs.Firsts.{Agreed, agreed_on, told_apart, told_by_length}
use Rattle.words.proofs.by_eights.Goals as goal
use Rattle.words.proofs.by_eights.Goals.{else-loop-i-test, then-loop-i-test+else-v-w+else-last-i-gt8}

pub returns-then-v-w : goal.returns-then-v-w
returns-then-v-w c =
    let i = c.loop-i.i in
    told_apart c.args.a.now c.args.b.now (λ k. omega (arith, c.type_inv.a k)) (λ k. omega (arith, c.type_inv.b k)) i i 8 c.loop-i.invariant.agreed (omega arith) (omega arith) (omega arith)
    c.cmp.result (rw (c.be64-v.ensures, c.be64-w.ensures) at (ranked c.be64-v.result c.be64-w.result c.cmp.result c.cmp.ensures)) (rw (c.be64-v.ensures, c.be64-w.ensures) at c.if-v-w.true)

pub loop-i-preserved : goal.loop-i-preserved
loop-i-preserved c =
    let i = c.loop-i.i in
    record {
      near = omega arith;
      agreed = agreed_on c.args.a.now c.args.b.now (λ k. omega (arith, c.type_inv.a k)) (λ k. omega (arith, c.type_inv.b k)) i i 8 c.loop-i.invariant.agreed (omega arith) (rw (c.be64-v.ensures, c.be64-w.ensures) at c.if-v-w.false);
    }

-- once the loop is over the codes agree before the last eight
pub returns-then-v-w-2 : goal.returns-then-v-w-2
returns-then-v-w-2 c =
    let a = c.args.a.now in
    let b = c.args.b.now in
    let last = c.min-last.result - 8 in
    let i = c.loop-i.i in
    let far : (j : ℕ) × (last ≤ j) × Agreed a b j = elim c.loop-i-test.branch [
      | else-loop-i-test w ↦ (i, omega arith, c.loop-i.invariant.agreed)
      | then-loop-i-test+else-v-w+else-last-i-gt8 w ↦ (i + 8, omega arith, agreed_on a b (λ k. omega (arith, c.type_inv.a k)) (λ k. omega (arith, c.type_inv.b k)) i i 8 c.loop-i.invariant.agreed (omega arith) (rw (w.be64-v.ensures, w.be64-w.ensures) at w.if-v-w.false))
    ] in
    told_apart a b (λ k. omega (arith, c.type_inv.a k)) (λ k. omega (arith, c.type_inv.b k)) far.0 last 8 far.2 far.1 (omega arith) (omega arith)
    c.cmp-then-v-w-2.result (rw (c.be64-v-2.ensures, c.be64-w-2.ensures) at (ranked c.be64-v-2.result c.be64-w-2.result c.cmp-then-v-w-2.result c.cmp-then-v-w-2.ensures)) (rw (c.be64-v-2.ensures, c.be64-w-2.ensures) at c.if-v-w-2.true)

pub returns : goal.returns
returns c =
    let a = c.args.a.now in
    let b = c.args.b.now in
    let last = c.min-last.result - 8 in
    let i = c.loop-i.i in
    let far : (j : ℕ) × (last ≤ j) × Agreed a b j = elim c.loop-i-test.branch [
      | else-loop-i-test w ↦ (i, omega arith, c.loop-i.invariant.agreed)
      | then-loop-i-test+else-v-w+else-last-i-gt8 w ↦ (i + 8, omega arith, agreed_on a b (λ k. omega (arith, c.type_inv.a k)) (λ k. omega (arith, c.type_inv.b k)) i i 8 c.loop-i.invariant.agreed (omega arith) (rw (w.be64-v.ensures, w.be64-w.ensures) at w.if-v-w.false))
    ] in
    let whole : Agreed a b (last + 8) = agreed_on a b (λ k. omega (arith, c.type_inv.a k)) (λ k. omega (arith, c.type_inv.b k)) far.0 last 8 far.2 far.1 (rw (c.be64-v-2.ensures, c.be64-w-2.ensures) at c.if-v-w-2.false) in
    told_by_length a b (λ k h. whole k (omega arith)) c.cmp-2.result (ranked (length a) (length b) c.cmp-2.result c.cmp-2.ensures)
