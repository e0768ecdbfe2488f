use Rattle.std.proofs.Common.{arith, ℕ, ◌≡◌, ◌+◌, ◌-◌, ◌≤◌, refl, ap, List, length}
use native.Mathlib.Nat.{zero-add}
use Rattle.ground.specs.Lists.{byte}
use Rattle.words.specs.Folds.{fold}
use Rattle.words.specs.Moves.{Wrote}
use Rattle.words.proofs.Bytes.{wrote_as, wrote_on}
use Rattle.words.proofs.Folds.{fold_length}
use Rattle.words.proofs.fold_code.Goals as goal
use Rattle.words.proofs.fold_code.Goals.{else-loop-i-test, then-loop-i-test+else-last-i-gt8}

-- from index 0 on
from_start : {p q : List ℕ} {n : ℕ} {f : ℕ → ℕ} → Wrote p 0 n (λ j. f (0 + j)) q → Wrote p 0 n f q
from_start {f = f} w = wrote_as refl (λ i h. ap f (zero-add i)) w

pub loop-i-init : goal.loop-i-init
loop-i-init c = record { near = omega arith; wrote = from_start c.fold_eight.ensures }

pub loop-i-preserved : goal.loop-i-preserved
loop-i-preserved c = record { near = omega arith; wrote = wrote_on c.loop-i.invariant.wrote c.fold_eight-in-loop-i.ensures (omega arith) (omega arith) }

pub returns : goal.returns
returns c =
    let src = c.args.src.now in
    let last = length src - 8 in
    let i = c.loop-i.i in
    let n : last + 8 ≡ length (fold src) = omega (arith, fold_length src) in
    let far : (j : ℕ) × (last ≤ j) × (j ≤ last + 8) × Wrote c.args.dst.now 0 j (λ k. byte (fold src) k) c.loop-i-test.dst = elim c.loop-i-test.branch [
      | else-loop-i-test w ↦ (i, omega arith, omega arith, rw w.dst-is c.loop-i.invariant.wrote)
      | then-loop-i-test+else-last-i-gt8 w ↦ (i + 8, omega arith, omega arith, rw w.dst-is (wrote_on c.loop-i.invariant.wrote w.fold_eight-in-loop-i.ensures (omega arith) (omega arith)))
    ] in
    wrote_as n (λ i h. refl) (wrote_on far.3 c.fold_eight-2.ensures far.1 far.2)
