use Rattle.std.proofs.Common.{arith, ◌≡◌, ◌+◌, ◌∷◌, length, suc}
use Rattle.std.proofs.Math.ListN.{drop}
use Rattle.std.proofs.Math.Seq.{drop-cons}
use Rattle.std.proofs.lemmas.Cmp.{ranked}
use mathlib.Core.Logic.{inl, inr, ◌⊎◌, ⊎_elim}
use native.Mathlib.Numerals.{add-one}
use Rattle.std.proofs.lemmas.List.{length-drop}
use Rattle.ground.specs.Lists.{byte}
use Rattle.ground.proofs.Sides.{side}
use Rattle.words.proofs.Orders.{ordered_next, ordered_first, ordered_end}
use Rattle.words.proofs.compare.Goals as goal

pub returns-then-x-y : goal.returns-then-x-y
returns-then-x-y c =
    let a = c.args.a.now in
    let b = c.args.b.now in
    let i = c.loop-i.i in
    let o = c.cmp.result in
    let x : drop i a ≡ byte a i ∷ drop (suc i) a = drop-cons a i 0 (omega (arith, c.min-i-end.ensures)) in
    let y : drop i b ≡ byte b i ∷ drop (suc i) b = drop-cons b i 0 (omega (arith, c.min-i-end.ensures)) in
    c.loop-i.invariant o (rw (x, y) (ordered_first (byte a i) (byte b i) (drop (suc i) a) (drop (suc i) b) o (ranked (byte a i) (byte b i) o c.cmp.ensures) c.if-x-y.true))

pub loop-i-preserved : goal.loop-i-preserved
loop-i-preserved c =
    let a = c.args.a.now in
    let b = c.args.b.now in
    let i = c.loop-i.i in
    let x : drop i a ≡ byte a i ∷ drop (suc i) a = drop-cons a i 0 (omega (arith, c.min-i-end.ensures)) in
    let y : drop i b ≡ byte b i ∷ drop (suc i) b = drop-cons b i 0 (omega (arith, c.min-i-end.ensures)) in
    let e : i + 1 ≡ suc i = add-one i in
    λ o h. c.loop-i.invariant o (rw (x, y) (ordered_next (byte a i) (byte b i) (drop (suc i) a) (drop (suc i) b) o c.if-x-y.false (rw e at h)))

pub returns : goal.returns
returns c =
    let a = c.args.a.now in
    let b = c.args.b.now in
    let i = c.loop-i.i in
    let o = c.cmp-2.result in
    let m : length (drop i a) + i ≡ length a = omega (arith, length-drop i a, c.min-i-end.ensures) in
    let n : length (drop i b) + i ≡ length b = omega (arith, length-drop i b, c.min-i-end.ensures) in
    let ended : (length (drop i a) ≡ 0) ⊎ (length (drop i b) ≡ 0) = ⊎_elim (λ l. inl (omega (arith, c.min-i-end.ensures))) (λ g. inr (omega (arith, c.min-i-end.ensures))) (side (length a) (length b)) in
    c.loop-i.invariant o (ordered_end (drop i a) (drop i b) (length a) (length b) o ended (omega arith) (ranked (length a) (length b) o c.cmp-2.ensures))
