-- Part of a page, as it is lent: zero where the page is. Assumes nothing.
use mathlib.Core.Path.{◌≡◌, sym, ap, ◌∙◌}
use mathlib.Core.List.{List}
use mathlib.Core.Logic.{⊎_elim}
use Prim.Native.Nat.{ℕ, ◌+◌, ◌-◌, ◌≤◌, ◌<◌}
use native.Mathlib.Omega.{arith}
use lib.ListN.{length, take, drop, get_or-eq_default}
use Rattle.ground.specs.Lists.{byte, part}
use Rattle.ground.proofs.Sides.{side}
use Rattle.ground.proofs.Parts.{byte_part, length_part, lent_part}
use Rattle.words.specs.Zeros.{Zero}

-- the bytes lent from a up to e
pub lent_zero : (s : List ℕ) (a e : ℕ) → a ≤ e → e ≤ length s → Zero (take (e - a) (drop a s)) → (k : ℕ) → a ≤ k → k < e → byte s k ≡ 0
lent_zero s a e l m z k lo hi =
    let n : a + (k - a) ≡ k = omega arith in
    ap (λ i. byte s i) (sym n) ∙ sym (byte_part s a (e - a) (k - a) (omega arith)) ∙ ap (λ g. byte g (k - a)) (sym (lent_part s a e (e - a) (omega arith))) ∙ z (k - a)

pub zero_lent : (s : List ℕ) (a e : ℕ) → a ≤ e → e ≤ length s → ((k : ℕ) → a ≤ k → k < e → byte s k ≡ 0) → Zero (take (e - a) (drop a s))
zero_lent s a e l m z k =
    let q : take (e - a) (drop a s) ≡ part s a (e - a) = lent_part s a e (e - a) (omega arith) in
    ap (λ g. byte g k) q
    ∙ ⊎_elim (λ lt. byte_part s a (e - a) k lt ∙ z (a + k) (omega arith) (omega arith))
    (λ ge. get_or-eq_default (part s a (e - a)) 0 (omega (arith, length_part s a (e - a) (omega arith)))) (side k (e - a))
