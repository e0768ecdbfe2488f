-- A list that is filled from a on, one element after the other. Assumes nothing.
use mathlib.Core.Path.{◌≡◌, sym, subst, ◌∙◌}
use mathlib.Core.List.{List}
use mathlib.Core.Logic.{⊎_elim}
use Prim.Native.Nat.{ℕ, ◌+◌, ◌≤◌, ◌<◌}
use native.Mathlib.Omega.{arith}
use lib.ListN.{length, get_or, set, length-set}
use lib.Seq.{get_or-set_same, get_or-set_other}
use Rattle.ground.proofs.Sides.{side}
use Rattle.store_check.proofs.Runs.{Run}

-- of n elements those from a up to i are as P says
pub record Filled (P : ℕ → ℕ → Type 0) (n a i : ℕ) (l : List ℕ) : Type 0 where
  pub long : length l ≡ n
  pub start : a ≤ i
  pub each : Run (λ k. P k (get_or l k 0)) a i

pub filled_none : (P : ℕ → ℕ → Type 0) (n a : ℕ) (l : List ℕ) → length l ≡ n → Filled P n a a l
filled_none P n a l e = record { long = e; start = omega arith; each = λ i x y. absurd (omega arith) }

pub filled_more : (P : ℕ → ℕ → Type 0) {n a i v : ℕ} {l : List ℕ} → Filled P n a i l → i < n → P i v → Filled P n a (i + 1) (set l i v)
filled_more P {n} {a} {i} {v} {l} d m e = record {
  long = length-set l i v ∙ d.long;
  start = omega (arith, d.start);
  each = λ k x y. ⊎_elim
      (λ lt. subst (P k) (sym (get_or-set_other l i k v 0 (λ q. omega arith))) (d.each k x lt))
      (λ ge.
      let q : i ≡ k = omega arith in
      subst (λ j. P j (get_or (set l i v) j 0)) q (subst (P i) (sym (get_or-set_same l i v 0 (omega (arith, d.long)))) e))
      (side k i);
}
