-- Two numbers against each other. Assumes nothing.
use mathlib.Core.Logic.{◌⊎◌, inl, inr}
use Prim.Native.Nat.{ℕ, ◌≤◌, ◌<◌}
use native.Mathlib.Decide.{dec_lt}
use native.Mathlib.Omega.{arith}
use borrow.Author.Tests.{eqb-true, eqb-false}
use mathlib.Core.Bool.{Bool, true, false}
use mathlib.Core.Path.{◌≡◌, refl}
use lib.Dec.{eqb}

-- which of two numbers is less
pub side : (a b : ℕ) → (a < b) ⊎ (b ≤ a)
side a b = elim (dec_lt a b) [ yes h ↦ inl h | no h ↦ inr (omega arith) ]

same_by : (a b : ℕ) (t : Bool) → eqb a b ≡ t → (a ≡ b) ⊎ (a ≡ b → ⊥)
same_by a b true e = inl (eqb-true a b e)
same_by a b false e = inr (eqb-false a b e)

-- two numbers are one or not
pub same : (a b : ℕ) → (a ≡ b) ⊎ (a ≡ b → ⊥)
same a b = same_by a b (eqb a b) refl
