-- The number that digits write grows with each digit. Assumes nothing.
use Prim.Native.Nat.{ℕ, zero, suc, ◌+◌, ◌*◌, ◌-◌, ◌^◌, ◌≤◌, ◌<◌}
use mathlib.Core.Path.{◌≡◌, refl, subst}
use mathlib.Core.List.{List}
use Rattle.std.specs.Prelude.{Some, None}
use native.Mathlib.Nat.{add-zero, add-suc, le_refl}
use native.Mathlib.Numerals.{add-one}
use native.Mathlib.Omega.{arith}
use lib.ListN.{length}
use Rattle.ground.specs.Lists.{byte}
use Rattle.commands.specs.Numbers.{value, Digit, Worth, ReadsNumber}

value_step : (w : List ℕ) (k : ℕ) → value w (k + 1) ≡ value w k * 10 + (byte w k - 48)
unfolding value
value_step w k = rw add-one

-- one digit more
pub next : (w : List ℕ) (k n d : ℕ) → value w k ≡ n → Worth (byte w k) (Some d) → value w (k + 1) ≡ n * 10 + d
next w k n d e h = let b : byte w k ≡ 48 + d = h.0 in let s : value w (k + 1) ≡ value w k * 10 + (byte w k - 48) = value_step w k in omega arith

pub is_digit : (b d : ℕ) → Worth b (Some d) → Digit b
is_digit b d h = let e : b ≡ 48 + d = h.0 in record { least = omega arith; most = omega arith }

pub value_none : (w : List ℕ) → value w 0 ≡ 0
unfolding value
value_none w = refl

value_grows : (w : List ℕ) (i k : ℕ) → value w i ≤ value w (i + k)
unfolding value
value_grows w i zero = rw add-zero (le_refl _)
value_grows w i (suc k) = let h : value w i ≤ value w (i + k) = value_grows w i k in rw add-suc (omega arith)

-- a word with another byte, or with too much in its first digits, is no number of 64 bits
pub no_digit : (w : List ℕ) (i : ℕ) → i < length w → (Digit (byte w i) → ⊥) → ReadsNumber w None
no_digit w i h d = λ n l e. d (e.each i h)

too_much : (w : List ℕ) (i : ℕ) → i ≤ length w → 2 ^ 64 ≤ value w i → ReadsNumber w None
too_much w i h m = λ n l e.
    let k : i + (length w - i) ≡ length w = omega arith in
    let g : value w i ≤ value w (length w) = subst (λ (j : ℕ). value w i ≤ value w j) k (value_grows w i (length w - i)) in
    omega arith

pub overflows : (w : List ℕ) (k n d : ℕ) → k < length w → value w k ≡ n → Worth (byte w k) (Some d) → 2 ^ 64 ≤ n * 10 + d → ReadsNumber w None
overflows w k n d h e o m = too_much w (k + 1) (omega arith) (rw (next w k n d e o) m)
