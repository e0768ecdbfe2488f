-- Amounts of 64 bits: their signs and sizes. Assumes nothing.
use Prim.Native.Nat.{ℕ, suc, ◌+◌, ◌-◌}
use mathlib.Core.Path.{◌≡◌, refl, sym, ap, ◌∙◌, subst}
use mathlib.Core.Bool.{Bool, true, cond}
use native.Mathlib.Numerals.{add-one}
use native.Mathlib.Omega.{arith}
use lib.IntN.{ℤ, pos, negsuc, neg_ℤ, nat_abs, ◌-ℤ◌}
use lib.Signed.{mag, lt_z}
use mir.Syntax.{w64}
use mir.Val.{SFits, to_z, of_z}
use mir.Facts.{to_z-of_z}
use borrow.Author.Tests.{le-ltb}
use Rattle.commands.specs.Numbers.{signed}
use Rattle.commands.proofs.Signs.{below_zero}

-- the size that `unsigned_abs` promises of any of them, and the sign that the test below zero tells
pub size_is : (z : ℤ) → z ≡ signed (lt_z z (pos 0)) (nat_abs z)
size_is (pos n) = sym (ap (λ (b : Bool). signed b n) (le-ltb n 0 (omega arith)))
size_is (negsuc n) = refl

flip : (k : ℕ) → negsuc 0 -ℤ negsuc k ≡ pos k
flip k = let e : suc k - 1 ≡ k = omega arith in ap (λ (t : Bool). cond t (negsuc (1 - suc (suc k))) (pos (suc k - 1))) (le-ltb (suc k) 1 (omega arith)) ∙ ap pos e

module _ (z : ℤ) (f : SFits w64 z) where
  whole : to_z w64 (of_z w64 z) ≡ z
  whole = to_z-of_z f

  -- below zero: -1 - z, and one more
  module _ (t : lt_z z (pos 0) ≡ true) where
    flipped : negsuc 0 -ℤ to_z w64 (of_z w64 z) ≡ pos (mag z)
    flipped = rw whole (subst (λ (y : ℤ). negsuc 0 -ℤ y ≡ pos (mag z)) (sym (below_zero z t)) (flip (mag z)))

    flip_fits : SFits w64 (negsuc 0 -ℤ to_z w64 (of_z w64 z))
    flip_fits = rw flipped (record { sfits = f.sfits })

    flip_size : nat_abs (to_z w64 (of_z w64 (negsuc 0 -ℤ to_z w64 (of_z w64 z)))) ≡ mag z
    flip_size = rw (to_z-of_z flip_fits, flipped)

    pub flip_is : z ≡ signed true (nat_abs (to_z w64 (of_z w64 (negsuc 0 -ℤ to_z w64 (of_z w64 z)))) + 1)
    flip_is = below_zero z t ∙ sym (ap (λ (n : ℕ). neg_ℤ (pos (n + 1))) flip_size ∙ ap (λ (n : ℕ). neg_ℤ (pos n)) (add-one (mag z)))
