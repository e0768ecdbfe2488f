-- Signed numbers that are not negative, and their casts. Assumes nothing.
use Prim.Native.Nat.{ℕ, ◌<◌, ◌^◌}
use mathlib.Core.Path.{◌≡◌, refl, sym, ap, ◌∙◌}
use native.Mathlib.Omega.{arith}
use lib.Dec.{T, ltb→lt}
use lib.IntN.{ℤ, pos, negsuc, nat_abs}
use lib.Signed.{non_neg, mag, ◌<ℤ◌, lt_z_yes, pos-nat_abs}
use mir.Syntax.{Width}
use mir.Val.{SFits, to_z, of_z, hbits}
use mir.Facts.{to_z-of_z, to_z_pos}

-- a number that is not negative, by its bits and back
pub bits_back : (w : Width) (z : ℤ) (x : ℕ) → z ≡ pos x → x < 2 ^ hbits w → to_z w (of_z w z) ≡ pos x
bits_back w z x e h = ap (λ y. to_z w (of_z w y)) e ∙ to_z_pos w h

not_below : (x : ℤ) → (x <ℤ pos 0 → ⊥) → T (non_neg x)
not_below (pos n) h = tt
not_below (negsuc n) h = absurd (h (lt_z_yes tt))

-- a number that is not negative is its size
pub whole : (x : ℤ) → (x <ℤ pos 0 → ⊥) → pos (mag x) ≡ x
whole (pos n) h = refl
whole (negsuc n) h = absurd (h (lt_z_yes tt))

size_is : (x : ℤ) → (x <ℤ pos 0 → ⊥) → nat_abs x ≡ mag x
size_is (pos n) h = refl
size_is (negsuc n) h = absurd (h (lt_z_yes tt))

pub positive : (n : ℕ) → pos n <ℤ pos 0 → ⊥
positive n h = let l : n < 0 = ltb→lt n 0 h.lt in omega arith

-- what the cast of a number that is not negative gives
module _ (w : Width) (x : ℤ) (f : SFits w x) (n : x <ℤ pos 0 → ⊥) where
  pub cast_gives : (x ≡ pos (nat_abs (to_z w (of_z w x)))) × (nat_abs (to_z w (of_z w x)) < 2 ^ hbits w)
  cast_gives = rw (to_z-of_z f) (sym (pos-nat_abs x (not_below x n)), rw (size_is x n) f.sfits)
