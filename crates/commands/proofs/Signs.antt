-- Signed numbers made of their size, and read back from their bits. Assumes nothing.
use Prim.Native.Nat.{◌<◌}
use mathlib.Core.Path.{◌≡◌, refl, ap, ◌∙◌}
use mathlib.Core.Bool.{true}
use native.Mathlib.Omega.{arith}
use lib.Dec.{T, leb}
use lib.IntN.{ℤ, pos, negsuc}
use lib.Signed.{mag, lt_z}
use mir.Syntax.{Width, w64}
use mir.Val.{SFits, to_z, of_z, hbits}
use mir.Facts.{to_z-of_z, sfits_widen}
use borrow.Author.Tests.{ltb-true}
use Rattle.commands.specs.Numbers.{integer}

-- ---- a number that is shown

wide_fits : (w : Width) (z : ℤ) → SFits w z → T (leb (hbits w) 63) → SFits w64 (to_z w (of_z w z))
wide_fits w z f t = rw (to_z-of_z f) (sfits_widen t f)

wide_is : (w : Width) (z : ℤ) → SFits w z → T (leb (hbits w) 63) → to_z w64 (of_z w64 (to_z w (of_z w z))) ≡ z
wide_is w z f t = to_z-of_z (wide_fits w z f t) ∙ to_z-of_z f

pub below_zero : (z : ℤ) → lt_z z (pos 0) ≡ true → z ≡ negsuc (mag z)
below_zero (pos n) e = absurd (let l : n < 0 = ltb-true n 0 e in omega arith)
below_zero (negsuc n) e = refl

-- a part of a place that is shown
pub part_text : (w : Width) (x r : ℤ) → SFits w x → T (leb (hbits w) 63) → r ≡ to_z w (of_z w x) → integer (to_z w64 (of_z w64 r)) ≡ integer x
part_text w x r f t e = ap integer (ap (λ (q : ℤ). to_z w64 (of_z w64 q)) e ∙ wide_is w x f t)
