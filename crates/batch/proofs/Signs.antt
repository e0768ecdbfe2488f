-- The bits of a part as the machine reads them. Assumes nothing.
use mathlib.Core.Path.{◌≡◌, refl, ap, subst, ◌∙◌}
use mathlib.Core.Bool.{Bool, true, false}
use Prim.Native.Nat.{ℕ, suc, ◌<◌, ◌-◌, ◌/◌, ◌%◌, ◌^◌}
use lib.Dec.{ltb}
use native.Mathlib.Omega.{arith}
use lib.IntN.{ℤ, pos, negsuc}
use lib.Signed.{mag}
use mir.Syntax.{Width, w16, w32}
use mir.Val.{Fits, to_z, sel, bits, hbits}
use mir.Facts.{sfits_to_z}
use Rattle.page.specs.Places.{InRange}
use Rattle.store.specs.Moves.{pick}
use Rattle.batch.specs.PlaceWords.{signed_bits, word_place}

same_choice : (b : Bool) (x y : ℤ) → sel b x y ≡ pick b x y
same_choice true x y = refl
same_choice false x y = refl

-- a width's bits below the sign, and the sign
pub read_signed : (w : Width) (x : ℕ) → bits w ≡ suc (hbits w) → to_z w x ≡ signed_bits (hbits w) x
read_signed w x e = same_choice (ltb x (2 ^ hbits w)) (pos x) (negsuc (2 ^ bits w - suc x)) ∙ ap (λ k. pick (ltb x (2 ^ hbits w)) (pos x) (negsuc (2 ^ k - suc x))) e

part_ranged : (v : Width) (x : ℕ) → bits v ≡ suc (hbits v) → Fits v x → mag (signed_bits (hbits v) x) < 2 ^ hbits v
part_ranged v x e f = subst (λ z. mag z < 2 ^ hbits v) (read_signed v x e) (sfits_to_z f).sfits

-- whatever the word, its place is in its ranges
pub word_ranged : (w : ℕ) → InRange (word_place w)
word_ranged w = record {
  page = part_ranged w32 (w % 2 ^ 32) refl (record { fits = omega arith });
  slot = part_ranged w16 (w / 2 ^ 32 % 2 ^ 16) refl (record { fits = omega arith });
  volume = part_ranged w16 (w / 2 ^ 48 % 2 ^ 16) refl (record { fits = omega arith });
}
