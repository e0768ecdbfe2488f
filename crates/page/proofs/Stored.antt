-- Places and the 8 bytes that hold them, there and back. Assumes nothing.
use Prim.Native.Nat.{ℕ, zero, suc, ◌<◌, ◌^◌}
use mathlib.Core.Path.{◌≡◌, refl, sym, ap, ◌∙◌}
use mathlib.Core.Logic.{inl, inr, ⊎_elim}
use mathlib.Core.List.{List, ◌++◌}
use native.Mathlib.Omega.{arith}
use lib.ListN.{length}
use lib.Seq.{ext_get_or}
use lib.IntN.{pos}
use lib.Signed.{mag}
use Rattle.ground.specs.Lists.{byte}
use Rattle.words.specs.Le.{le16, le32, bytes}
use Rattle.words.specs.Moves.{Put16, Put32}
use Rattle.words.proofs.Bytes.{le16_bytes, le32_byte, le16_below, le32_below}
use Rattle.page.specs.Page.{Natural}
use Rattle.page.specs.Places.{stored, place_from, Negative, InRange}
use Rattle.page.specs.declared.Place.{Place}
use Rattle.page.proofs.Signs.{whole, positive}

abbrev Bytes : List ℕ → Type 0
Bytes b = (k : ℕ) → byte b k < 256

-- 8 bytes are known by their three numbers
known : (b c : List ℕ) → length b ≡ 8 → length c ≡ 8 → Bytes b → Bytes c → le32 b 0 ≡ le32 c 0 → le16 b 4 ≡ le16 c 4 → le16 b 6 ≡ le16 c 6 → b ≡ c
known b c lb lc hb hc e f g = ext_get_or 0 b c (lb ∙ sym lc) (λ k h. at k (omega arith))
  where
    at : (k : ℕ) → k < 8 → byte b k ≡ byte c k
    at zero h = le32_byte b c 0 0 hb hc e (omega arith)
    at (suc zero) h = le32_byte b c 0 1 hb hc e (omega arith)
    at (suc (suc zero)) h = le32_byte b c 0 2 hb hc e (omega arith)
    at (suc (suc (suc zero))) h = le32_byte b c 0 3 hb hc e (omega arith)
    at (suc (suc (suc (suc zero)))) h = (le16_bytes b c 4 hb hc f).0
    at (suc (suc (suc (suc (suc zero))))) h = (le16_bytes b c 4 hb hc f).1
    at (suc (suc (suc (suc (suc (suc zero)))))) h = (le16_bytes b c 6 hb hc g).0
    at (suc (suc (suc (suc (suc (suc (suc zero))))))) h = (le16_bytes b c 6 hb hc g).1
    at (suc (suc (suc (suc (suc (suc (suc (suc k)))))))) h = absurd (omega arith)

-- three numbers in 8 bytes
abbrev eight : ℕ → ℕ → ℕ → List ℕ
eight x y z = bytes 4 x ++ bytes 2 y ++ bytes 2 z

module _ (x y z : ℕ) where
  eight_long : length (eight x y z) ≡ 8
  unfolding bytes
  eight_long = refl

  eight_bytes : Bytes (eight x y z)
  unfolding bytes
  eight_bytes zero = omega arith
  eight_bytes (suc zero) = omega arith
  eight_bytes (suc (suc zero)) = omega arith
  eight_bytes (suc (suc (suc zero))) = omega arith
  eight_bytes (suc (suc (suc (suc zero)))) = omega arith
  eight_bytes (suc (suc (suc (suc (suc zero))))) = omega arith
  eight_bytes (suc (suc (suc (suc (suc (suc zero)))))) = omega arith
  eight_bytes (suc (suc (suc (suc (suc (suc (suc zero))))))) = omega arith
  eight_bytes (suc (suc (suc (suc (suc (suc (suc (suc k)))))))) = omega arith

  eight_page : x < 2 ^ 32 → le32 (eight x y z) 0 ≡ x
  unfolding bytes le32 le16
  eight_page h = omega arith

  eight_slot : y < 2 ^ 16 → le16 (eight x y z) 4 ≡ y
  unfolding bytes le16
  eight_slot h = omega arith

  eight_volume : z < 2 ^ 16 → le16 (eight x y z) 6 ≡ z
  unfolding bytes le16
  eight_volume h = omega arith

  eight_natural : x < 2 ^ 31 → y < 2 ^ 15 → z < 2 ^ 15 → Natural (eight x y z)
  unfolding bytes
  eight_natural h m n = record { long = refl; page = omega arith; slot = omega arith; volume = omega arith }

-- the three numbers of natural bytes are no larger than a signed number may be
module _ (b : List ℕ) (n : Natural b) (hb : Bytes b) where
  pub natural_page : le32 b 0 < 2 ^ 31
  unfolding le32 le16
  natural_page = omega (arith, n.page, hb 0, hb 1, hb 2)

  pub natural_slot : le16 b 4 < 2 ^ 15
  unfolding le16
  natural_slot = omega (arith, n.slot, hb 4)

  pub natural_volume : le16 b 6 < 2 ^ 15
  unfolding le16
  natural_volume = omega (arith, n.volume, hb 6)

  -- bytes of no negative part are those of their place
  pub stored_place : stored (place_from b) ≡ b
  stored_place =
      let x = le32 b 0 in let y = le16 b 4 in let z = le16 b 6 in
      known (eight x y z) b (eight_long x y z) n.long (eight_bytes x y z) hb
      (eight_page x y z (omega (arith, natural_page))) (eight_slot x y z (omega (arith, natural_slot))) (eight_volume x y z (omega (arith, natural_volume)))

  pub natural_positive : Negative (place_from b) → ⊥
  natural_positive h = ⊎_elim (positive (le32 b 0)) (λ g. ⊎_elim (positive (le16 b 4)) (positive (le16 b 6)) g) h

module _ (p : Place) (n : Negative p → ⊥) (r : InRange p) where
  -- a place with no negative part comes back from its bytes
  pub place_stored : place_from (stored p) ≡ p
  place_stored =
      let x = mag p.page in let y = mag p.slot in let z = mag p.volume in
      let e : le32 (stored p) 0 ≡ x = eight_page x y z (omega (arith, r.page)) in
      let f : le16 (stored p) 4 ≡ y = eight_slot x y z (omega (arith, r.slot)) in
      let g : le16 (stored p) 6 ≡ z = eight_volume x y z (omega (arith, r.volume)) in
      λ k. record {
        page = (ap pos e ∙ whole p.page (λ h. n (inl h))) k;
        slot = (ap pos f ∙ whole p.slot (λ h. n (inr (inl h)))) k;
        volume = (ap pos g ∙ whole p.volume (λ h. n (inr (inr h)))) k;
      }

  pub stored_natural : Natural (stored p)
  stored_natural = eight_natural (mag p.page) (mag p.slot) (mag p.volume) r.page r.slot r.volume

-- the three numbers written
pub stored_by : {o a b c : List ℕ} {x y z : ℕ} (p : Place) → length o ≡ 8 → (p.page ≡ pos x) × (x < 2147483648) → (p.slot ≡ pos y) × (y < 32768) → (p.volume ≡ pos z) × (z < 32768)
    → Put32 o 0 x a → Put16 a 4 y b → Put16 b 6 z c → Bytes c → c ≡ stored p
stored_by {o} {a} {b} {c} {x} {y} {z} p l px py pz wa wb wc hc =
    let lc : length c ≡ 8 = wc.old.len ∙ wb.old.len ∙ wa.old.len ∙ l in
    known c (eight x y z) lc (eight_long x y z) hc (eight_bytes x y z)
    (le32_below 0 wc.old (omega arith) ∙ le32_below 0 wb.old (omega arith) ∙ wa.val ∙ sym (eight_page x y z (omega arith)))
    (le16_below 4 wc.old (omega arith) ∙ wb.val ∙ sym (eight_slot x y z (omega arith)))
    (wc.val ∙ sym (eight_volume x y z (omega arith)))
    ∙ λ k. eight (mag (sym px.0 k)) (mag (sym py.0 k)) (mag (sym pz.0 k))
