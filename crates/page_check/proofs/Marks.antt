-- Where places are marked, the bytes without a capital are those of folded codes. Assumes nothing.
use Prim.Native.Nat.{ℕ, ◌+◌, ◌*◌, ◌-◌, ◌≤◌, ◌<◌}
use mathlib.Core.Path.{◌≡◌, ap, ◌∙◌}
use mathlib.Core.Logic.{inl, inr, ⊎_elim}
use mathlib.Core.List.{List}
use native.Mathlib.Decide.{ℕ_discrete}
use native.Mathlib.Omega.{arith}
use lib.Bits.{bit_or, or_add_and, and_le_l, and_le_r}
use lib.ListN.{length}
use Rattle.ground.specs.Lists.{byte}
use Rattle.ground.proofs.Parts.{byte_part}
use Rattle.ground.proofs.Sides.{side}
use Rattle.words.specs.Folds.{fold_byte}
use Rattle.words.proofs.Folds.{byte_kept, folded_each, each_folded}
use Rattle.page.specs.Page.{BucketPage, In, off, len, code, count, frontier}
use Rattle.page.proofs.Sums.{len_of_code}
use Rattle.page_check.specs.Marks.{Marked, NoCapital}
use Rattle.page_check.specs.Shared.{Spelled}

or_none : (x y : ℕ) → y ≡ 0 → bit_or x y ≡ x
or_none x y e = omega (arith, or_add_and x y, and_le_r x y)

or_mark : (x y : ℕ) → y ≡ 255 → 255 ≤ bit_or x y
or_mark x y e = omega (arith, or_add_and x y, and_le_l x y)

-- byte k of slot i's code, where it lies
byte_code : (p : List ℕ) (i k : ℕ) → k < len p i - 8 → byte (code p i) k ≡ byte p (off p i + 8 + k)
unfolding code
byte_code p i k l = byte_part p (off p i + 8) (len p i - 8) k l

module _ (p t : List ℕ) (b : BucketPage p) (m : Marked p (count p) t) where
  pub spelled_of : (g : ℕ) → frontier p ≤ g → NoCapital p t 8 g → Spelled p
  spelled_of g h c i l = folded_each (code p i) (λ k s.
      let r : k < len p i - 8 = omega (arith, len_of_code p i b.rules l) in
      rw (byte_code p i k r) (kept k r))
    where
      kept : (k : ℕ) → k < len p i - 8 → fold_byte (byte p (off p i + 8 + k)) ≡ byte p (off p i + 8 + k)
      kept k r =
          let x = off p i + 8 + k in
          let in_i : In p i x = record { from = omega arith; to = omega arith } in
          ⊎_elim
          (λ z. let e = or_none (byte p x) (byte t x) z in rw e at (c x (omega arith) (omega (arith, b.rules.inside i l))))
          (λ u. let s = b.rules.apart u.0 i x u.1 l (record { from = u.2.from; to = omega (arith, u.2.to, b.rules.short u.0 u.1) }) in_i in absurd (omega (arith, rw s at u.2.to)))
          (m.only x)

  pub no_capital_of : (g : ℕ) → g + 4 * count p ≤ length p → Spelled p → NoCapital p t 8 g
  no_capital_of g h s k l r = ⊎_elim
      (λ z. rw (or_none (byte p k) (byte t k) z) (elim (ℕ_discrete (fold_byte (byte p k)) (byte p k)) [ yes e ↦ e | no n ↦ absurd (n (bare z n)) ]))
      (λ u. (byte_kept _).1 (inr (omega (arith, or_mark (byte p k) (byte t k) (m.places u.0 k u.1 u.2)))))
      (m.only k)
    where
      -- a byte of a code stays
      coded : (i : ℕ) → i < count p → In p i k → off p i + 8 ≤ k → fold_byte (byte p k) ≡ byte p k
      coded i h₂ y a =
          let j = k - (off p i + 8) in
          let same : off p i + 8 + j ≡ k = omega arith in
          let e : byte (code p i) j ≡ byte p k = byte_code p i j (omega (arith, y.to)) ∙ ap (byte p) same in
          rw e at (each_folded (code p i) (s i h₂) j)

      -- a byte that is not marked is of a code or of no record
      outside : byte t k ≡ 0 → (fold_byte (byte p k) ≡ byte p k → ⊥) → (i : ℕ) → i < count p → In p i k → ⊥
      outside z n i h₂ y = ⊎_elim (λ a. omega (arith, z, m.places i k h₂ (record { from = y.from; to = a }))) (λ a. n (coded i h₂ y a)) (side k (off p i + 8))

      bare : byte t k ≡ 0 → (fold_byte (byte p k) ≡ byte p k → ⊥) → fold_byte (byte p k) ≡ byte p k
      bare z n = (byte_kept _).1 (inl (omega (arith, b.rules.clear k l (omega arith) (outside z n))))

-- low is 26 or more exactly when none of the k bytes from 8 on and from d on is a capital, but for those that are marked
pub record Low (p t : List ℕ) (d k low : ℕ) : Type 0 where
  pub so : 26 ≤ low → NoCapital p t 8 (8 + k) × NoCapital p t d (d + k)
  pub back : NoCapital p t 8 (8 + k) → NoCapital p t d (d + k) → 26 ≤ low
