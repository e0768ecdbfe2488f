-- The bits of a number of eight bytes, by its halves of four.
use Rattle.std.proofs.Common.{◌≡◌, ◌↔◌, ℕ, List, ◌+◌, ◌*◌, ◌/◌, ◌%◌, ◌<◌, arith}
use mathlib.Core.Logic.{⊎_elim}
use Rattle.ground.specs.Lists.{byte}
use Rattle.ground.proofs.Sides.{side}
use Rattle.words.specs.Zeros.{ZeroFrom}
use Rattle.page_check.specs.Rules.{NoSign, NaturalAt}
use Rattle.page_check.proofs.le64.Goals as goal

-- a byte's highest bit, in a number of two halves of four bytes
page_bit : (w hi lo b : ℕ) → w ≡ hi * 4294967296 + lo → lo < 4294967296 → lo / 16777216 ≡ b → (w / 2147483648 % 2 ≡ 0) ↔ (b < 128)
page_bit w hi lo b e l d = (λ h. omega (arith, h, e, l, d), λ h. omega (arith, h, e, l, d))

slot_bit : (w hi lo b : ℕ) → w ≡ hi * 4294967296 + lo → lo < 4294967296 → hi / 256 % 256 ≡ b → (w / 140737488355328 % 2 ≡ 0) ↔ (b < 128)
slot_bit w hi lo b e l d =
    let q : w / 140737488355328 ≡ hi / 32768 = omega (arith, e, l) in
    (λ h. omega (arith, h, q, d), λ h. omega (arith, h, q, d))

volume_bit : (w hi lo b : ℕ) → w ≡ hi * 4294967296 + lo → lo < 4294967296 → hi / 16777216 ≡ b → b < 256 → (w / 9223372036854775808 % 2 ≡ 0) ↔ (b < 128)
volume_bit w hi lo b e l d g =
    let q : w / 9223372036854775808 ≡ hi / 2147483648 = omega (arith, e, l) in
    (λ h. omega (arith, h, q, d, g), λ h. omega (arith, h, q, d, g))

-- four bytes as one number
unfoldable half : ℕ → ℕ → ℕ → ℕ → ℕ
half a b c d = a * 16777216 + (b * 65536 + (c * 256 + d))

half_lt : (a b c d : ℕ) → a < 256 → b < 256 → c < 256 → d < 256 → half a b c d < 4294967296
unfolding half
half_lt a b c d g h k l = omega arith

half_first : (a b c d : ℕ) → b < 256 → c < 256 → d < 256 → half a b c d / 16777216 ≡ a
unfolding half
half_first a b c d h k l = omega arith

half_third : (a b c d : ℕ) → c < 256 → d < 256 → half a b c d / 256 % 256 ≡ c
unfolding half
half_third a b c d k l = omega arith

module _ (p : List ℕ) (bytes : (k : ℕ) → byte p k < 256) (o : ℕ) where
  abbrev high : ℕ
  high = half (byte p (o + 7)) (byte p (o + 6)) (byte p (o + 5)) (byte p (o + 4))

  abbrev low : ℕ
  low = half (byte p (o + 3)) (byte p (o + 2)) (byte p (o + 1)) (byte p o)

  signs : (w : ℕ) → w ≡ high * 4294967296 + low → NoSign w ↔ NaturalAt p o
  signs w e =
      let l = half_lt _ _ _ _ (bytes (o + 3)) (bytes (o + 2)) (bytes (o + 1)) (bytes o) in
      let x = page_bit w high low (byte p (o + 3)) e l (half_first _ _ _ _ (bytes (o + 2)) (bytes (o + 1)) (bytes o)) in
      let y = slot_bit w high low (byte p (o + 5)) e l (half_third _ _ _ _ (bytes (o + 5)) (bytes (o + 4))) in
      let z = volume_bit w high low (byte p (o + 7)) e l (half_first _ _ _ _ (bytes (o + 6)) (bytes (o + 5)) (bytes (o + 4))) (bytes (o + 7)) in (
        (λ n. record { page = x.0 n.page; slot = y.0 n.slot; volume = z.0 n.volume }),
        (λ a. record { page = x.1 a.page; slot = y.1 a.slot; volume = z.1 a.volume }),
      )

  each : (w : ℕ) → w ≡ high * 4294967296 + low → w ≡ 0 → (byte p o ≡ 0) × (byte p (o + 1) ≡ 0) × (byte p (o + 2) ≡ 0) × (byte p (o + 3) ≡ 0) × (byte p (o + 4) ≡ 0) × (byte p (o + 5) ≡ 0) × (byte p (o + 6) ≡ 0) × (byte p (o + 7) ≡ 0)
  unfolding half
  each w e z = omega arith

  zero_word : (w : ℕ) → w ≡ high * 4294967296 + low → (w ≡ 0) ↔ ZeroFrom p o (o + 8)
  unfolding half
  zero_word w e = (
    (λ y k g h. let z = each w e y in ⊎_elim (λ l0. let x : k ≡ o = omega arith in rw x z.0) (λ m0. ⊎_elim (λ l1. let x : k ≡ o + 1 = omega arith in rw x z.1) (λ m1. ⊎_elim (λ l2. let x : k ≡ o + 2 = omega arith in rw x z.2) (λ m2. ⊎_elim (λ l3. let x : k ≡ o + 3 = omega arith in rw x z.3) (λ m3. ⊎_elim (λ l4. let x : k ≡ o + 4 = omega arith in rw x z.4) (λ m4. ⊎_elim (λ l5. let x : k ≡ o + 5 = omega arith in rw x z.5) (λ m5. ⊎_elim (λ l6. let x : k ≡ o + 6 = omega arith in rw x z.6) (λ m6. let x : k ≡ o + 7 = omega arith in rw x z.7) (side k (o + 7))) (side k (o + 6))) (side k (o + 5))) (side k (o + 4))) (side k (o + 3))) (side k (o + 2))) (side k (o + 1))),
    (λ z. omega (arith, e, z o (omega arith) (omega arith), z (o + 1) (omega arith) (omega arith), z (o + 2) (omega arith) (omega arith), z (o + 3) (omega arith) (omega arith), z (o + 4) (omega arith) (omega arith), z (o + 5) (omega arith) (omega arith), z (o + 6) (omega arith) (omega arith), z (o + 7) (omega arith) (omega arith))),
  )

-- the number in halves
module _ (c : goal.After-from_le_bytes) where
  small : (j : ℕ) → byte c.args.s.now j < 256
  small j = omega (arith, c.type_inv.s j)

  halved : c.from_le_bytes.result ≡ high c.args.s.now small c.args.k * 4294967296 + low c.args.s.now small c.args.k
  unfolding half
  halved = omega (arith, c.from_le_bytes.ensures)

pub returns-clause-signs : goal.returns-clause-signs
returns-clause-signs c = signs c.args.s.now (small c) c.args.k c.from_le_bytes.result (halved c)

pub returns-clause-zero : goal.returns-clause-zero
returns-clause-zero c = zero_word c.args.s.now (small c) c.args.k c.from_le_bytes.result (halved c)
