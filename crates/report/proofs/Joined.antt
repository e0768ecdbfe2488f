-- The three parts of a place joined in one signed word, as the code joins them: a negative part makes the word negative, and without one the word is the rank. Assumes nothing.
use Prim.Native.Nat.{ℕ, zero, suc, ◌+◌, ◌*◌, ◌-◌, ◌<◌, ◌≤◌, ◌^◌}
use mathlib.Core.Path.{◌≡◌, refl, sym, ap, ◌∙◌}
use mathlib.Core.Bool.{Bool, true, false}
use native.Mathlib.Omega.{arith}
use lib.Bits.{bit_or, or_add_and, and_le_l, and_le_r, or_shifted}
use lib.Dec.{T, leb, ltb, ltb→lt, nltb→le}
use lib.IntN.{ℤ, pos, negsuc, neg_ℤ, ◌*ℤ◌}
use lib.Signed.{mag, lt_z}
use mir.Syntax.{Width, w16, w32, w64}
use mir.Val.{SFits, to_z, of_z, hbits, sel}
use mir.Facts.{to_z-of_z, sfits_widen}
use Rattle.report.specs.Numbers.{outside, nat_part, ranked}
use Rattle.report.proofs.Ranks.{holds, fails, nat_part_neg, nat_part_low, pack_a, pack_b, pack_c, pack_in}

-- a part, and m times it, in 64 bits
abbrev pub wide : Width → ℤ → ℕ
wide w z = of_z w64 (to_z w (of_z w z))

abbrev pub times : ℕ → ℕ → ℕ
times x m = of_z w64 (to_z w64 x *ℤ to_z w64 m)

abbrev pub joined : ℤ → ℤ → ℤ → ℕ
joined a b c = bit_or (bit_or (times (wide w32 a) 4294967296) (times (wide w16 b) 65536)) (wide w16 c)

wide_is : (w : Width) (z : ℤ) → SFits w z → wide w z ≡ of_z w64 z
wide_is w z f = ap (of_z w64) (to_z-of_z f)

read_back : (w : Width) (z : ℤ) → T (leb (hbits w) 63) → SFits w z → to_z w64 (wide w z) ≡ z
read_back w z t f = ap (to_z w64) (wide_is w z f) ∙ to_z-of_z {w = w64} (sfits_widen t f)

-- ---- a part times m

record Product (z : ℤ) (m : ℕ) : Type 0 where
  fits : SFits w64 (z *ℤ pos m)
  minus : lt_z z (pos 0) ≡ true → 9223372036854775808 ≤ of_z w64 (z *ℤ pos m)
  plus : lt_z z (pos 0) ≡ false → of_z w64 (z *ℤ pos m) ≡ nat_part z * m

negated : (t : ℕ) → 1 ≤ t → t ≤ 9223372036854775808 → SFits w64 (neg_ℤ (pos t)) × (9223372036854775808 ≤ of_z w64 (neg_ℤ (pos t)))
negated zero h l = absurd (omega (arith, h))
negated (suc t) h l = (record { sfits = omega (arith, l) }, omega (arith, l))

product : (z : ℤ) (m : ℕ) → mag z * m < 9223372036854775808 → 1 ≤ suc (mag z) * m → suc (mag z) * m ≤ 9223372036854775808 → Product z m
product (pos n) m l h k = record { fits = record { sfits = l }; minus = λ e. let i : n < 0 = ltb→lt n 0 (holds e) in absurd (omega (arith, i)); plus = λ e. refl }
product (negsuc n) m l h k = let p = negated (suc n * m) h k in record { fits = p.0; minus = λ e. p.1; plus = λ e. absurd (fails e) }

-- the two that the code makes
page_part : (a : ℤ) → SFits w32 a → Product a 4294967296
page_part a f = let l : mag a < 2147483648 = f.sfits in product a 4294967296 (omega (arith, l)) (omega arith) (omega (arith, l))

slot_part : (b : ℤ) → SFits w16 b → Product b 65536
slot_part b f = let l : mag b < 32768 = f.sfits in product b 65536 (omega (arith, l)) (omega arith) (omega (arith, l))

-- a part as it is
minus_one : (c : ℤ) → SFits w16 c → lt_z c (pos 0) ≡ true → 9223372036854775808 ≤ of_z w64 c
minus_one (pos n) f e = let i : n < 0 = ltb→lt n 0 (holds e) in absurd (omega (arith, i))
minus_one (negsuc n) f e = let l : n < 32768 = f.sfits in omega (arith, l)

plus_one : (c : ℤ) → lt_z c (pos 0) ≡ false → of_z w64 c ≡ nat_part c
plus_one (pos n) e = refl
plus_one (negsuc n) e = absurd (fails e)

-- ---- the sign of a word

or_left : (a b : ℕ) → a ≤ bit_or a b
or_left a b = omega (arith, or_add_and a b, and_le_r a b)

or_right : (a b : ℕ) → b ≤ bit_or a b
or_right a b = omega (arith, or_add_and a b, and_le_l a b)

low_when : (x : ℕ) (t : Bool) (z : ℤ) → ltb x 9223372036854775808 ≡ t → lt_z (sel t (pos x) z) (pos 0) ≡ false → lt_z z (pos 0) ≡ true → x < 9223372036854775808
low_when x true z e f g = ltb→lt x 9223372036854775808 (holds e)
low_when x false z e f g = absurd (fails (sym g ∙ f))

high_when : (x : ℕ) (t : Bool) (z : ℤ) → ltb x 9223372036854775808 ≡ t → lt_z (sel t (pos x) z) (pos 0) ≡ true → 9223372036854775808 ≤ x
high_when x true z e f = let i : x < 0 = ltb→lt x 0 (holds f) in absurd (omega (arith, i))
high_when x false z e f = nltb→le x 9223372036854775808 (fails e)

pub low : (x : ℕ) → lt_z (to_z w64 x) (pos 0) ≡ false → x < 9223372036854775808
low x f = low_when x (ltb x 9223372036854775808) (negsuc (2 ^ 64 - suc x)) refl f refl

pub high : (x : ℕ) → lt_z (to_z w64 x) (pos 0) ≡ true → 9223372036854775808 ≤ x
high x f = high_when x (ltb x 9223372036854775808) (negsuc (2 ^ 64 - suc x)) refl f

-- ---- the word is the rank

module _ (a b c : ℤ) (fa : SFits w32 a) (fb : SFits w16 b) (fc : SFits w16 c) where
  abbrev P : ℕ
  P = of_z w64 (a *ℤ pos 4294967296)

  abbrev Q : ℕ
  Q = of_z w64 (b *ℤ pos 65536)

  abbrev R : ℕ
  R = of_z w64 c

  joined_is : joined a b c ≡ bit_or (bit_or P Q) R
  joined_is i = bit_or (bit_or (of_z w64 (read_back w32 a tt fa i *ℤ pos 4294967296)) (of_z w64 (read_back w16 b tt fb i *ℤ pos 65536))) (wide_is w16 c fc i)

  pub record Ranked : Type 0 where
    pub none : 9223372036854775808 ≤ joined a b c → outside ≡ ranked (nat_part a) (nat_part b) (nat_part c)
    pub some : joined a b c < 9223372036854775808 → joined a b c ≡ ranked (nat_part a) (nat_part b) (nat_part c)

  all_plus : lt_z a (pos 0) ≡ false → lt_z b (pos 0) ≡ false → lt_z c (pos 0) ≡ false → joined a b c ≡ nat_part a * 4294967296 + nat_part b * 65536 + nat_part c
  all_plus ea eb ec =
      let lb : nat_part b < 32768 = nat_part_low b 32768 eb fb.sfits in
      let lc : nat_part c < 32768 = nat_part_low c 32768 ec fc.sfits in
      let u : nat_part b * 65536 < 2 ^ 32 = omega (arith, lb) in
      let v : nat_part c < 2 ^ 16 = omega (arith, lc) in
      let e : nat_part a * 4294967296 + nat_part b * 65536 ≡ (nat_part a * 65536 + nat_part b) * 65536 = omega arith in
      let f : (nat_part a * 65536 + nat_part b) * 65536 + nat_part c ≡ nat_part a * 4294967296 + nat_part b * 65536 + nat_part c = omega arith in
      joined_is ∙ (λ i. bit_or (bit_or ((page_part a fa).plus ea i) ((slot_part b fb).plus eb i)) (plus_one c ec i))
      ∙ ap (λ (x : ℕ). bit_or x (nat_part c)) (or_shifted (nat_part a) 32 (nat_part b * 65536) u ∙ e) ∙ or_shifted (nat_part a * 65536 + nat_part b) 16 (nat_part c) v ∙ f

  by_signs : (s t u : Bool) → lt_z a (pos 0) ≡ s → lt_z b (pos 0) ≡ t → lt_z c (pos 0) ≡ u → Ranked
  by_signs true t u ea eb ec =
      let n : outside ≡ nat_part a = nat_part_neg a ea in
      let l : 9223372036854775808 ≤ joined a b c = omega (arith, joined_is, (page_part a fa).minus ea, or_left P Q, or_left (bit_or P Q) R) in
      record { none = λ h. pack_a (nat_part a) (nat_part b) (nat_part c) (omega (arith, n)); some = λ h. absurd (omega (arith, h, l)) }
  by_signs false true u ea eb ec =
      let n : outside ≡ nat_part b = nat_part_neg b eb in
      let l : 9223372036854775808 ≤ joined a b c = omega (arith, joined_is, (slot_part b fb).minus eb, or_right P Q, or_left (bit_or P Q) R) in
      record { none = λ h. pack_b (nat_part a) (nat_part b) (nat_part c) (nat_part_low a 2147483648 ea fa.sfits) (omega (arith, n)); some = λ h. absurd (omega (arith, h, l)) }
  by_signs false false true ea eb ec =
      let n : outside ≡ nat_part c = nat_part_neg c ec in
      let l : 9223372036854775808 ≤ joined a b c = omega (arith, joined_is, minus_one c fc ec, or_right (bit_or P Q) R) in
      record { none = λ h. pack_c (nat_part a) (nat_part b) (nat_part c) (nat_part_low a 2147483648 ea fa.sfits) (nat_part_low b 32768 eb fb.sfits) (omega (arith, n)); some = λ h. absurd (omega (arith, h, l)) }
  by_signs false false false ea eb ec =
      let la : nat_part a < 2147483648 = nat_part_low a 2147483648 ea fa.sfits in
      let lb : nat_part b < 32768 = nat_part_low b 32768 eb fb.sfits in
      let lc : nat_part c < 32768 = nat_part_low c 32768 ec fc.sfits in
      let e = all_plus ea eb ec in
      record { none = λ h. absurd (omega (arith, h, e, la, lb, lc)); some = λ h. e ∙ pack_in (nat_part a) (nat_part b) (nat_part c) la lb lc }

  pub ranked_is : Ranked
  ranked_is = by_signs (lt_z a (pos 0)) (lt_z b (pos 0)) (lt_z c (pos 0)) refl refl refl
