-- The tests of the code decide the numbers of a row. Assumes nothing.
use Prim.Native.Nat.{ℕ, suc, ◌+◌, ◌*◌, ◌-◌, ◌<◌, ◌≤◌}
use mathlib.Core.Path.{◌≡◌, refl, sym, subst, ap, ◌∙◌}
use mathlib.Core.Bool.{Bool, true, false, cond, not, ◌&&◌}
use mathlib.Core.List.{List}
use native.Mathlib.Omega.{arith}
use lib.Dec.{T, leb, ltb, eqb, ltb→lt, leb→le, le→leb, lt→ltb, eqb_refl, eqb→eq, not_T}
use lib.Arith.{lt→nleb, le→nltb}
use lib.ListN.{length, set}
use lib.IntN.{ℤ, pos, negsuc, nat_abs, ◌+ℤ◌}
use lib.Signed.{mag, lt_z, le_z, non_neg}
use Rattle.report.specs.declared.SheetRow.{SheetRow}
use Rattle.report.specs.Report.{place_in, limit}
use Rattle.report.specs.Numbers.{outside, nat_part, ranked, rank, raise_cents, laid}

pub is_true : (b : Bool) → T b → b ≡ true
is_true true t = refl
is_true false t = absurd t

pub is_false : (b : Bool) → T (not b) → b ≡ false
is_false true t = absurd t
is_false false t = refl

pub holds : {b : Bool} → b ≡ true → T b
holds e = subst T (sym e) tt

pub fails : {b : Bool} → b ≡ false → T (not b)
fails e = subst (λ (x : Bool). T (not x)) (sym e) tt

pub lt_yes : (a b : ℕ) → a < b → ltb a b ≡ true
lt_yes a b l = is_true (ltb a b) (lt→ltb a b l)

pub lt_no : (a b : ℕ) → b ≤ a → ltb a b ≡ false
lt_no a b l = is_false (ltb a b) (le→nltb a b l)

pub le_yes : (a b : ℕ) → a ≤ b → leb a b ≡ true
le_yes a b l = is_true (leb a b) (le→leb a b l)

pub le_no : (a b : ℕ) → b < a → leb a b ≡ false
le_no a b l = is_false (leb a b) (lt→nleb a b l)

pub eq_true : (a b : ℕ) → a ≡ b → eqb a b ≡ true
eq_true a b e = is_true (eqb a b) (subst (λ (k : ℕ). T (eqb a k)) e (eqb_refl a))

pub ne_false : (a b : ℕ) → (a ≡ b → ⊥) → eqb a b ≡ false
ne_false a b h = is_false (eqb a b) (not_T (eqb a b) (λ t. h (eqb→eq a b t)))

pub nat_part_neg : (c : ℤ) → lt_z c (pos 0) ≡ true → outside ≡ nat_part c
nat_part_neg (pos n) e = let l : n < 0 = ltb→lt n 0 (holds e) in absurd (omega (arith, l))
nat_part_neg (negsuc n) e = refl

pub nat_part_low : (c : ℤ) (m : ℕ) → lt_z c (pos 0) ≡ false → mag c < m → nat_part c < m
nat_part_low (pos n) m e l = l
nat_part_low (negsuc n) m e l = absurd (fails e)

pub pack_a : (a b c : ℕ) → 2147483648 ≤ a → outside ≡ ranked a b c
pack_a a b c l = sym (ap (λ (t : Bool). cond (t && (ltb b 32768 && ltb c 32768)) (a * 4294967296 + b * 65536 + c) outside) (lt_no a 2147483648 l))

pub pack_b : (a b c : ℕ) → a < 2147483648 → 32768 ≤ b → outside ≡ ranked a b c
pack_b a b c h l = sym (ap (λ (t : Bool). cond (t && (ltb b 32768 && ltb c 32768)) (a * 4294967296 + b * 65536 + c) outside) (lt_yes a 2147483648 h)
    ∙ ap (λ (t : Bool). cond (t && ltb c 32768) (a * 4294967296 + b * 65536 + c) outside) (lt_no b 32768 l))

pub pack_when : (a b c : ℕ) (t : Bool) → a < 2147483648 → b < 32768 → ltb c 32768 ≡ t → ranked a b c ≡ cond t (a * 4294967296 + b * 65536 + c) outside
pack_when a b c t h l e = ap (λ (t : Bool). cond (t && (ltb b 32768 && ltb c 32768)) (a * 4294967296 + b * 65536 + c) outside) (lt_yes a 2147483648 h)
    ∙ ap (λ (t : Bool). cond (t && ltb c 32768) (a * 4294967296 + b * 65536 + c) outside) (lt_yes b 32768 l) ∙ ap (λ (t : Bool). cond t (a * 4294967296 + b * 65536 + c) outside) e

pub pack_c : (a b c : ℕ) → a < 2147483648 → b < 32768 → 32768 ≤ c → outside ≡ ranked a b c
pack_c a b c h l k = sym (pack_when a b c false h l (lt_no c 32768 k))

pub pack_in : (a b c : ℕ) → a < 2147483648 → b < 32768 → c < 32768 → a * 4294967296 + b * 65536 + c ≡ ranked a b c
pack_in a b c h l k = sym (pack_when a b c true h l (lt_yes c 32768 k))

-- an amount in range, and 10^12 more
pub record Raised (c : ℤ) : Type 0 where
  pub ok : T (non_neg (c +ℤ pos 1000000000000))
  pub is : nat_abs (c +ℤ pos 1000000000000) ≡ raise_cents c
  pub small : raise_cents c ≤ 2000000000000
  pub mag_small : mag (c +ℤ pos 1000000000000) ≤ 2000000000000

raised_neg : (n : ℕ) (t : Bool) → ltb 1000000000000 (suc n) ≡ t → t ≡ false → n < 1000000000000
    → T (non_neg (cond t (negsuc (suc n - suc 1000000000000)) (pos (1000000000000 - suc n)))) × (nat_abs (cond t (negsuc (suc n - suc 1000000000000)) (pos (1000000000000 - suc n))) ≡ 1000000000000 - suc n) × (mag (cond t (negsuc (suc n - suc 1000000000000)) (pos (1000000000000 - suc n))) ≤ 2000000000000)
raised_neg n true e f l = absurd (holds (sym f))
raised_neg n false e f l = (tt, refl, omega arith)

pub raised : (c : ℤ) → le_z (negsuc 999999999999) c ≡ true → le_z c (pos 1000000000000) ≡ true → Raised c
raised (pos n) e f =
    let l : n ≤ 1000000000000 = leb→le n 1000000000000 (holds f) in
    let d : raise_cents (pos n) ≡ n + 1000000000000 = ap (λ (t : Bool). cond t (n + 1000000000000) outside) (le_yes n 1000000000000 l) in
    record { ok = tt; is = sym d; small = omega (arith, d, l); mag_small = omega arith }
raised (negsuc n) e f =
    let l : n ≤ 999999999999 = leb→le n 999999999999 (holds e) in
    let h : n < 1000000000000 = omega arith in
    let d : raise_cents (negsuc n) ≡ 1000000000000 - suc n = ap (λ (t : Bool). cond t (1000000000000 - suc n) outside) (lt_yes n 1000000000000 h) in
    let a = raised_neg n (ltb 1000000000000 (suc n)) refl (lt_no 1000000000000 (suc n) (omega arith)) h in
    record { ok = a.0; is = a.1 ∙ sym d; small = omega (arith, d); mag_small = a.2 }

-- the three ways of `lay`
and_no : (b : Bool) → (b && false) ≡ false
and_no true = refl
and_no false = refl

module _ (fl : List ℕ) (i : ℕ) (r : SheetRow) where
  abbrev by_test : Bool → List ℕ
  by_test t = cond t (set (set fl i (rank (place_in r))) (limit + i) (raise_cents r.cents)) fl

  pub laid_in : i < limit → eqb (length fl) (2 * limit) ≡ true → set (set fl i (rank (place_in r))) (limit + i) (raise_cents r.cents) ≡ laid fl i r
  laid_in l e = sym (ap (λ (t : Bool). by_test (t && eqb (length fl) (2 * limit))) (lt_yes i limit l) ∙ ap by_test e)
