-- A raised amount is in range exactly where the amount is, and is then the amount and 10^12. Assumes nothing.
use Prim.Native.Nat.{ℕ, suc, ◌+◌, ◌-◌, ◌<◌, ◌≤◌}
use mathlib.Core.Path.{◌≡◌, refl, sym, ap, ◌∙◌}
use mathlib.Core.Bool.{Bool, true, false, cond}
use native.Mathlib.Omega.{arith}
use lib.Dec.{leb, ltb, leb→le, le→leb, ltb→lt}
use lib.IntN.{ℤ, pos, negsuc, neg_ℤ, ◌+ℤ◌, +ℤ_assoc, +ℤ_comm}
use lib.Signed.{◌≤ℤ◌, le_z_yes, pos-nat_abs}
use Rattle.report.specs.Report.{highest}
use Rattle.report.specs.Numbers.{outside, raise_cents}
use Rattle.report.proofs.Ranks.{holds, lt_yes, le_yes, Raised, raised}

in_pos : (n : ℕ) (t : Bool) → leb n 1000000000000 ≡ t → cond t (n + 1000000000000) outside ≤ 2000000000000 → n ≤ 1000000000000
in_pos n true e l = leb→le n 1000000000000 (holds e)
in_pos n false e l = absurd (omega (arith, l))

in_neg : (n : ℕ) (t : Bool) → ltb n 1000000000000 ≡ t → cond t (1000000000000 - suc n) outside ≤ 2000000000000 → n < 1000000000000
in_neg n true e l = ltb→lt n 1000000000000 (holds e)
in_neg n false e l = absurd (omega (arith, l))

raised_in : (c : ℤ) → raise_cents c ≤ 2000000000000 → Raised c
raised_in (pos n) l = raised (pos n) refl (le_yes n 1000000000000 (in_pos n (leb n 1000000000000) refl l))
raised_in (negsuc n) l = let h : n < 1000000000000 = in_neg n (ltb n 1000000000000) refl l in raised (negsuc n) (le_yes n 999999999999 (omega arith)) refl

pub raise_is : (c : ℤ) → raise_cents c ≤ 2000000000000 → pos (raise_cents c) ≡ c +ℤ pos 1000000000000
raise_is c l = let r = raised_in c l in ap pos (sym r.is) ∙ pos-nat_abs (c +ℤ pos 1000000000000) r.ok

pub amount_in : (c : ℤ) → neg_ℤ highest ≤ℤ c → c ≤ℤ highest → raise_cents c ≤ 2000000000000
amount_in (pos n) l h =
    let m : n ≤ 1000000000000 = leb→le n 1000000000000 h.le in
    let d : raise_cents (pos n) ≡ n + 1000000000000 = ap (λ (t : Bool). cond t (n + 1000000000000) outside) (le_yes n 1000000000000 m) in
    omega (arith, d, m)
amount_in (negsuc n) l h =
    let m : n ≤ 999999999999 = leb→le n 999999999999 l.le in
    let d : raise_cents (negsuc n) ≡ 1000000000000 - suc n = ap (λ (t : Bool). cond t (1000000000000 - suc n) outside) (lt_yes n 1000000000000 (omega (arith, m))) in
    omega (arith, d)

pub amount_out : (c : ℤ) → raise_cents c ≤ 2000000000000 → (neg_ℤ highest ≤ℤ c) × (c ≤ℤ highest)
amount_out (pos n) l = (le_z_yes tt, le_z_yes (le→leb n 1000000000000 (in_pos n (leb n 1000000000000) refl l)))
amount_out (negsuc n) l = let m : n < 1000000000000 = in_neg n (ltb n 1000000000000) refl l in (le_z_yes (le→leb n 999999999999 (omega (arith, m))), le_z_yes tt)

pub swap : (a b s n : ℤ) → (a +ℤ b) +ℤ (s +ℤ n) ≡ (a +ℤ s) +ℤ (b +ℤ n)
swap a b s n = +ℤ_assoc a b (s +ℤ n) ∙ ap (λ (z : ℤ). a +ℤ z) (sym (+ℤ_assoc b s n) ∙ ap (λ (z : ℤ). z +ℤ n) (+ℤ_comm b s) ∙ +ℤ_assoc s b n) ∙ sym (+ℤ_assoc a s (b +ℤ n))
