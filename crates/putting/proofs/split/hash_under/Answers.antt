-- The bits, shifted to the top of 32.
use Rattle.std.proofs.Common.{◌≡◌, ℕ, ◌+◌, ◌-◌, ◌*◌, ◌%◌, ◌^◌, ◌≤◌, ◌<◌, sym, ap, subst, ◌∙◌, arith}
use native.Mathlib.Nat.{mul-lt-mul_of_pos_right}
use lib.Pow.{pow_pos, pow_mono, pow-add, shl_exact}
use Rattle.partition.specs.Bits.{top}
use Rattle.partition.proofs.Directory.{entry_hash}
use Rattle.putting.proofs.split.hash_under.Goals as goal

module _ (k v : ℕ) (low : k ≤ 12) (bits : v < 2 ^ k) where
  exact : v * 2 ^ (32 - k) % 2 ^ 64 ≡ v * 2 ^ (32 - k)
  exact = let m : 2 ^ k ≤ 2 ^ 12 = pow_mono low in shl_exact 12 (32 - k) 64 (omega (arith, bits)) (omega arith)

  small : v * 2 ^ (32 - k) < 4294967296
  small =
      let e : k + (32 - k) ≡ 32 = omega (arith, low) in
      subst (λ n. v * 2 ^ (32 - k) < n) (sym (pow-add 2 k (32 - k)) ∙ ap (λ n. 2 ^ n) e) (mul-lt-mul_of_pos_right bits (pow_pos (32 - k)))

pub overflow_cast-result-2 : goal.overflow_cast-result-2
overflow_cast-result-2 c = let a = c.args in let r = c.requires in record { fits = omega (arith, exact a.k a.v r.0 r.1, small a.k a.v r.0 r.1) }

pub returns : goal.returns
returns c = let a = c.args in let r = c.requires in ap (top a.k) (exact a.k a.v r.0 r.1) ∙ entry_hash a.k a.v (omega (arith, r.0))
