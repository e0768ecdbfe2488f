-- The hashes of a page share a prefix where each shares it with the first, and where their differences have no bit in it. Assumes nothing.
use Prim.Native.Nat.{ℕ, ◌+◌, ◌-◌, ◌/◌, ◌^◌, ◌≤◌, ◌<◌}
use mathlib.Core.Path.{◌≡◌, refl, sym, ap, subst, ◌∙◌}
use mathlib.Core.Logic.{◌↔◌, ⊎_elim}
use mathlib.Core.List.{List}
use native.Mathlib.Nat.{div-lt_iff_lt-mul, div-eq_of_lt, one-mul}
use native.Mathlib.Omega.{arith}
use borrow.Author.Count.{below_more}
use lib.Pow.{pow_pos, pow-add, shl-shr}
use lib.Bits.{bit_or, bit_xor, or_shr, xor_shr, xor_self}
use Rattle.ground.proofs.Sides.{side}
use Rattle.words.proofs.Zeros.{or_zero, zero_or}
use Rattle.partition.specs.Bits.{top}
use Rattle.partition.proofs.Bits.{top_is, xor_zero}
use Rattle.page.specs.Page.{depth}
use Rattle.page_check.specs.Shared.{AllShare, Share}

pub share_all : (h : List ℕ → ℕ) (p : List ℕ) → AllShare h p (depth p) → Share h p
share_all h p e i j l m = sym (e i l) ∙ e j m

-- the differences to x of f 0 to f (n - 1), or-ed, have no bit in the prefix of k bits just where all have that of x
pub record Ored (k : ℕ) (f : ℕ → ℕ) (x n acc : ℕ) : Type 0 where
  pub so : top k acc ≡ 0 → (i : ℕ) → i < n → top k x ≡ top k (f i)
  pub back : ((i : ℕ) → i < n → top k x ≡ top k (f i)) → top k acc ≡ 0

module _ (k : ℕ) (small : k ≤ 32) where
  top_or : (a b : ℕ) → top k (bit_or a b) ≡ bit_or (top k a) (top k b)
  top_or a b = rw (top_is (bit_or a b) k small, top_is a k small, top_is b k small) (or_shr a b (32 - k))

  top_xor : (a b : ℕ) → top k (bit_xor a b) ≡ bit_xor (top k a) (top k b)
  top_xor a b = rw (top_is (bit_xor a b) k small, top_is a k small, top_is b k small) (xor_shr a b (32 - k))

  pub top_zero : top k 0 ≡ 0
  top_zero = top_xor 0 0 ∙ xor_self (top k 0)

  -- and they share it where their difference is below 2 ^ (32 - k)
  pub near : (a b : ℕ) → (bit_xor a b < 2 ^ (32 - k)) ↔ (top k a ≡ top k b)
  near a b = (
    (λ h. xor_zero (top k a) (top k b) (sym (top_xor a b) ∙ top_is (bit_xor a b) k small ∙ div-eq_of_lt h)),
    (λ e.
        let z : bit_xor a b / 2 ^ (32 - k) ≡ 0 = sym (top_is (bit_xor a b) k small) ∙ top_xor a b ∙ ap (λ n. bit_xor n (top k b)) e ∙ xor_self (top k b) in
        let y : bit_xor a b / 2 ^ (32 - k) < 1 = omega arith in
        subst (λ n. bit_xor a b < n) (one-mul (2 ^ (32 - k))) ((div-lt_iff_lt-mul (pow_pos (32 - k))).0 y)),
  )

  pub limit_is : 4294967296 / 2 ^ k ≡ 2 ^ (32 - k)
  limit_is =
      let e : 32 - k + k ≡ 32 = omega arith in
      ap (λ n. n / 2 ^ k) (ap (λ n. 2 ^ n) (sym e) ∙ pow-add 2 (32 - k) k) ∙ shl-shr (2 ^ (32 - k)) k

  -- none or-ed yet, of those that are known to be near
  pub ored_near : (f : ℕ → ℕ) (x n : ℕ) → x ≡ f 0 → ((i : ℕ) → 1 ≤ i → i < n → bit_xor x (f i) < 2 ^ (32 - k)) → Ored k f x n 0
  ored_near f x n e u = record {
    so = λ _ i h. ⊎_elim (λ lt. let z : i ≡ 0 = omega arith in rw (z, e) refl) (λ ge. (near x (f i)).0 (u i ge h)) (side i 1);
    back = λ _. top_zero;
  }

  pub ored_more : (f : ℕ → ℕ) (x n acc : ℕ) → Ored k f x n acc → Ored k f x (n + 1) (bit_or acc (bit_xor x (f n)))
  ored_more f x n acc o = record {
    so = λ z. let u = or_zero (top k acc) (top k (bit_xor x (f n))) (sym (top_or acc (bit_xor x (f n))) ∙ z) in
        below_more (λ i. top k x ≡ top k (f i)) n (o.so u.0) (xor_zero (top k x) (top k (f n)) (sym (top_xor x (f n)) ∙ u.1));
    back = λ all. top_or acc (bit_xor x (f n)) ∙ zero_or (top k acc) (top k (bit_xor x (f n))) (o.back (λ i h. all i (omega arith)))
        (top_xor x (f n) ∙ rw (all n (omega arith)) (xor_self (top k (f n))));
  }
