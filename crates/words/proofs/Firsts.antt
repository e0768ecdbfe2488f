-- Of two stretches of bytes the smaller as a number has the smaller byte where they differ first. Assumes nothing.
use Prim.Native.Nat.{ℕ, zero, suc, ◌+◌, ◌-◌, ◌≤◌, ◌<◌, min}
use mathlib.Core.Path.{◌≡◌, sym}
use mathlib.Core.Logic.{⊎_elim}
use mathlib.Core.List.{List}
use native.Mathlib.Omega.{arith}
use lib.ListN.{length}
use Rattle.ground.specs.Lists.{byte}
use Rattle.ground.proofs.Sides.{side, same}
use Rattle.std.specs.declared.cmp.Ordering.{Ordering}
use Rattle.std.specs.declared.cmp.Ordering.TheVariants.{Less, Equal, Greater}
use Rattle.std.specs.Ordering.{MatchOrdering}
use lib.Seq.{ext_get_or}
use Rattle.words.specs.Codes.{Before, Ordered}
use Rattle.words.specs.Big.{big}
use Rattle.words.proofs.Orders.{differ_before}

module _ (p q : List ℕ) (bytes_p : (k : ℕ) → byte p k < 256) (bytes_q : (k : ℕ) → byte q k < 256) where
  -- equal numbers are of equal bytes
  pub same_bytes : (n a x : ℕ) → big n p a ≡ big n q x → (i : ℕ) → i < n → byte p (a + i) ≡ byte q (x + i)
  unfolding big
  same_bytes zero a x e i h = absurd (omega arith)
  same_bytes (suc n) a x e i h = ⊎_elim
      (λ s. rw s (omega (arith, bytes_p (a + n), bytes_q (x + n))))
      (λ s. same_bytes n a x (omega (arith, bytes_p (a + n), bytes_q (x + n))) i (omega (arith, s)))
      (same i n)

  -- where two stretches of n bytes differ first, the smaller number's byte is smaller
  pub record First (n a x : ℕ) : Type 0 where
    pub at : ℕ
    pub within : at < n
    pub agree : (i : ℕ) → i < at → byte p (a + i) ≡ byte q (x + i)
    pub less : byte p (a + at) < byte q (x + at)

  pub first_of : (n a x : ℕ) → big n p a < big n q x → First n a x
  unfolding big
  first_of zero a x h = absurd (omega arith)
  first_of (suc n) a x h = ⊎_elim
      (λ l. let f = first_of n a x l in record { at = f.at; within = omega (arith, f.within); agree = f.agree; less = f.less })
      (λ g. let e : big n p a ≡ big n q x = omega (arith, bytes_p (a + n), bytes_q (x + n)) in record { at = n; within = omega arith; agree = same_bytes n a x e; less = omega arith })
      (side (big n p a) (big n q x))

-- two codes have the same bytes before n
abbrev pub Agreed : List ℕ → List ℕ → ℕ → Type 0
Agreed p q n = (k : ℕ) → k < n → byte p k ≡ byte q k

module _ (p q : List ℕ) (bytes_p : (k : ℕ) → byte p k < 256) (bytes_q : (k : ℕ) → byte q k < 256) where
  -- n bytes more, some of which may be known to be the same
  pub agreed_on : (i j n : ℕ) → Agreed p q i → j ≤ i → big n p j ≡ big n q j → Agreed p q (j + n)
  agreed_on i j n h l e k m = ⊎_elim
      (λ lt. h k lt)
      (λ ge. let z : j + (k - j) ≡ k = omega arith in rw z at (same_bytes p q bytes_p bytes_q n j j e (k - j) (omega arith)))
      (side k i)

  -- the smaller number's code is first
  pub smaller_before : (i j n : ℕ) → Agreed p q i → j ≤ i → j + n ≤ length p → j + n ≤ length q → big n p j < big n q j → Before p q
  smaller_before i j n h l lp lq d =
      let f = first_of p q bytes_p bytes_q n j j d in
      differ_before p q (record {
        at = j + f.at;
        in_s = omega (arith, f.within);
        in_t = omega (arith, f.within);
        agree = λ k m. ⊎_elim
            (λ lt. h k lt)
            (λ ge. let z : j + (k - j) ≡ k = omega arith in rw z at (f.agree (k - j) (omega arith)))
            (side k i);
        less = λ _. f.less;
      })

-- what the answer on such numbers says of the codes
pub told_apart : (p q : List ℕ) → ((k : ℕ) → byte p k < 256) → ((k : ℕ) → byte q k < 256) → (i j n : ℕ) → Agreed p q i → j ≤ i → j + n ≤ length p → j + n ≤ length q
    → (o : Ordering) → MatchOrdering o (big n p j < big n q j) (big n p j ≡ big n q j) (big n q j < big n p j) → (big n p j ≡ big n q j → ⊥) → Ordered p q o
told_apart p q bp bq i j n h l lp lq Less d x = smaller_before p q bp bq i j n h l lp lq d
told_apart p q bp bq i j n h l lp lq Equal d x = absurd (x d)
told_apart p q bp bq i j n h l lp lq Greater d x = smaller_before q p bq bp i j n (λ k m. sym (h k m)) l lq lp d

-- codes that agree as far as both go
pub told_by_length : (p q : List ℕ) → Agreed p q (min (length p) (length q)) → (o : Ordering) → MatchOrdering o (length p < length q) (length p ≡ length q) (length q < length p) → Ordered p q o
told_by_length p q h Less d = differ_before p q (record { at = length p; in_s = omega arith; in_t = d; agree = λ k m. h k (omega arith); less = λ e. absurd (omega arith) })
told_by_length p q h Equal d = ext_get_or 0 p q d (λ k m. h k (omega arith))
told_by_length p q h Greater d = differ_before q p (record { at = length q; in_s = omega arith; in_t = d; agree = λ k m. sym (h k (omega arith)); less = λ e. absurd (omega arith) })
