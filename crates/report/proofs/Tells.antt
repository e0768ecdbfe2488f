-- What a tally tells: how large the sums may be, and the parts of a laid-out sheet. Assumes nothing.
use Prim.Native.Nat.{ℕ, zero, suc, ◌+◌, ◌*◌, ◌-◌, ◌<◌, ◌≤◌}
use mathlib.Core.Path.{◌≡◌, refl, sym, ap, subst}
use mathlib.Core.Bool.{Bool, true, false, cond}
use mathlib.Core.List.{List, [], ◌∷◌}
use native.Mathlib.Omega.{arith}
use native.Mathlib.Nat.{le_of_suc-le-suc, not-suc-le-zero}
use lib.Dec.{ltb, eqb, ltb→lt}
use lib.ListN.{length, get_or, take, drop, replicate, length-replicate, length-drop}
use Rattle.report.specs.Report.{limit}
use Rattle.report.specs.Numbers.{AtMost, index_of, mark_at, tallied, unmarked, unmarked_sum}
use Rattle.report.proofs.Ranks.{holds}

-- the sum of k raised amounts is at most k times the largest
within_when : (t : Bool) (r : ℕ × (ℕ × List ℕ)) (k s : ℕ) (cs : List ℕ) → (t ≡ true → r.1.0 ≤ r.0 * 2000000000000) → s ≤ k * 2000000000000
    → (cond t r (k, (s, cs))).1.0 ≤ (cond t r (k, (s, cs))).0 * 2000000000000
within_when true r k s cs f l = f refl
within_when false r k s cs f l = l

module _ (ps ls : List ℕ) (a : AtMost 2000000000000 ls) (e : length ls ≡ length ps) where
  one_more : (i k s : ℕ) → i < length ps → s ≤ k * 2000000000000 → s + get_or {A = ℕ} ls i 0 ≤ (k + 1) * 2000000000000
  one_more i k s b l = let v : get_or {A = ℕ} ls i 0 ≤ 2000000000000 = a.le i (omega (arith, b, e)) in omega (arith, v, l)

  pub tallied_le : (ws : List ℕ) (k s : ℕ) (cs : List ℕ) → s ≤ k * 2000000000000 → (tallied ps ls ws k s cs).1.0 ≤ (tallied ps ls ws k s cs).0 * 2000000000000
  tallied_le [] k s cs l = l
  tallied_le (w ∷ ws) k s cs l =
      let i = index_of w ps in
      within_when (ltb i (length ps)) (tallied ps ls ws (k + 1) (s + get_or {A = ℕ} ls i 0) (mark_at cs i)) k s cs
      (λ f. tallied_le ws (k + 1) (s + get_or {A = ℕ} ls i 0) (mark_at cs i) (one_more i k s (ltb→lt i (length ps) (holds f)) l)) l

at_most_tail : (m x : ℕ) (xs : List ℕ) → AtMost m (x ∷ xs) → AtMost m xs
at_most_tail m x xs a = record { le = λ i l. a.le (suc i) (omega (arith, l)) }

sum_when : (t : Bool) (l u n : ℕ) → l ≤ 2000000000000 → u ≤ n * 2000000000000 → cond t l 0 + u ≤ (cond t 1 0 + n) * 2000000000000
sum_when true l u n v h = omega (arith, v, h)
sum_when false l u n v h = omega (arith, h)

pub unmarked_le : (ls cs : List ℕ) → AtMost 2000000000000 ls → unmarked_sum ls cs ≤ unmarked cs * 2000000000000
unmarked_le [] cs a = omega arith
unmarked_le (l ∷ ls) [] a = omega arith
unmarked_le (l ∷ ls) (c ∷ cs) a = sum_when (eqb c 0) l (unmarked_sum ls cs) (unmarked cs) (a.le 0 (omega arith)) (unmarked_le ls cs (at_most_tail 2000000000000 l ls a))

count_when : (t : Bool) (u n : ℕ) → u ≤ n → cond t 1 0 + u ≤ suc n
count_when true u n h = omega (arith, h)
count_when false u n h = omega (arith, h)

pub unmarked_most : (cs : List ℕ) → unmarked cs ≤ length cs
unmarked_most [] = omega arith
unmarked_most (c ∷ cs) = count_when (eqb c 0) (unmarked cs) (length cs) (unmarked_most cs)

-- parts
pub take_length : (n : ℕ) (xs : List ℕ) → n ≤ length xs → length (take n xs) ≡ n
take_length zero xs l = refl
take_length (suc n) [] l = absurd (not-suc-le-zero l)
take_length (suc n) (x ∷ xs) l = ap suc (take_length n xs (le_of_suc-le-suc l))

pub take_replicate : (n m : ℕ) (x : ℕ) → n ≤ m → take n (replicate m x) ≡ replicate n x
take_replicate zero m x l = refl
take_replicate (suc n) zero x l = absurd (not-suc-le-zero l)
take_replicate (suc n) (suc m) x l = ap (λ (xs : List ℕ). x ∷ xs) (take_replicate n m x (le_of_suc-le-suc l))

pub prefix_le : (n m : ℕ) → n ≤ m → n ≤ length (replicate {A = ℕ} m 0)
prefix_le n m l = subst (λ (k : ℕ). n ≤ k) (sym (length-replicate {A = ℕ} m 0)) l

pub prefix_length : (n m : ℕ) → n ≤ m → length (take n (replicate {A = ℕ} m 0)) ≡ n
prefix_length n m l = take_length n (replicate {A = ℕ} m 0) (prefix_le n m l)

-- the numbers of the first n rows
module _ (fl : List ℕ) (n : ℕ) (e : length fl ≡ 2 * limit) (l : n ≤ limit) where
  pub width : (limit + n) - limit ≡ n
  width = omega arith

  pub ranks_length : length (take n fl) ≡ n
  ranks_length = take_length n fl (omega (arith, e))

  pub raised_length : length (take n (drop limit fl)) ≡ n
  raised_length =
      let d : length (drop limit fl) ≡ length fl - limit = length-drop limit fl in
      take_length n (drop limit fl) (omega (arith, d, e))

  pub raised_is : take ((limit + n) - limit) (drop limit fl) ≡ take n (drop limit fl)
  raised_is = ap (λ (m : ℕ). take m (drop limit fl)) width
