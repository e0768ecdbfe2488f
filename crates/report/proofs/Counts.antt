-- What one mark more changes of what a tally counts, and what is counted where no mark is set. Assumes nothing.
use Prim.Native.Nat.{ℕ, zero, suc, ◌+◌, ◌*◌, ◌<◌, ◌≤◌}
use mathlib.Core.Path.{◌≡◌, refl, sym, ap, ◌∙◌}
use mathlib.Core.Bool.{Bool, true, false, cond}
use mathlib.Core.List.{List, [], ◌∷◌}
use native.Mathlib.Nat.{le_of_suc-le-suc, not-suc-le-zero}
use native.Mathlib.Omega.{arith}
use lib.Dec.{ltb, leb, eqb}
use lib.ListN.{length, get_or, set, replicate}
use Rattle.std.specs.Prelude.{sum}
use Rattle.std.proofs.lemmas.List.Sums.{sum_by-cons}
use Rattle.report.specs.declared.Counted.{Counted}
use Rattle.report.specs.Numbers.{AtMost, mark_at, if_so, unmarked, unmarked_sum, remarked, sum_of, OneMore, MarkedBy}
use Rattle.report.proofs.Ranks.{lt_no, ne_false}

if_so_le : (t : Bool) (n : ℕ) → if_so t n ≤ n
if_so_le true n = omega arith
if_so_le false n = omega arith

-- ---- a mark in place of another

unmarked_set : (cs : List ℕ) (i c v : ℕ) → i < length cs → get_or {A = ℕ} cs i 0 ≡ c → unmarked (set cs i v) + if_so (eqb c 0) 1 ≡ unmarked cs + if_so (eqb v 0) 1
unmarked_set [] i c v l e = absurd (not-suc-le-zero l)
unmarked_set (x ∷ cs) zero c v l e = let f : if_so (eqb x 0) 1 ≡ if_so (eqb c 0) 1 = ap (λ (n : ℕ). if_so (eqb n 0) 1) e in omega (arith, f)
unmarked_set (x ∷ cs) (suc i) c v l e =
    let h : unmarked (set cs i v) + if_so (eqb c 0) 1 ≡ unmarked cs + if_so (eqb v 0) 1 = unmarked_set cs i c v (le_of_suc-le-suc l) e in
    omega (arith, h)

sum_set : (ls cs : List ℕ) (i c v : ℕ) → i < length ls → i < length cs → get_or {A = ℕ} cs i 0 ≡ c → unmarked_sum ls (set cs i v) + if_so (eqb c 0) (get_or {A = ℕ} ls i 0) ≡ unmarked_sum ls cs + if_so (eqb v 0) (get_or {A = ℕ} ls i 0)
sum_set [] cs i c v k l e = absurd (not-suc-le-zero k)
sum_set (y ∷ ls) [] i c v k l e = absurd (not-suc-le-zero l)
sum_set (y ∷ ls) (x ∷ cs) zero c v k l e = let f : if_so (eqb x 0) y ≡ if_so (eqb c 0) y = ap (λ (n : ℕ). if_so (eqb n 0) y) e in omega (arith, f)
sum_set (y ∷ ls) (x ∷ cs) (suc i) c v k l e =
    let h : unmarked_sum ls (set cs i v) + if_so (eqb c 0) (get_or {A = ℕ} ls i 0) ≡ unmarked_sum ls cs + if_so (eqb v 0) (get_or {A = ℕ} ls i 0) = sum_set ls cs i c v (le_of_suc-le-suc k) (le_of_suc-le-suc l) e in
    omega (arith, h)

remarked_set : (cs : List ℕ) (i c v : ℕ) → i < length cs → get_or {A = ℕ} cs i 0 ≡ c → remarked (set cs i v) + if_so (leb 2 c) 1 ≡ remarked cs + if_so (leb 2 v) 1
remarked_set [] i c v l e = absurd (not-suc-le-zero l)
remarked_set (x ∷ cs) zero c v l e = let f : if_so (leb 2 x) 1 ≡ if_so (leb 2 c) 1 = ap (λ (n : ℕ). if_so (leb 2 n) 1) e in omega (arith, f)
remarked_set (x ∷ cs) (suc i) c v l e =
    let h : remarked (set cs i v) + if_so (leb 2 c) 1 ≡ remarked cs + if_so (leb 2 v) 1 = remarked_set cs i c v (le_of_suc-le-suc l) e in
    omega (arith, h)

-- ---- one code more under row i

module _ (ls cs : List ℕ) (i : ℕ) (k : i < length ls) (l : i < length cs) where
  abbrev y : ℕ
  y = get_or {A = ℕ} ls i 0

  record Gain (c : ℕ) : Type 0 where
    named : unmarked (mark_at cs i) + if_so (eqb c 0) 1 ≡ unmarked cs
    once : unmarked_sum ls (mark_at cs i) + if_so (eqb c 0) y ≡ unmarked_sum ls cs
    doubled : remarked (mark_at cs i) ≡ remarked cs + if_so (eqb c 1) 1

  marked_as : (c : ℕ) → get_or {A = ℕ} cs i 0 ≡ c → mark_at cs i ≡ cond (ltb c 2) (set cs i (c + 1)) cs
  marked_as c e = ap (λ (n : ℕ). cond (ltb n 2) (set cs i (n + 1)) cs) e

  gain : (c : ℕ) → get_or {A = ℕ} cs i 0 ≡ c → Gain c
  gain zero e =
      let f : mark_at cs i ≡ set cs i 1 = marked_as 0 e in
      let a : unmarked (set cs i 1) + 1 ≡ unmarked cs + 0 = unmarked_set cs i 0 1 l e in
      let b : unmarked_sum ls (set cs i 1) + y ≡ unmarked_sum ls cs + 0 = sum_set ls cs i 0 1 k l e in
      let d : remarked (set cs i 1) + 0 ≡ remarked cs + 0 = remarked_set cs i 0 1 l e in
      let a' : unmarked (mark_at cs i) + 1 ≡ unmarked cs = omega (arith, a, ap unmarked f) in
      let b' : unmarked_sum ls (mark_at cs i) + y ≡ unmarked_sum ls cs = omega (arith, b, ap (unmarked_sum ls) f) in
      let d' : remarked (mark_at cs i) ≡ remarked cs + 0 = omega (arith, d, ap remarked f) in
      record { named = a'; once = b'; doubled = d' }
  gain (suc zero) e =
      let f : mark_at cs i ≡ set cs i 2 = marked_as 1 e in
      let a : unmarked (set cs i 2) + 0 ≡ unmarked cs + 0 = unmarked_set cs i 1 2 l e in
      let b : unmarked_sum ls (set cs i 2) + 0 ≡ unmarked_sum ls cs + 0 = sum_set ls cs i 1 2 k l e in
      let d : remarked (set cs i 2) + 0 ≡ remarked cs + 1 = remarked_set cs i 1 2 l e in
      let a' : unmarked (mark_at cs i) + 0 ≡ unmarked cs = omega (arith, a, ap unmarked f) in
      let b' : unmarked_sum ls (mark_at cs i) + 0 ≡ unmarked_sum ls cs = omega (arith, b, ap (unmarked_sum ls) f) in
      let d' : remarked (mark_at cs i) ≡ remarked cs + 1 = omega (arith, d, ap remarked f) in
      record { named = a'; once = b'; doubled = d' }
  gain (suc (suc c)) e =
      let many : 2 ≤ suc (suc c) = omega arith in
      let f : mark_at cs i ≡ cs = marked_as (suc (suc c)) e ∙ ap (λ (t : Bool). cond t (set cs i (suc (suc c) + 1)) cs) (lt_no (suc (suc c)) 2 many) in
      let z : (n : ℕ) → if_so (eqb (suc (suc c)) 0) n ≡ 0 = λ n. ap (λ (t : Bool). if_so t n) (ne_false (suc (suc c)) 0 (λ h. omega (arith, h, many))) in
      let o : if_so (eqb (suc (suc c)) 1) 1 ≡ 0 = ap (λ (t : Bool). if_so t 1) (ne_false (suc (suc c)) 1 (λ h. omega (arith, h, many))) in
      record { named = omega (arith, z 1, ap unmarked f); once = omega (arith, z y, ap (unmarked_sum ls) f); doubled = omega (arith, o, ap remarked f) }

-- ---- what a tally has counted

-- no number grows faster than those of the codes
pub record Counting (ls cs₀ cs : List ℕ) (t : Counted) : Type 0 where
  pub marks : MarkedBy ls cs₀ cs t
  pub named_le : t.named ≤ t.codes
  pub once_le : t.once ≤ t.sum
  pub doubled_le : t.doubled ≤ t.codes

pub counting_start : (ls cs : List ℕ) (t : Counted) → t.codes ≡ 0 → t.sum ≡ 0 → t.named ≡ 0 → t.once ≡ 0 → t.doubled ≡ 0 → Counting ls cs cs t
counting_start ls cs t k s n o d = record {
  marks = record { named = omega (arith, n); once = omega (arith, o); doubled = omega (arith, d) };
  named_le = omega (arith, n);
  once_le = omega (arith, o);
  doubled_le = omega (arith, d);
}

module _ {ls cs₀ cs : List ℕ} {t : Counted} (g : Counting ls cs₀ cs t) where
  pub counting_next : (i : ℕ) → i < length ls → i < length cs → (m : ℕ) → m ≡ get_or {A = ℕ} cs i 0 → (r : Counted) → OneMore t (get_or {A = ℕ} ls i 0) m r → (cs' : List ℕ) → cs' ≡ mark_at cs i → Counting ls cs₀ cs' r
  counting_next i k l m e r o cs' f =
      let y : ℕ = get_or {A = ℕ} ls i 0 in
      let w = gain ls cs i k l m (sym e) in
      record {
        marks = record {
          named = omega (arith, g.marks.named, o.named, w.named, ap unmarked f);
          once = omega (arith, g.marks.once, o.once, w.once, ap (unmarked_sum ls) f);
          doubled = omega (arith, g.marks.doubled, o.doubled, w.doubled, ap remarked f);
        };
        named_le = omega (arith, g.named_le, o.named, o.codes, if_so_le (eqb m 0) 1);
        once_le = omega (arith, g.once_le, o.once, o.sum, if_so_le (eqb m 0) y);
        doubled_le = omega (arith, g.doubled_le, o.doubled, o.codes, if_so_le (eqb m 1) 1);
      }

-- ---- clear marks

pub clear_unmarked : (n : ℕ) → unmarked (replicate n 0) ≡ n
clear_unmarked zero = refl
clear_unmarked (suc n) = let h : unmarked (replicate n 0) ≡ n = clear_unmarked n in let g : 1 + unmarked (replicate n 0) ≡ suc n = omega (arith, h) in g

pub clear_sum : (ls : List ℕ) → unmarked_sum ls (replicate (length ls) 0) ≡ sum_of ls
clear_sum [] = refl
clear_sum (l ∷ ls) = ap (λ (n : ℕ). l + n) (clear_sum ls)

pub clear_remarked : (n : ℕ) → remarked (replicate n 0) ≡ 0
clear_remarked zero = refl
clear_remarked (suc n) = let h : remarked (replicate n 0) ≡ 0 = clear_remarked n in let g : 0 + remarked (replicate n 0) ≡ 0 = omega (arith, h) in g

-- ---- the sum of all amounts

pub sum_is : (ls : List ℕ) → sum ls ≡ sum_of ls
sum_is [] = refl
sum_is (l ∷ ls) = sum_by-cons (λ n. n) l ls ∙ ap (λ (n : ℕ). l + n) (sum_is ls)

sum_le : (ls : List ℕ) → ((i : ℕ) → i < length ls → get_or {A = ℕ} ls i 0 ≤ 2000000000000) → sum_of ls ≤ length ls * 2000000000000
sum_le [] h = omega arith
sum_le (l ∷ ls) h =
    let a : l ≤ 2000000000000 = h 0 (omega arith) in
    let b : sum_of ls ≤ length ls * 2000000000000 = sum_le ls (λ i k. h (suc i) (omega (arith, k))) in
    omega (arith, a, b)

pub sum_fits : (ls : List ℕ) → AtMost 2000000000000 ls → length ls ≤ 4000000 → sum ls < 18446744073709551616
sum_fits ls a m = let b : sum_of ls ≤ length ls * 2000000000000 = sum_le ls a.le in let e : sum ls ≡ sum_of ls = sum_is ls in omega (arith, b, e, m)
