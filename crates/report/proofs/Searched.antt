-- Where a search of a rising list finds a number. Assumes nothing.
use Prim.Native.Nat.{ℕ, zero, suc, ◌<◌, ◌≤◌}
use mathlib.Core.Path.{◌≡◌, refl, sym, ap, ◌∙◌}
use mathlib.Core.Bool.{Bool, true, false, cond}
use mathlib.Core.List.{List, [], ◌∷◌}
use native.Mathlib.Nat.{le_of_suc-le-suc, not-suc-le-zero, eq-or-lt_of_le}
use mathlib.Core.Logic.{◌⊎◌, inl, inr}
use native.Mathlib.Omega.{arith}
use lib.Dec.{eqb}
use lib.ListN.{length, get_or}
use Rattle.std.specs.Prelude.{Result, Ok, Err}
use Rattle.std.specs.List.Sorted.{IsBinarySearchResult}
use Rattle.std.specs.Ordering.{nat_cmp}
use Rattle.std.specs.Result.{result_ok}
use Rattle.std.proofs.lemmas.List.Sorted.{searched}
use Rattle.ground.proofs.Sides.{side}
use Rattle.report.specs.Numbers.{RisingNumbers, Finds, index_of}
use Rattle.report.proofs.Ranks.{eq_true, ne_false}

-- the index, from what is known of the list
module _ (w : ℕ) where
  index_when : (p : ℕ) (ps : List ℕ) (t : Bool) → eqb p w ≡ t → index_of w (p ∷ ps) ≡ cond t 0 (suc (index_of w ps))
  index_when p ps t e = ap (λ (t : Bool). cond t 0 (suc (index_of w ps))) e

  pub index_is : (ps : List ℕ) (i : ℕ) → i < length ps → get_or {A = ℕ} ps i 0 ≡ w → ((k : ℕ) → k < i → get_or {A = ℕ} ps k 0 < w) → i ≡ index_of w ps
  index_is [] i l e h = absurd (not-suc-le-zero l)
  index_is (p ∷ ps) zero l e h = sym (index_when p ps true (eq_true p w e))
  index_is (p ∷ ps) (suc i) l e h =
      let d : p < w = h 0 (omega arith) in
      ap suc (index_is ps i (le_of_suc-le-suc l) e (λ k g. h (suc k) (omega (arith, g)))) ∙ sym (index_when p ps false (ne_false p w (λ g. omega (arith, d, g))))

  index_none : (ps : List ℕ) → ((k : ℕ) → k < length ps → (get_or {A = ℕ} ps k 0 ≡ w → ⊥)) → length ps ≡ index_of w ps
  index_none [] h = refl
  index_none (p ∷ ps) h = ap suc (index_none ps (λ k g. h (suc k) (omega (arith, g)))) ∙ sym (index_when p ps false (ne_false p w (h 0 (omega arith))))

module _ {ps : List ℕ} (s : RisingNumbers ps) where
  never_falls : (i j : ℕ) → i ≤ j → j < length ps → get_or {A = ℕ} ps i 0 ≤ get_or {A = ℕ} ps j 0
  never_falls i j le l = at (eq-or-lt_of_le le)
    where
      at : (i ≡ j) ⊎ (i < j) → get_or {A = ℕ} ps i 0 ≤ get_or {A = ℕ} ps j 0
      at (inl e) = let d : get_or {A = ℕ} ps i 0 ≡ get_or {A = ℕ} ps j 0 = ap (λ (k : ℕ). get_or {A = ℕ} ps k 0) e in omega (arith, d)
      at (inr m) = let d : get_or {A = ℕ} ps i 0 < get_or {A = ℕ} ps j 0 = s.rises i j m l in omega (arith, d)

  -- what a binary search answers
  pub found : (w : ℕ) (r : Result ℕ ℕ) → IsBinarySearchResult (λ y. nat_cmp y w) ps r → Finds w ps (result_ok r)
  found w (Ok i) b =
      let m : (i < length ps) × (get_or {A = ℕ} ps i 0 ≡ w) = searched ps w (Ok i) b never_falls in
      (index_is w ps i m.0 m.1 (λ k l. let d : get_or {A = ℕ} ps k 0 < get_or {A = ℕ} ps i 0 = s.rises k i l m.0 in omega (arith, d, m.1)), m.0)
  found w (Err i) b =
      let m = searched ps w (Err i) b never_falls in
      let e : length ps ≡ index_of w ps = index_none w ps (λ k l e. no m.1 m.2 k l e (side k i)) in
      omega (arith, e)
    where
      no : ((k : ℕ) → k < i → get_or {A = ℕ} ps k 0 < w) → ((k : ℕ) → i ≤ k → k < length ps → w < get_or {A = ℕ} ps k 0) → (k : ℕ) → k < length ps → get_or {A = ℕ} ps k 0 ≡ w → (k < i) ⊎ (i ≤ k) → ⊥
      no low high k l e (inl h) = let d : get_or {A = ℕ} ps k 0 < w = low k h in omega (arith, d, e)
      no low high k l e (inr h) = let d : w < get_or {A = ℕ} ps k 0 = high k h l in omega (arith, d, e)
