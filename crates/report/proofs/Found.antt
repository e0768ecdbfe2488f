-- Where a tally stops: at the first number that is not there, or after all. Assumes nothing.
use Prim.Native.Nat.{ℕ, zero, suc, ◌+◌, ◌<◌, ◌≤◌}
use mathlib.Core.Path.{◌≡◌, refl, ◌∙◌}
use mathlib.Core.Bool.{Bool, true, false, cond}
use mathlib.Core.List.{List, [], ◌∷◌}
use native.Mathlib.Nat.{le_of_suc-le-suc, not-suc-le-zero}
use native.Mathlib.Omega.{arith}
use lib.Dec.{ltb, ltb→lt, nltb→le}
use lib.ListN.{length, get_or}
use Rattle.report.specs.Numbers.{index_of, mark_at, tallied}
use Rattle.report.proofs.Ranks.{holds, fails}
use Rattle.report.proofs.Marks.{AllFound}
use Rattle.report.proofs.Runs.{length_mark}

abbrev Run : Type 0
Run = ℕ × (ℕ × List ℕ)

module _ (ps ls : List ℕ) where
  least_when : (t : Bool) (r : Run) (k s : ℕ) (cs : List ℕ) → k ≤ r.0 → k ≤ (cond t r (k, (s, cs))).0
  least_when true r k s cs h = h
  least_when false r k s cs h = omega arith

  least : (ws : List ℕ) (k s : ℕ) (cs : List ℕ) → k ≤ (tallied ps ls ws k s cs).0
  least [] k s cs = omega arith
  least (w ∷ ws) k s cs =
      let i = index_of w ps in
      let h : k + 1 ≤ (tallied ps ls ws (k + 1) (s + get_or {A = ℕ} ls i 0) (mark_at cs i)).0 = least ws (k + 1) (s + get_or {A = ℕ} ls i 0) (mark_at cs i) in
      least_when (ltb i (length ps)) (tallied ps ls ws (k + 1) (s + get_or {A = ℕ} ls i 0) (mark_at cs i)) k s cs (omega (arith, h))

  -- what was gone through is there
  before_when : (t : Bool) (i : ℕ) (r : Run) (k s : ℕ) (cs ws : List ℕ) (w m : ℕ) → ltb i (length ps) ≡ t → i ≡ index_of w ps
      → ((n : ℕ) → k + 1 + n < r.0 → n < length ws → index_of (get_or {A = ℕ} ws n 0) ps < length ps)
      → k + m < (cond t r (k, (s, cs))).0 → m < suc (length ws) → index_of (get_or {A = ℕ} (w ∷ ws) m 0) ps < length ps
  before_when true i r k s cs ws w zero e f ih l b = let h : i < length ps = ltb→lt i (length ps) (holds e) in omega (arith, h, f)
  before_when true i r k s cs ws w (suc m) e f ih l b = let h : k + suc m < r.0 = l in ih m (omega (arith, h)) (le_of_suc-le-suc b)
  before_when false i r k s cs ws w m e f ih l b = let h : k + m < k = l in absurd (omega (arith, h))

  pub before : (ws : List ℕ) (k s : ℕ) (cs : List ℕ) (m : ℕ) → k + m < (tallied ps ls ws k s cs).0 → m < length ws → index_of (get_or {A = ℕ} ws m 0) ps < length ps
  before [] k s cs m l b = absurd (not-suc-le-zero b)
  before (w ∷ ws) k s cs m l b =
      let i = index_of w ps in
      before_when (ltb i (length ps)) i (tallied ps ls ws (k + 1) (s + get_or {A = ℕ} ls i 0) (mark_at cs i)) k s cs ws w m refl refl
      (before ws (k + 1) (s + get_or {A = ℕ} ls i 0) (mark_at cs i)) l b

  -- where it stopped short the number is not there
  at_when : (t : Bool) (i : ℕ) (r : Run) (k s : ℕ) (cs ws : List ℕ) (w m : ℕ) → ltb i (length ps) ≡ t → i ≡ index_of w ps → k + 1 ≤ r.0
      → ((n : ℕ) → r.0 ≡ k + 1 + n → n < length ws → index_of (get_or {A = ℕ} ws n 0) ps < length ps → ⊥)
      → (cond t r (k, (s, cs))).0 ≡ k + m → m < suc (length ws) → index_of (get_or {A = ℕ} (w ∷ ws) m 0) ps < length ps → ⊥
  at_when true i r k s cs ws w zero e f g ih q b x = let h : r.0 ≡ k + 0 = q in omega (arith, h, g)
  at_when true i r k s cs ws w (suc m) e f g ih q b x = let h : r.0 ≡ k + suc m = q in ih m (omega (arith, h)) (le_of_suc-le-suc b) x
  at_when false i r k s cs ws w zero e f g ih q b x = let h : length ps ≤ i = nltb→le i (length ps) (fails e) in omega (arith, h, f, x)
  at_when false i r k s cs ws w (suc m) e f g ih q b x = let h : k ≡ k + suc m = q in omega (arith, h)

  pub stopped : (ws : List ℕ) (k s : ℕ) (cs : List ℕ) (m : ℕ) → (tallied ps ls ws k s cs).0 ≡ k + m → m < length ws → index_of (get_or {A = ℕ} ws m 0) ps < length ps → ⊥
  stopped [] k s cs m q b x = absurd (not-suc-le-zero b)
  stopped (w ∷ ws) k s cs m q b x =
      let i = index_of w ps in
      at_when (ltb i (length ps)) i (tallied ps ls ws (k + 1) (s + get_or {A = ℕ} ls i 0) (mark_at cs i)) k s cs ws w m refl refl (least ws (k + 1) (s + get_or {A = ℕ} ls i 0) (mark_at cs i))
      (stopped ws (k + 1) (s + get_or {A = ℕ} ls i 0) (mark_at cs i)) q b x

  pub all_found : (ws : List ℕ) → ((m : ℕ) → m < length ws → index_of (get_or {A = ℕ} ws m 0) ps < length ps) → AllFound ps ws
  all_found [] h = tt
  all_found (w ∷ ws) h = (h 0 (omega arith), all_found ws (λ m l. h (suc m) (omega (arith, l))))

  -- the marks are as many as before
  marks_when : (t : Bool) (r : Run) (k s : ℕ) (cs : List ℕ) → length r.1.1 ≡ length cs → length (cond t r (k, (s, cs))).1.1 ≡ length cs
  marks_when true r k s cs e = e
  marks_when false r k s cs e = refl

  pub marks_long : (ws : List ℕ) (k s : ℕ) (cs : List ℕ) → length (tallied ps ls ws k s cs).1.1 ≡ length cs
  marks_long [] k s cs = refl
  marks_long (w ∷ ws) k s cs =
      let i = index_of w ps in
      marks_when (ltb i (length ps)) (tallied ps ls ws (k + 1) (s + get_or {A = ℕ} ls i 0) (mark_at cs i)) k s cs
      (marks_long ws (k + 1) (s + get_or {A = ℕ} ls i 0) (mark_at cs i) ∙ length_mark cs i)
