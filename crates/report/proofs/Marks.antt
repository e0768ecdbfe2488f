-- A row's mark is the number of codes that name it, up to two. Assumes nothing.
use Prim.Native.Nat.{ℕ, zero, suc, ◌+◌, ◌<◌}
use mathlib.Core.Path.{◌≡◌, refl, sym, ap, subst, ◌∙◌}
use mathlib.Core.Bool.{Bool, true, false, cond}
use mathlib.Core.List.{List, [], ◌∷◌}
use native.Mathlib.Omega.{arith}
use lib.Dec.{T, ltb, eqb, eqb→eq}
use lib.ListN.{length, get_or, set}
use Rattle.report.specs.Numbers.{index_of, mark_at, tallied}
use Rattle.report.proofs.Ranks.{holds, lt_yes, eq_true}
use Rattle.report.proofs.Runs.{length_mark}
use Rattle.report.proofs.Laid.{set_same, set_other}

abbrev pub bump : ℕ → ℕ
bump c = cond (ltb c 2) (c + 1) c

-- m codes more
abbrev pub bumped : ℕ → ℕ → ℕ
bumped c zero = c
bumped c (suc m) = bumped (bump c) m

-- how many codes name row j
abbrev pub times : ℕ → List ℕ → List ℕ → ℕ
times j ps [] = 0
times j ps (w ∷ ws) = cond (eqb (index_of w ps) j) (suc (times j ps ws)) (times j ps ws)

abbrev pub AllFound : List ℕ → List ℕ → Type 0
AllFound ps [] = Unit {0}
AllFound ps (w ∷ ws) = (index_of w ps < length ps) × AllFound ps ws

same_when : (cs : List ℕ) (i : ℕ) (t : Bool) → i < length cs → get_or {A = ℕ} (cond t (set cs i (get_or {A = ℕ} cs i 0 + 1)) cs) i 0 ≡ cond t (get_or {A = ℕ} cs i 0 + 1) (get_or {A = ℕ} cs i 0)
same_when cs i true l = set_same cs i (get_or {A = ℕ} cs i 0 + 1) l
same_when cs i false l = refl

other_when : (cs : List ℕ) (i j : ℕ) (t : Bool) → (i ≡ j → ⊥) → get_or {A = ℕ} (cond t (set cs i (get_or {A = ℕ} cs i 0 + 1)) cs) j 0 ≡ get_or {A = ℕ} cs j 0
other_when cs i j true n = set_other cs i j (get_or {A = ℕ} cs i 0 + 1) n
other_when cs i j false n = refl

mark_when : (cs : List ℕ) (i j m : ℕ) (t : Bool) → eqb i j ≡ t → i < length cs → bumped (get_or {A = ℕ} (mark_at cs i) j 0) m ≡ bumped (get_or {A = ℕ} cs j 0) (cond t (suc m) m)
mark_when cs i j m true e l =
    let h : i ≡ j = eqb→eq i j (holds e) in
    subst (λ (j : ℕ). bumped (get_or {A = ℕ} (mark_at cs i) j 0) m ≡ bumped (bump (get_or {A = ℕ} cs j 0)) m) h (ap (λ (c : ℕ). bumped c m) (same_when cs i (ltb (get_or {A = ℕ} cs i 0) 2) l))
mark_when cs i j m false e l = ap (λ (c : ℕ). bumped c m) (other_when cs i j (ltb (get_or {A = ℕ} cs i 0) 2) (λ h. absurd (subst T (sym (eq_true i j h) ∙ e) tt)))

pub marks_are : (ps ls ws : List ℕ) (k s : ℕ) (cs : List ℕ) (j : ℕ) → AllFound ps ws → length cs ≡ length ps → get_or {A = ℕ} (tallied ps ls ws k s cs).1.1 j 0 ≡ bumped (get_or {A = ℕ} cs j 0) (times j ps ws)
marks_are ps ls [] k s cs j f e = refl
marks_are ps ls (w ∷ ws) k s cs j f e =
    let i = index_of w ps in
    let a : index_of w ps < length ps = f.0 in
    ap (λ (t : Bool). get_or {A = ℕ} (cond t (tallied ps ls ws (k + 1) (s + get_or {A = ℕ} ls i 0) (mark_at cs i)) (k, (s, cs))).1.1 j 0) (lt_yes i (length ps) a)
    ∙ marks_are ps ls ws (k + 1) (s + get_or {A = ℕ} ls i 0) (mark_at cs i) j f.1 (length_mark cs i ∙ e)
    ∙ mark_when cs i j (times j ps ws) (eqb i j) refl (omega (arith, a, e))
