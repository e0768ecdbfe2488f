-- The numbers after the first i rows are laid. Assumes nothing.
use Prim.Native.Nat.{ℕ, zero, suc, ◌+◌, ◌<◌}
use mathlib.Core.Path.{◌≡◌, refl, ap, ◌∙◌}
use mathlib.Core.List.{List, [], ◌∷◌}
use native.Mathlib.Nat.{le_of_suc-le-suc, not-suc-le-zero}
use native.Mathlib.Omega.{arith}
use lib.ListN.{length}
use Rattle.report.specs.declared.SheetRow.{SheetRow}
use Rattle.report.specs.Numbers.{laid, spread_from}
use Rattle.report.specs.Report.{sheet_row}

abbrev pub upto : ℕ → ℕ → List SheetRow → List ℕ → List ℕ
upto k zero ys fl = fl
upto k (suc i) [] fl = fl
upto k (suc i) (r ∷ rs) fl = upto (suc k) i rs (laid fl k r)

upto_suc : (k i : ℕ) (ys : List SheetRow) (fl : List ℕ) → i < length ys → upto k (suc i) ys fl ≡ laid (upto k i ys fl) (k + i) (sheet_row ys i)
upto_suc k i [] fl l = absurd (not-suc-le-zero l)
upto_suc k zero (r ∷ rs) fl l = let e : k ≡ k + 0 = omega arith in ap (λ (j : ℕ). laid fl j r) e
upto_suc k (suc i) (r ∷ rs) fl l =
    let e : suc k + i ≡ k + suc i = omega arith in
    upto_suc (suc k) i rs (laid fl k r) (le_of_suc-le-suc l) ∙ ap (λ (j : ℕ). laid (upto (suc k) i rs (laid fl k r)) j (sheet_row rs i)) e

pub upto_next : (i : ℕ) (ys : List SheetRow) (fl : List ℕ) → i < length ys → upto 0 (i + 1) ys fl ≡ laid (upto 0 i ys fl) i (sheet_row ys i)
upto_next i ys fl l =
    let e : i + 1 ≡ suc i = omega arith in
    let z : 0 + i ≡ i = omega arith in
    ap (λ (j : ℕ). upto 0 j ys fl) e ∙ upto_suc 0 i ys fl l ∙ ap (λ (j : ℕ). laid (upto 0 i ys fl) j (sheet_row ys i)) z

pub upto_all : (k : ℕ) (ys : List SheetRow) (fl : List ℕ) → upto k (length ys) ys fl ≡ spread_from k ys fl
upto_all k [] fl = refl
upto_all k (r ∷ rs) fl = upto_all (suc k) rs (laid fl k r)
