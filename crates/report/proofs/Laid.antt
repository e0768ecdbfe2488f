-- The numbers of a laid-out sheet are its rows': each row's two stand in their places. Assumes nothing.
use Prim.Native.Nat.{ℕ, zero, suc, ◌+◌, ◌*◌, ◌<◌, ◌≤◌}
use mathlib.Core.Path.{◌≡◌, refl, sym, ap, ◌∙◌}
use mathlib.Core.List.{List, [], ◌∷◌, map}
use native.Mathlib.Nat.{le_of_suc-le-suc, not-suc-le-zero}
use native.Mathlib.Omega.{arith}
use lib.ListN.{length, get_or, set, length-set, take, drop, replicate, length-replicate, length-map}
use Rattle.ground.specs.Lists.{part}
use Rattle.ground.proofs.Parts.{part_is}
use Rattle.report.specs.declared.SheetRow.{SheetRow}
use Rattle.report.specs.Numbers.{outside, rank, raise_cents, laid, spread_from, ranks_of, raised_of}
use Rattle.report.specs.Report.{place_in, limit, sheet_row}
use Rattle.report.proofs.Ranks.{eq_true, laid_in}

pub set_same : (xs : List ℕ) (i x : ℕ) → i < length xs → get_or {A = ℕ} (set xs i x) i 0 ≡ x
set_same [] i x l = absurd (not-suc-le-zero l)
set_same (y ∷ xs) zero x l = refl
set_same (y ∷ xs) (suc i) x l = set_same xs i x (le_of_suc-le-suc l)

pub set_other : (xs : List ℕ) (i j x : ℕ) → (i ≡ j → ⊥) → get_or {A = ℕ} (set xs i x) j 0 ≡ get_or {A = ℕ} xs j 0
set_other [] i j x n = refl
set_other (y ∷ xs) zero zero x n = absurd (n refl)
set_other (y ∷ xs) zero (suc j) x n = refl
set_other (y ∷ xs) (suc i) zero x n = refl
set_other (y ∷ xs) (suc i) (suc j) x n = set_other xs i j x (λ e. n (ap suc e))

module _ (fl : List ℕ) (k : ℕ) (r : SheetRow) (e : length fl ≡ (2 * limit)) (l : k < limit) where
  laid_is : set (set fl k (rank (place_in r))) (limit + k) (raise_cents r.cents) ≡ laid fl k r
  laid_is = laid_in fl k r l (eq_true (length fl) (2 * limit) e)

  laid_length : length (laid fl k r) ≡ (2 * limit)
  laid_length = ap (λ (xs : List ℕ). length xs) (sym laid_is) ∙ length-set (set fl k (rank (place_in r))) (limit + k) (raise_cents r.cents) ∙ length-set fl k (rank (place_in r)) ∙ e

  laid_place : get_or {A = ℕ} (laid fl k r) k 0 ≡ rank (place_in r)
  laid_place = ap (λ (xs : List ℕ). get_or {A = ℕ} xs k 0) (sym laid_is) ∙ set_other (set fl k (rank (place_in r))) (limit + k) k (raise_cents r.cents) (λ g. omega (arith, g)) ∙ set_same fl k (rank (place_in r)) (omega (arith, e))

  laid_raise : get_or {A = ℕ} (laid fl k r) (limit + k) 0 ≡ raise_cents r.cents
  laid_raise = let g : length (set fl k (rank (place_in r))) ≡ length fl = length-set fl k (rank (place_in r)) in
      ap (λ (xs : List ℕ). get_or {A = ℕ} xs (limit + k) 0) (sym laid_is) ∙ set_same (set fl k (rank (place_in r))) (limit + k) (raise_cents r.cents) (omega (arith, g, e))

  laid_keeps : (j : ℕ) → (k ≡ j → ⊥) → (limit + k ≡ j → ⊥) → get_or {A = ℕ} (laid fl k r) j 0 ≡ get_or {A = ℕ} fl j 0
  laid_keeps j n m = ap (λ (xs : List ℕ). get_or {A = ℕ} xs j 0) (sym laid_is) ∙ set_other (set fl k (rank (place_in r))) (limit + k) j (raise_cents r.cents) m ∙ set_other fl k j (rank (place_in r)) n

-- rows laid from k on leave the words of the rows before
keeps : (rs : List SheetRow) (k : ℕ) (fl : List ℕ) (j : ℕ) → length fl ≡ (2 * limit) → k + length rs ≤ limit → j < k → (get_or {A = ℕ} (spread_from k rs fl) j 0 ≡ get_or {A = ℕ} fl j 0) × (get_or {A = ℕ} (spread_from k rs fl) (limit + j) 0 ≡ get_or {A = ℕ} fl (limit + j) 0)
keeps [] k fl j e h l = (refl, refl)
keeps (r ∷ rs) k fl j e h l =
    let m : k + suc (length rs) ≤ limit = h in
    let g : k < limit = omega (arith, m) in
    let t = keeps rs (suc k) (laid fl k r) j (laid_length fl k r e g) (omega (arith, m)) (omega (arith, l)) in
    (t.0 ∙ laid_keeps fl k r e g j (λ x. omega (arith, x, l)) (λ x. omega (arith, x, l)), t.1 ∙ laid_keeps fl k r e g (limit + j) (λ x. omega (arith, x, g)) (λ x. omega (arith, x, l)))

-- the words of row i
pub words_are : (rs : List SheetRow) (k : ℕ) (fl : List ℕ) (i : ℕ) → length fl ≡ (2 * limit) → k + length rs ≤ limit → i < length rs
    → (get_or {A = ℕ} (spread_from k rs fl) (k + i) 0 ≡ rank (place_in (sheet_row rs i))) × (get_or {A = ℕ} (spread_from k rs fl) (limit + (k + i)) 0 ≡ raise_cents (sheet_row rs i).cents)
words_are [] k fl i e h l = absurd (not-suc-le-zero l)
words_are (r ∷ rs) k fl zero e h l =
    let m : k + suc (length rs) ≤ limit = h in
    let g : k < limit = omega (arith, m) in
    let z : k + 0 ≡ k = omega arith in
    let t = keeps rs (suc k) (laid fl k r) k (laid_length fl k r e g) (omega (arith, m)) (omega arith) in (
      ap (λ (j : ℕ). get_or {A = ℕ} (spread_from (suc k) rs (laid fl k r)) j 0) z ∙ t.0 ∙ laid_place fl k r e g,
      ap (λ (j : ℕ). get_or {A = ℕ} (spread_from (suc k) rs (laid fl k r)) (limit + j) 0) z ∙ t.1 ∙ laid_raise fl k r e g,
    )
words_are (r ∷ rs) k fl (suc i) e h l =
    let m : k + suc (length rs) ≤ limit = h in
    let g : k < limit = omega (arith, m) in
    let z : k + suc i ≡ suc k + i = omega arith in
    let t = words_are rs (suc k) (laid fl k r) i (laid_length fl k r e g) (omega (arith, m)) (le_of_suc-le-suc l) in
    (ap (λ (j : ℕ). get_or {A = ℕ} (spread_from (suc k) rs (laid fl k r)) j 0) z ∙ t.0, ap (λ (j : ℕ). get_or {A = ℕ} (spread_from (suc k) rs (laid fl k r)) (limit + j) 0) z ∙ t.1)

pub map_at : (f : SheetRow → ℕ) (xs : List SheetRow) (i : ℕ) → i < length xs → get_or {A = ℕ} (map f xs) i 0 ≡ f (sheet_row xs i)
map_at f [] i l = absurd (not-suc-le-zero l)
map_at f (x ∷ xs) zero l = refl
map_at f (x ∷ xs) (suc i) l = map_at f xs i (le_of_suc-le-suc l)

-- all of them, as lists
module _ (xs : List SheetRow) (h : length xs ≤ limit) where
  abbrev pub flat : List ℕ
  flat = spread_from 0 xs (replicate (2 * limit) outside)

  spread_length : (rs : List SheetRow) (k : ℕ) (fl : List ℕ) → length fl ≡ 2 * limit → k + length rs ≤ limit → length (spread_from k rs fl) ≡ 2 * limit
  spread_length [] k fl e l = e
  spread_length (r ∷ rs) k fl e l =
      let m : k + suc (length rs) ≤ limit = l in
      spread_length rs (suc k) (laid fl k r) (laid_length fl k r e (omega (arith, m))) (omega (arith, m))

  long : length flat ≡ 2 * limit
  long = spread_length xs 0 (replicate (2 * limit) outside) (length-replicate {A = ℕ} (2 * limit) outside) (omega (arith, h))

  numbers : (i : ℕ) → i < length xs → (get_or {A = ℕ} flat (0 + i) 0 ≡ rank (place_in (sheet_row xs i))) × (get_or {A = ℕ} flat (limit + (0 + i)) 0 ≡ raise_cents (sheet_row xs i).cents)
  numbers i l = words_are xs 0 (replicate (2 * limit) outside) i (length-replicate {A = ℕ} (2 * limit) outside) (omega (arith, h)) l

  pub ranks_are : ranks_of flat (length xs) ≡ map (λ (x : SheetRow). rank (place_in x)) xs
  unfolding part
  ranks_are =
      let m : length (map (λ (x : SheetRow). rank (place_in x)) xs) ≡ length xs = length-map xs (λ (x : SheetRow). rank (place_in x)) in
      ap (λ (k : ℕ). take k flat) (sym m) ∙ part_is flat 0 (map (λ (x : SheetRow). rank (place_in x)) xs) (omega (arith, m, long, h))
      (λ i l. (numbers i (omega (arith, l, m))).0 ∙ sym (map_at (λ (x : SheetRow). rank (place_in x)) xs i (omega (arith, l, m))))

  pub raised_are : raised_of flat (length xs) ≡ map (λ (x : SheetRow). raise_cents x.cents) xs
  unfolding part
  raised_are =
      let m : length (map (λ (x : SheetRow). raise_cents x.cents) xs) ≡ length xs = length-map xs (λ (x : SheetRow). raise_cents x.cents) in
      ap (λ (k : ℕ). take k (drop limit flat)) (sym m) ∙ part_is flat limit (map (λ (x : SheetRow). raise_cents x.cents) xs) (omega (arith, m, long, h))
      (λ i l. at_limit i ∙ (numbers i (omega (arith, l, m))).1 ∙ sym (map_at (λ (x : SheetRow). raise_cents x.cents) xs i (omega (arith, l, m))))
    where
      at_limit : (i : ℕ) → get_or {A = ℕ} flat (limit + i) 0 ≡ get_or {A = ℕ} flat (limit + (0 + i)) 0
      at_limit i = let z : limit + i ≡ limit + (0 + i) = omega arith in ap (λ (j : ℕ). get_or {A = ℕ} flat j 0) z
