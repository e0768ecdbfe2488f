-- A code names the sheet row where its rank stands in the ranks. Assumes nothing.
use Prim.Native.Nat.{ℕ, suc, ◌<◌}
use mathlib.Core.Path.{◌≡◌, refl, sym, ap, subst, ◌∙◌}
use mathlib.Core.Bool.{Bool, true, false, cond, ◌&&◌}
use mathlib.Core.List.{List, [], ◌∷◌}
use native.Mathlib.Nat.{le_of_suc-le-suc, not-suc-le-zero}
use native.Mathlib.Omega.{arith}
use lib.Dec.{eqb, eqb→eq}
use lib.IntN.{ℤ, pos, negsuc}
use lib.ListN.{length, get_or}
use Rattle.ground.proofs.Tests.{untrue}
use Rattle.page.specs.declared.Place.{Place}
use Rattle.page.specs.Places.{place_from}
use Rattle.partition.specs.Partition.{Row}
use Rattle.report.specs.declared.SheetRow.{SheetRow}
use Rattle.report.specs.Report.{place_in, sheet_row, RowPlace, same, same_place, names, InSheet}
use Rattle.report.specs.Numbers.{rank, rank_on, index_of, RisingNumbers}
use Rattle.report.proofs.Ranks.{holds, eq_true}
use Rattle.report.proofs.Searched.{index_is}
use Rattle.report.proofs.Orders.{parts, low_place, rank_one}
use Rattle.report.proofs.Sheets.{ranks, ranks_long, rank_at}

pub alike : (b c : Bool) → (b ≡ true → c ≡ true) → (c ≡ true → b ≡ true) → b ≡ c
alike true c f g = sym (f refl)
alike false true f g = g refl
alike false false f g = refl

same_yes : (a b : ℤ) → same a b ≡ true → a ≡ b
same_yes (pos m) (pos n) e = ap pos (eqb→eq m n (holds e))
same_yes (pos m) (negsuc n) e = untrue e
same_yes (negsuc m) (pos n) e = untrue e
same_yes (negsuc m) (negsuc n) e = ap negsuc (eqb→eq m n (holds e))

same_refl : (a : ℤ) → same a a ≡ true
same_refl (pos m) = eq_true m m refl
same_refl (negsuc m) = eq_true m m refl

and_yes : (a b : Bool) → (a && b) ≡ true → (a ≡ true) × (b ≡ true)
and_yes true b e = (refl, e)
and_yes false b e = untrue e

pub place_yes : (p q : Place) → same_place p q ≡ true → p ≡ q
place_yes p q e =
    let w = and_yes (same p.page q.page) (same p.slot q.slot && same p.volume q.volume) e in
    let v = and_yes (same p.slot q.slot) (same p.volume q.volume) w.1 in
    λ i. record { page = same_yes p.page q.page w.0 i; slot = same_yes p.slot q.slot v.0 i; volume = same_yes p.volume q.volume v.1 i }

place_refl : (p : Place) → same_place p p ≡ true
place_refl p = ap (λ (t : Bool). t && (same p.slot p.slot && same p.volume p.volume)) (same_refl p.page)
    ∙ ap (λ (t : Bool). t && same p.volume p.volume) (same_refl p.slot) ∙ same_refl p.volume

-- a place of a row place's rank is that place
pub rank_names : (p q : Place) → RowPlace q → rank q ≡ rank p → p ≡ q
rank_names p q r e = let Q = parts q r in rank_one (parts p (low_place p (omega (arith, e, Q.rank_low)))) Q (sym e)

pub names_is : (r : Row) (x : SheetRow) → RowPlace (place_in x) → names r x ≡ eqb (rank (place_in x)) (rank_on r)
names_is r x h = alike (names r x) (eqb (rank (place_in x)) (rank_on r))
    (λ e. eq_true (rank (place_in x)) (rank_on r) (ap rank (sym (place_yes (place_from r.place) (place_in x) e))))
    (λ e. subst (λ (p : Place). same_place (place_from r.place) p ≡ true) (rank_names (place_from r.place) (place_in x) h (eqb→eq (rank (place_in x)) (rank_on r) (holds e))) (place_refl (place_from r.place)))

-- where a number stands
hit_when : (t : Bool) (p w : ℕ) (ps : List ℕ) (k m : ℕ) → eqb p w ≡ t → (k < m → get_or {A = ℕ} ps k 0 ≡ w) → cond t 0 (suc k) < suc m → get_or {A = ℕ} (p ∷ ps) (cond t 0 (suc k)) 0 ≡ w
hit_when true p w ps k m e f l = eqb→eq p w (holds e)
hit_when false p w ps k m e f l = f (le_of_suc-le-suc l)

pub index_hit : (w : ℕ) (ps : List ℕ) → index_of w ps < length ps → get_or {A = ℕ} ps (index_of w ps) 0 ≡ w
index_hit w [] l = absurd (not-suc-le-zero l)
index_hit w (p ∷ ps) l = hit_when (eqb p w) p w ps (index_of w ps) (length ps) refl (index_hit w ps) l

pub index_there : (w : ℕ) (ps : List ℕ) → RisingNumbers ps → (i : ℕ) → i < length ps → get_or {A = ℕ} ps i 0 ≡ w → i ≡ index_of w ps
index_there w ps r i l e = index_is w ps i l e (λ k m. let d : get_or {A = ℕ} ps k 0 < get_or {A = ℕ} ps i 0 = r.rises k i m l in omega (arith, d, e))

module _ (xs : List SheetRow) (places : (i : ℕ) → i < length xs → RowPlace (place_in (sheet_row xs i))) (r : RisingNumbers (ranks xs)) where
  -- its index is that of the row that has its place
  pub index_names : (q : Row) (j : ℕ) → j < length xs → eqb (index_of (rank_on q) (ranks xs)) j ≡ names q (sheet_row xs j)
  index_names q j l = alike (eqb (index_of (rank_on q) (ranks xs)) j) (names q (sheet_row xs j)) to from
    where
      k : j < length (ranks xs)
      k = omega (arith, l, ranks_long xs)

      to : eqb (index_of (rank_on q) (ranks xs)) j ≡ true → names q (sheet_row xs j) ≡ true
      to e =
          let f : index_of (rank_on q) (ranks xs) ≡ j = eqb→eq (index_of (rank_on q) (ranks xs)) j (holds e) in
          let h : get_or {A = ℕ} (ranks xs) j 0 ≡ rank_on q = subst (λ (i : ℕ). get_or {A = ℕ} (ranks xs) i 0 ≡ rank_on q) f (index_hit (rank_on q) (ranks xs) (omega (arith, f, k))) in
          names_is q (sheet_row xs j) (places j l) ∙ eq_true (rank (place_in (sheet_row xs j))) (rank_on q) (sym (rank_at xs j l) ∙ h)

      from : names q (sheet_row xs j) ≡ true → eqb (index_of (rank_on q) (ranks xs)) j ≡ true
      from e =
          let h : rank (place_in (sheet_row xs j)) ≡ rank_on q = eqb→eq (rank (place_in (sheet_row xs j))) (rank_on q) (holds (sym (names_is q (sheet_row xs j) (places j l)) ∙ e)) in
          eq_true (index_of (rank_on q) (ranks xs)) j (sym (index_there (rank_on q) (ranks xs) r j k (rank_at xs j l ∙ h)))

  -- a place is in the sheet where its rank is in the ranks
  pub in_sheet : (p : Place) → index_of (rank p) (ranks xs) < length (ranks xs) → InSheet xs p
  in_sheet p l =
      let i = index_of (rank p) (ranks xs) in
      let k : index_of (rank p) (ranks xs) < length xs = omega (arith, l, ranks_long xs) in
      (i, k, sym (rank_names p (place_in (sheet_row xs i)) (places i k) (sym (rank_at xs i k) ∙ index_hit (rank p) (ranks xs) l)))

  pub sheet_in : (p : Place) → InSheet xs p → index_of (rank p) (ranks xs) < length (ranks xs)
  sheet_in p w =
      let k : w.0 < length (ranks xs) = omega (arith, w.1, ranks_long xs) in
      let e : w.0 ≡ index_of (rank p) (ranks xs) = index_there (rank p) (ranks xs) r w.0 k (rank_at xs w.0 w.1 ∙ ap rank w.2) in
      omega (arith, k, e)
