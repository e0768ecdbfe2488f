-- The sheet's rules over its rows and over its numbers are the same. Assumes nothing.
use Prim.Native.Nat.{ℕ, zero, suc, ◌+◌, ◌<◌, ◌≤◌}
use mathlib.Core.Path.{◌≡◌, sym, subst}
use mathlib.Core.List.{List, map}
use mathlib.Core.Logic.{⊎_elim}
use native.Mathlib.Nat.{not-suc-le-zero, eq-or-lt_of_le}
use native.Mathlib.Omega.{arith}
use lib.ListN.{length, get_or, length-map}
use Rattle.report.specs.declared.SheetRow.{SheetRow}
use Rattle.report.specs.Report.{place_in, limit, sheet_row, RowPlace, GoodSheet}
use Rattle.report.specs.Numbers.{rank, raise_cents, Sound}
use Rattle.report.proofs.Laid.{map_at}
use Rattle.report.proofs.Orders.{parts, low_place, precedes_rank, rank_precedes}
use Rattle.report.proofs.Raises.{amount_in, amount_out}

-- what rises from each to the next rises
rising : (f : ℕ → ℕ) (n : ℕ) → ((k : ℕ) → k + 1 < n → f k < f (k + 1)) → (i j : ℕ) → i < j → j < n → f i < f j
rising f n h i zero l m = absurd (not-suc-le-zero l)
rising f n h i (suc j) l m =
    let e : j + 1 ≡ suc j = omega arith in
    let s : f j < f (suc j) = subst (λ (k : ℕ). f j < f k) e (h j (omega (arith, m))) in
    ⊎_elim (λ (q : i ≡ j). subst (λ (k : ℕ). f k < f (suc j)) (sym q) s) (λ (q : i < j). let r : f i < f j = rising f n h i j q (omega (arith, m)) in omega (arith, r, s)) (eq-or-lt_of_le (omega (arith, l)))

module _ (xs : List SheetRow) where
  abbrev pub ranks : List ℕ
  ranks = map (λ (x : SheetRow). rank (place_in x)) xs

  abbrev pub raised : List ℕ
  raised = map (λ (x : SheetRow). raise_cents x.cents) xs

  pub ranks_long : length ranks ≡ length xs
  ranks_long = length-map xs (λ (x : SheetRow). rank (place_in x))

  pub raised_long : length raised ≡ length xs
  raised_long = length-map xs (λ (x : SheetRow). raise_cents x.cents)

  pub rank_at : (i : ℕ) → i < length xs → get_or {A = ℕ} ranks i 0 ≡ rank (place_in (sheet_row xs i))
  rank_at i l = map_at (λ (x : SheetRow). rank (place_in x)) xs i l

  raised_at : (i : ℕ) → i < length xs → get_or {A = ℕ} raised i 0 ≡ raise_cents (sheet_row xs i).cents
  raised_at i l = map_at (λ (x : SheetRow). raise_cents x.cents) xs i l

  module _ (g : GoodSheet xs) where
    next : (k : ℕ) → k + 1 < length xs → rank (place_in (sheet_row xs k)) < rank (place_in (sheet_row xs (k + 1)))
    next k l = precedes_rank (parts (place_in (sheet_row xs k)) (g.places k (omega (arith, l)))) (parts (place_in (sheet_row xs (k + 1))) (g.places (k + 1) l)) (g.ascending k l)

    rises : (i j : ℕ) → i < j → j < length ranks → get_or {A = ℕ} ranks i 0 < get_or {A = ℕ} ranks j 0
    rises i j l m =
        let k : j < length xs = omega (arith, m, ranks_long) in
        let r : rank (place_in (sheet_row xs i)) < rank (place_in (sheet_row xs j)) = rising (λ (k : ℕ). rank (place_in (sheet_row xs k))) (length xs) next i j l k in
        omega (arith, r, rank_at i (omega (arith, l, k)), rank_at j k)

    pub good_sound : Sound ranks raised
    good_sound = record {
      ascending = record { rises = rises };
      places = record { le = λ i l. let k : i < length xs = omega (arith, l, ranks_long) in omega (arith, rank_at i k, (parts (place_in (sheet_row xs i)) (g.places i k)).rank_low) };
      amounts = record { le = λ i l. let k : i < length xs = omega (arith, l, raised_long) in omega (arith, raised_at i k, amount_in (sheet_row xs i).cents (g.amounts i k).0 (g.amounts i k).1) };
    }

  module _ (few : length xs ≤ limit) (s : Sound ranks raised) where
    place_at : (i : ℕ) → i < length xs → RowPlace (place_in (sheet_row xs i))
    place_at i l = low_place (place_in (sheet_row xs i)) (omega (arith, rank_at i l, s.places.le i (omega (arith, l, ranks_long))))

    pub sound_good : GoodSheet xs
    sound_good = record {
      most = few;
      places = place_at;
      ascending = λ i l. let k : i < length xs = omega (arith, l) in
          rank_precedes (parts (place_in (sheet_row xs i)) (place_at i k)) (parts (place_in (sheet_row xs (i + 1))) (place_at (i + 1) l))
          (omega (arith, rank_at i k, rank_at (i + 1) l, s.ascending.rises i (i + 1) (omega arith) (omega (arith, l, ranks_long))));
      amounts = λ i l. amount_out (sheet_row xs i).cents (omega (arith, raised_at i l, s.amounts.le i (omega (arith, l, raised_long))));
    }
