-- The first row that breaks a rule: there is one exactly where the sheet is not good, it is one, and it stays the first; and the rules of a row over its numbers. Assumes nothing.
use Prim.Native.Nat.{ℕ, zero, suc, ◌+◌, ◌*◌, ◌≤◌, ◌<◌}
use mathlib.Core.Path.{◌≡◌, refl, sym, ap, subst, ◌∙◌}
use mathlib.Core.List.{List, [], ◌∷◌, ◌++◌}
use mathlib.Core.Logic.{⊎_elim}
use native.Mathlib.Omega.{arith}
use lib.IntN.{neg_ℤ}
use lib.Signed.{◌≤ℤ◌}
use lib.ListN.{length, get_or, length-append, length-replicate, get_or-append}
use lib.Seq.{get_or-append_seam}
use Rattle.std.specs.Prelude.{Option, Some, None, IsSome}
use Rattle.ground.proofs.Sides.{side}
use Rattle.commands.specs.declared.SheetLine.{SheetLine}
use Rattle.report.specs.declared.SheetRow.{SheetRow}
use Rattle.report.specs.Numbers.{outside, rank, raise_cents, spread_from}
use Rattle.report.specs.Report.{place_in, limit, highest, zero_row, sheet_row, RowPlace, Precedes, GoodSheet}
use Rattle.report.proofs.Laid.{words_are}
use Rattle.report.proofs.Orders.{parts, low_place, precedes_rank, rank_precedes}
use Rattle.report.proofs.Raises.{amount_in, amount_out}
use Rattle.sheets.specs.Files.{sheet_rows, row_lines, RowKeeps, AllKeep, FirstBreak, BadLine}
use Rattle.sheets.specs.Laying.{blank_sheet, low_after, NumbersKeep, LowSays}
use Rattle.sheets.proofs.Behind.{rows_behind, row_lines_behind, row_lines_long, low_last}

-- ---- a row keeps the rules among the rows up to it

keeps_same : (rs qs : List SheetRow) (i : ℕ) → ((j : ℕ) → j ≤ i → sheet_row rs j ≡ sheet_row qs j) → RowKeeps rs i → RowKeeps qs i
keeps_same rs qs i e k = record {
  most = k.most;
  place = subst (λ (r : SheetRow). RowPlace (place_in r)) (e i (omega arith)) k.place;
  amount = subst (λ (r : SheetRow). (neg_ℤ highest ≤ℤ r.cents) × (r.cents ≤ℤ highest)) (e i (omega arith)) k.amount;
  after = λ j f.
      subst (λ (r : SheetRow). Precedes (place_in (sheet_row qs j)) (place_in r)) (e i (omega arith))
      (subst (λ (r : SheetRow). Precedes (place_in r) (place_in (sheet_row rs i))) (e j (omega (arith, f))) (k.after j f));
}

module _ (rs qs : List SheetRow) (i : ℕ) (l : i < length rs) where
  front : (j : ℕ) → j ≤ i → sheet_row rs j ≡ sheet_row (rs ++ qs) j
  front j m = sym (get_or-append rs qs zero_row j (omega (arith, l, m)))

  pub keeps_front : RowKeeps rs i → RowKeeps (rs ++ qs) i
  keeps_front = keeps_same rs (rs ++ qs) i front

  pub front_keeps : RowKeeps (rs ++ qs) i → RowKeeps rs i
  front_keeps = keeps_same (rs ++ qs) rs i (λ j m. sym (front j m))

-- ---- lines behind

module _ (xs ys : List SheetLine) where
  long : length (sheet_rows (xs ++ ys)) ≡ length (sheet_rows xs) + length (sheet_rows ys)
  long = ap (λ (rs : List SheetRow). length rs) (rows_behind xs ys) ∙ length-append (sheet_rows xs) (sheet_rows ys)

  pub keeps_behind : (i : ℕ) → i < length (sheet_rows xs) → RowKeeps (sheet_rows xs) i → RowKeeps (sheet_rows (xs ++ ys)) i
  keeps_behind i l k = subst (λ (rs : List SheetRow). RowKeeps rs i) (sym (rows_behind xs ys)) (keeps_front (sheet_rows xs) (sheet_rows ys) i l k)

  keeps_before : (i : ℕ) → i < length (sheet_rows xs) → RowKeeps (sheet_rows (xs ++ ys)) i → RowKeeps (sheet_rows xs) i
  keeps_before i l k = front_keeps (sheet_rows xs) (sheet_rows ys) i l (subst (λ (rs : List SheetRow). RowKeeps rs i) (rows_behind xs ys) k)

  -- the first row that breaks a rule stays the first
  pub break_stays : (i l : ℕ) → FirstBreak xs i l → FirstBreak (xs ++ ys) i l
  break_stays i l b = record {
    there = omega (arith, b.there, long);
    breaks = λ k. b.breaks (keeps_before i b.there k);
    before = λ j m. keeps_behind j (omega (arith, m, b.there)) (b.before j m);
    on = b.on ∙ sym (get_or-append (row_lines 1 xs) (row_lines (1 + length xs) ys) 0 i (omega (arith, b.there, row_lines_long 1 xs))) ∙ ap (λ (ns : List ℕ). get_or {A = ℕ} ns i 0) (sym (row_lines_behind 1 xs ys));
  }

  -- lines without a row change nothing
  pub bad_stays : (l : ℕ) → length (sheet_rows ys) ≡ 0 → BadLine xs l → BadLine (xs ++ ys) l
  bad_stays zero e b = record { keep = λ i m. let h : i < length (sheet_rows xs) = omega (arith, m, e, long) in keeps_behind i h (b.keep i h) }
  bad_stays (suc l) e b = (b.0, break_stays b.0 (suc l) b.1)

-- ---- THERE IS NONE EXACTLY WHERE THE SHEET IS GOOD, AND THE FIRST IS ONE

pub good_keep : (rs : List SheetRow) → GoodSheet rs → AllKeep rs
good_keep rs g = record {
  keep = λ i l. record {
    most = omega (arith, l, g.most);
    place = g.places i l;
    amount = g.amounts i l;
    after = λ j e. subst (λ (k : ℕ). Precedes (place_in (sheet_row rs j)) (place_in (sheet_row rs k))) e (g.ascending j (omega (arith, e, l)));
  };
}

pub keep_good : (rs : List SheetRow) → AllKeep rs → GoodSheet rs
keep_good rs a = record {
  most = ⊎_elim (λ (l : limit < length rs). absurd (let h : limit < limit = (a.keep limit l).most in omega (arith, h))) (λ (l : length rs ≤ limit). l) (side limit (length rs));
  places = λ i l. (a.keep i l).place;
  ascending = λ i l. (a.keep (i + 1) l).after i refl;
  amounts = λ i l. (a.keep i l).amount;
}

break_one : (xs : List SheetLine) (i j k l : ℕ) → FirstBreak xs i k → FirstBreak xs j l → k ≡ l
break_one xs i j k l a b =
    ⊎_elim (λ (h : i < j). absurd (a.breaks (b.before i h)))
    (λ (h : j ≤ i). ⊎_elim (λ (m : j < i). absurd (b.breaks (a.before j m)))
    (λ (m : i ≤ j). let e : i ≡ j = omega (arith, h, m) in a.on ∙ ap (λ (n : ℕ). get_or {A = ℕ} (row_lines 1 xs) n 0) e ∙ sym b.on) (side j i)) (side i j)

-- THE LINE OF THE FIRST ROW THAT BREAKS A RULE IS ONE
pub bad_one : (xs : List SheetLine) (k l : ℕ) → BadLine xs k → BadLine xs l → k ≡ l
bad_one xs zero zero a b = refl
bad_one xs zero (suc l) a (j, b) = absurd (b.breaks (a.keep j b.there))
bad_one xs (suc k) zero (i, a) b = absurd (a.breaks (b.keep i a.there))
bad_one xs (suc k) (suc l) (i, a) (j, b) = break_one xs i j (suc k) (suc l) a b

-- ---- a row behind rows that keep the rules, over its numbers

pub blank_long : length blank_sheet ≡ 2 * limit
unfolding blank_sheet
blank_long = length-replicate {A = ℕ} (2 * limit) outside

low_most : (qs : List SheetRow) (x : ℕ) → ((j : ℕ) → j + 1 ≡ length qs → rank (place_in (sheet_row qs j)) < x) → low_after 0 qs ≤ x
low_most [] x h = omega arith
low_most (q ∷ qs) x h =
    let e : length qs + 1 ≡ suc (length qs) = omega arith in
    let f : low_after 0 (q ∷ qs) ≡ suc (rank (place_in (sheet_row (q ∷ qs) (length qs)))) = low_last 0 (q ∷ qs) (length qs) e in
    omega (arith, f, h (length qs) e)

module _ (qs : List SheetRow) (r : SheetRow) (all : AllKeep qs) where
  abbrev rs : List SheetRow
  rs = qs ++ (r ∷ [])

  abbrev fl : List ℕ
  fl = spread_from 0 rs blank_sheet

  abbrev n : ℕ
  n = length qs

  rs_long : length rs ≡ n + 1
  rs_long = length-append qs (r ∷ [])

  row_is : sheet_row rs n ≡ r
  row_is = get_or-append_seam qs r [] zero_row

  row_before : (j : ℕ) → j < n → sheet_row rs j ≡ sheet_row qs j
  row_before j l = get_or-append qs (r ∷ []) zero_row j l

  module _ (most : n < limit) where
    words : (get_or {A = ℕ} fl (0 + n) 0 ≡ rank (place_in (sheet_row rs n))) × (get_or {A = ℕ} fl (limit + (0 + n)) 0 ≡ raise_cents (sheet_row rs n).cents)
    words = words_are rs 0 blank_sheet n blank_long (omega (arith, rs_long, most)) (omega (arith, rs_long))

    rank_is : get_or {A = ℕ} fl n 0 ≡ rank (place_in r)
    rank_is = let e : n ≡ 0 + n = omega arith in ap (λ (k : ℕ). get_or {A = ℕ} fl k 0) e ∙ words.0 ∙ ap (λ (x : SheetRow). rank (place_in x)) row_is

    raise_is : get_or {A = ℕ} fl (limit + n) 0 ≡ raise_cents r.cents
    raise_is = let e : n ≡ 0 + n = omega arith in ap (λ (k : ℕ). get_or {A = ℕ} fl (limit + k) 0) e ∙ words.1 ∙ ap (λ (x : SheetRow). raise_cents x.cents) row_is

  keeps_numbers : RowKeeps rs n → NumbersKeep fl n (low_after 0 qs)
  keeps_numbers k =
      let w : RowPlace (place_in r) = subst (λ (x : SheetRow). RowPlace (place_in x)) row_is k.place in
      let a = subst (λ (x : SheetRow). (neg_ℤ highest ≤ℤ x.cents) × (x.cents ≤ℤ highest)) row_is k.amount in
      let i = rank_is k.most in
      record {
        most = k.most;
        amount = omega (arith, raise_is k.most, amount_in r.cents a.0 a.1);
        place = omega (arith, i, (parts (place_in r) w).rank_low);
        after = low_most qs (get_or {A = ℕ} fl n 0) (λ j e.
            let h : j < n = omega (arith, e) in
            let b : Precedes (place_in (sheet_row qs j)) (place_in r) =
            subst (λ (x : SheetRow). Precedes (place_in x) (place_in r)) (row_before j h) (subst (λ (x : SheetRow). Precedes (place_in (sheet_row rs j)) (place_in x)) row_is (k.after j e)) in
            omega (arith, i, precedes_rank (parts (place_in (sheet_row qs j)) (all.keep j h).place) (parts (place_in r) w) b));
      }

  numbers_keep : NumbersKeep fl n (low_after 0 qs) → RowKeeps rs n
  numbers_keep k =
      let i = rank_is k.most in
      let w : RowPlace (place_in r) = low_place (place_in r) (omega (arith, i, k.place)) in
      record {
        most = k.most;
        place = subst (λ (x : SheetRow). RowPlace (place_in x)) (sym row_is) w;
        amount = subst (λ (x : SheetRow). (neg_ℤ highest ≤ℤ x.cents) × (x.cents ≤ℤ highest)) (sym row_is) (amount_out r.cents (omega (arith, raise_is k.most, k.amount)));
        after = λ j e.
            let h : j < n = omega (arith, e) in
            let f : low_after 0 qs ≡ suc (rank (place_in (sheet_row qs j))) = low_last 0 qs j e in
            let b : Precedes (place_in (sheet_row qs j)) (place_in r) =
            rank_precedes (parts (place_in (sheet_row qs j)) (all.keep j h).place) (parts (place_in r) w) (omega (arith, i, f, k.after)) in
            subst (λ (x : SheetRow). Precedes (place_in x) (place_in (sheet_row rs n))) (sym (row_before j h)) (subst (λ (x : SheetRow). Precedes (place_in (sheet_row qs j)) (place_in x)) (sym row_is) b);
      }

  module _ (v : Option ℕ) (says : LowSays fl n (low_after 0 qs) v) where
    pub low_breaks : v ≡ None → RowKeeps rs n → ⊥
    low_breaks e k = let f = says.keeps (keeps_numbers k) in cc

    pub low_keeps : (w : ℕ) → v ≡ Some w → RowKeeps rs n × (w ≡ suc (rank (place_in r)))
    low_keeps w e =
        let k = says.kept (subst (λ (u : Option ℕ). IsSome u) (sym e) refl) in
        let f = says.keeps k in
        let g : w ≡ get_or {A = ℕ} fl n 0 + 1 = cc in
        (numbers_keep k, omega (arith, g, rank_is k.most))
