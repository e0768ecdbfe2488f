-- A line laid out behind lines. Assumes nothing.
use Prim.Native.Nat.{ℕ, zero, suc, ◌+◌, ◌*◌, ◌≤◌, ◌<◌}
use mathlib.Core.Path.{◌≡◌, refl, sym, ap, subst, ◌∙◌}
use mathlib.Core.Bool.{Bool, cond, ◌&&◌}
use mathlib.Core.List.{List, [], ◌∷◌, ◌++◌, append-nil}
use mathlib.Core.Logic.{⊎_elim}
use native.Mathlib.Omega.{arith}
use lib.Dec.{eqb}
use lib.IntN.{ℤ}
use lib.ListN.{length, get_or, set, length-append}
use lib.Seq.{get_or_at}
use Rattle.std.specs.Prelude.{false, Option, Some, None, IsSome, is_some}
use Rattle.ground.proofs.Sides.{side}
use Rattle.ground.proofs.Tests.{untrue}
use Rattle.commands.specs.declared.SheetLine.{SheetLine}
use Rattle.commands.specs.declared.SheetLine.TheVariants.{Passed, Amount, Other}
use Rattle.page.specs.declared.Place.{Place}
use Rattle.report.specs.declared.SheetRow.{SheetRow}
use Rattle.report.specs.Numbers.{rank, raise_cents, laid, spread_from}
use Rattle.report.specs.Report.{place_in, limit}
use Rattle.report.proofs.Ranks.{lt_no}
use Rattle.sheets.specs.declared.Sheet.{Sheet}
use Rattle.sheets.specs.Files.{amount_row, sheet_rows, row_lines, other_line, RowKeeps, AllKeep, BadLine}
use Rattle.sheets.specs.Laying.{blank_sheet, low_after, LowSays, WrongAt, BadAt, LaidOut}
use Rattle.sheets.proofs.Behind.{rows_behind, row_lines_behind, row_lines_long, other_stays, other_behind, spread_behind, low_behind}
use Rattle.sheets.proofs.Breaks.{keeps_behind, break_stays, bad_stays, low_breaks, low_keeps}

pub none_is : (w : Option ℕ) → is_some w ≡ false → w ≡ None
none_is None e = refl
none_is (Some l) e = untrue (sym e)

-- a row past the room is not laid out
unlaid : (fl : List ℕ) (i : ℕ) (r : SheetRow) → limit ≤ i → laid fl i r ≡ fl
unlaid fl i r l = ap (λ (t : Bool). cond (t && eqb (length fl) (2 * limit)) (set (set fl i (rank (place_in r))) (limit + i) (raise_cents r.cents)) fl) (lt_no i limit l)

module _ (xs ys : List SheetLine) where
  other_same : ((k : ℕ) → other_line k ys ≡ 0) → (w : Option ℕ) → WrongAt xs w → WrongAt (xs ++ ys) w
  other_same h None e = sym (other_behind 0 xs ys e) ∙ h (1 + length xs)
  other_same h (Some l) (e, m) = (e ∙ other_stays 1 xs ys (omega (arith, e, m)), m)

  bad_known : (b : Option ℕ) → IsSome b → BadAt xs b → BadAt (xs ++ ys) b
  bad_known None h b = untrue h
  bad_known (Some l) h (b, m) = (known l m b, m)
    where
      known : (l : ℕ) → 1 ≤ l → BadLine xs l → BadLine (xs ++ ys) l
      known zero h b = absurd (omega (arith, h))
      known (suc l) h b = (b.0, break_stays xs ys b.0 (suc l) b.1)

  bad_kept : (b : Option ℕ) → length (sheet_rows ys) ≡ 0 → BadAt xs b → BadAt (xs ++ ys) b
  bad_kept None e b = bad_stays xs ys 0 e b
  bad_kept (Some l) e (b, m) = (bad_stays xs ys l e b, m)

bad_many : (xs : List SheetLine) (b : Option ℕ) → limit < length (sheet_rows xs) → BadAt xs b → IsSome b
bad_many xs None h b = absurd (let k : limit < limit = (b.keep limit h).most in omega (arith, k))
bad_many xs (Some l) h b = refl

module _ (xs : List SheetLine) (z : Sheet) (fl : List ℕ) (L : LaidOut xs z fl) where
  -- lines without a row
  pub no_row : (ys : List SheetLine) (z' : Sheet) → sheet_rows ys ≡ [] → WrongAt (xs ++ ys) z'.wrong → z'.rows ≡ z.rows → z'.bad ≡ z.bad → z'.low ≡ z.low → LaidOut (xs ++ ys) z' fl
  no_row ys z' n w r b o =
      let e : sheet_rows (xs ++ ys) ≡ sheet_rows xs = rows_behind xs ys ∙ ap (λ (rs : List SheetRow). sheet_rows xs ++ rs) n ∙ append-nil (sheet_rows xs) in
      let f : length (sheet_rows (xs ++ ys)) ≡ length (sheet_rows xs) = ap (λ (rs : List SheetRow). length rs) e in
      record {
        wrong = w;
        laid = L.laid ∙ ap (λ (rs : List SheetRow). spread_from 0 rs blank_sheet) (sym e);
        few = λ l. r ∙ L.few (omega (arith, f, l)) ∙ sym f;
        many = λ l. r ∙ L.many (omega (arith, f, l));
        bad = subst (BadAt (xs ++ ys)) (sym b) (bad_kept xs ys z.bad (ap (λ (rs : List SheetRow). length rs) n) L.bad);
        low = λ h. o ∙ L.low (sym b ∙ h) ∙ ap (low_after 0) (sym e);
      }

  pub passed : LaidOut (xs ++ (Passed ∷ [])) z fl
  unfolding sheet_rows other_line
  passed = no_row (Passed ∷ []) z refl (other_same xs (Passed ∷ []) (λ k. refl) z.wrong L.wrong) refl refl refl

  pub other_first : (z' : Sheet) (l : ℕ) → l ≡ length xs + 1 → z.wrong ≡ None → z'.wrong ≡ Some l → z'.rows ≡ z.rows → z'.bad ≡ z.bad → z'.low ≡ z.low → LaidOut (xs ++ (Other ∷ [])) z' fl
  unfolding sheet_rows other_line
  other_first z' l e n w =
      let f : l ≡ 1 + length xs = omega (arith, e) in
      let none : other_line 1 xs ≡ 0 = subst (WrongAt xs) n L.wrong in
      let at : WrongAt (xs ++ (Other ∷ [])) (Some l) = (f ∙ other_behind 0 xs (Other ∷ []) none, omega (arith, e)) in
      no_row (Other ∷ []) z' refl (subst (WrongAt (xs ++ (Other ∷ []))) (sym w) at)

  other_stays_at : (w : Option ℕ) → IsSome w → WrongAt xs w → WrongAt (xs ++ (Other ∷ [])) w
  other_stays_at None h e = untrue h
  other_stays_at (Some l) h (e, m) = (e ∙ other_stays 1 xs (Other ∷ []) (omega (arith, e, m)), m)

  pub other_again : IsSome z.wrong → LaidOut (xs ++ (Other ∷ [])) z fl
  unfolding sheet_rows
  other_again h = no_row (Other ∷ []) z refl (other_stays_at z.wrong h L.wrong) refl refl refl

  -- a row
  module _ (p : Place) (c : ℤ) where
    abbrev ys : List SheetLine
    ys = Amount p c ∷ []

    abbrev r : SheetRow
    r = amount_row p c

    abbrev qs : List SheetRow
    qs = sheet_rows xs

    rows_are : sheet_rows (xs ++ ys) ≡ qs ++ (r ∷ [])
    unfolding sheet_rows
    rows_are = rows_behind xs ys

    rows_long : length (sheet_rows (xs ++ ys)) ≡ length qs + 1
    rows_long = ap (λ (rs : List SheetRow). length rs) rows_are ∙ length-append qs (r ∷ [])

    no_other : WrongAt (xs ++ ys) z.wrong
    unfolding other_line
    no_other = other_same xs ys (λ k. refl) z.wrong L.wrong

    pub row_uncounted : limit < z.rows → LaidOut (xs ++ ys) z fl
    row_uncounted h = ⊎_elim many (λ (l : length qs ≤ limit). absurd (omega (arith, h, l, L.few l))) (side limit (length qs))
      where
        many : limit < length qs → LaidOut (xs ++ ys) z fl
        many l = let b : IsSome z.bad = bad_many xs z.bad l L.bad in
            record {
              wrong = no_other;
              laid = L.laid ∙ sym (unlaid (spread_from 0 qs blank_sheet) (0 + length qs) r (omega (arith, l))) ∙ spread_behind 0 qs r blank_sheet ∙ ap (λ (rs : List SheetRow). spread_from 0 rs blank_sheet) (sym rows_are);
              few = λ m. absurd (omega (arith, m, l, rows_long));
              many = λ m. L.many l;
              bad = bad_known xs ys z.bad b L.bad;
              low = λ e. untrue (subst (λ (u : Option ℕ). IsSome u) e b);
            }

    module _ (room : z.rows ≤ limit) (z' : Sheet) (fl' : List ℕ) (w : z'.wrong ≡ z.wrong) (n : z'.rows ≡ z.rows + 1) (f : fl' ≡ laid fl z.rows r) where
      counted : (z.rows ≡ length qs) × (length qs ≤ limit)
      counted = ⊎_elim (λ (l : limit < length qs). absurd (omega (arith, room, L.many l))) (λ (l : length qs ≤ limit). (L.few l, l)) (side limit (length qs))

      laid_behind : fl' ≡ spread_from 0 (qs ++ (r ∷ [])) blank_sheet
      laid_behind =
          let e : z.rows ≡ 0 + length qs = omega (arith, counted.0) in
          f ∙ (λ i. laid (L.laid i) (e i) r) ∙ spread_behind 0 qs r blank_sheet

      laid_with : BadAt (xs ++ ys) z'.bad → (z'.bad ≡ None → z'.low ≡ low_after 0 (sheet_rows (xs ++ ys))) → LaidOut (xs ++ ys) z' fl'
      laid_with b o = record {
        wrong = subst (WrongAt (xs ++ ys)) (sym w) no_other;
        laid = laid_behind ∙ ap (λ (rs : List SheetRow). spread_from 0 rs blank_sheet) (sym rows_are);
        few = λ l. omega (arith, n, counted.0, rows_long);
        many = λ l. omega (arith, n, counted.0, counted.1, rows_long, l);
        bad = b;
        low = o;
      }

      -- behind one that broke a rule
      pub row_behind_bad : IsSome z.bad → z'.bad ≡ z.bad → LaidOut (xs ++ ys) z' fl'
      row_behind_bad h e = laid_with (subst (BadAt (xs ++ ys)) (sym e) (bad_known xs ys z.bad h L.bad)) (λ g. untrue (subst (λ (u : Option ℕ). IsSome u) (sym e ∙ g) h))

      -- behind rows that keep the rules
      module _ (good : z.bad ≡ None) (v : Option ℕ) (says : LowSays fl' z.rows z.low v) where
        all : AllKeep qs
        all = subst (BadAt xs) good L.bad

        low_says : LowSays (spread_from 0 (qs ++ (r ∷ [])) blank_sheet) (length qs) (low_after 0 qs) v
        low_says = subst (λ (k : ℕ). LowSays (spread_from 0 (qs ++ (r ∷ [])) blank_sheet) (length qs) k v) (L.low good)
            (subst (λ (k : ℕ). LowSays (spread_from 0 (qs ++ (r ∷ [])) blank_sheet) k z.low v) counted.0 (subst (λ (ws : List ℕ). LowSays ws z.rows z.low v) laid_behind says))

        behind : (i : ℕ) → i < length qs → RowKeeps (sheet_rows (xs ++ ys)) i
        behind i l = keeps_behind xs ys i l (all.keep i l)

        line_is : suc (length xs) ≡ get_or {A = ℕ} (row_lines 1 (xs ++ ys)) (length qs) 0
        unfolding row_lines
        line_is = let e : 1 + length xs ≡ suc (length xs) = omega arith in
            sym (ap (λ (ns : List ℕ). get_or {A = ℕ} ns (length qs) 0) (row_lines_behind 1 xs ys) ∙ get_or_at (row_lines 1 xs) (1 + length xs) [] 0 (length qs) (row_lines_long 1 xs) ∙ e)

        pub row_breaks : (l : ℕ) → l ≡ length xs + 1 → v ≡ None → z'.bad ≡ Some l → LaidOut (xs ++ ys) z' fl'
        row_breaks l e h b =
            let g : suc (length xs) ≡ l = omega (arith, e) in
            let at : BadLine (xs ++ ys) (suc (length xs)) = (
              length qs,
              record {
                there = omega (arith, rows_long);
                breaks = λ k. low_breaks qs r all v low_says h (subst (λ (rs : List SheetRow). RowKeeps rs (length qs)) rows_are k);
                before = behind;
                on = line_is;
              },
            ) in
            let bad : BadAt (xs ++ ys) (Some l) = (subst (BadLine (xs ++ ys)) g at, omega (arith, e)) in
            laid_with (subst (BadAt (xs ++ ys)) (sym b) bad) (λ o. absurd (let f : z'.bad ≡ None = o in cc))

        pub row_keeps : (m : ℕ) → v ≡ Some m → z'.bad ≡ z.bad → z'.low ≡ m → LaidOut (xs ++ ys) z' fl'
        row_keeps m h b o =
            let k = low_keeps qs r all v low_says m h in
            laid_with (subst (BadAt (xs ++ ys)) (sym (b ∙ good)) (record {
              keep = λ i l.
                  ⊎_elim (λ (m : i < length qs). behind i m) (λ (m : length qs ≤ i). let e : length qs ≡ i = omega (arith, m, l, rows_long) in subst (RowKeeps (sheet_rows (xs ++ ys))) e (subst (λ (rs : List SheetRow). RowKeeps rs (length qs)) (sym rows_are) k.0)) (side i (length qs));
            }))
            (λ _. o ∙ k.1 ∙ sym (low_behind 0 qs r) ∙ ap (low_after 0) (sym rows_are))
