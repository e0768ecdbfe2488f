-- What the report's table is worth: it settles the answer, and its sums are what the signing desk reads in them. Assumes nothing.
use Prim.Native.Nat.{ℕ, suc, ◌+◌, ◌<◌}
use mathlib.Core.Path.{◌≡◌, refl, sym, ap, subst, ◌∙◌}
use mathlib.Core.Bool.{Bool, true, false, cond}
use mathlib.Core.List.{List, [], ◌∷◌}
use mathlib.Core.Logic.{inl, inr, ⊎_elim}
use native.Mathlib.Omega.{arith}
use lib.Dec.{eqb, eqb→eq}
use lib.IntN.{ℤ, pos, ◌+ℤ◌, ◌*ℤ◌, +ℤ_assoc, +ℤ_comm, +ℤ_idl, +ℤ_idr, *ℤ_comm, *ℤ-zero, suc_ℤ-*ℤ}
use lib.ListN.{length, get_or, get_elem?}
use Rattle.ground.specs.Ladder.{Answers, rung, answer}
use Rattle.ground.proofs.Ladders.{one}
use Rattle.ground.proofs.Sides.{side}
use Rattle.page.specs.declared.Place.{Place}
use Rattle.page.specs.Places.{place_from}
use Rattle.partition.specs.declared.Shape.{Shape}
use Rattle.partition.specs.Partition.{Row, Reordered, empty, front, swap, chain}
use Rattle.partition.specs.Listing.{listing}
use Rattle.partition.proofs.Listed.{listing_reordered}
use Rattle.partition.proofs.Sorted.{listing_same}
use Rattle.store.specs.Accepted.{Accepted}
use Rattle.store.specs.Demands.{Sized, Hash}
use Rattle.store.specs.Pages.{rows_held}
use Rattle.store.proofs.Accepted.Rules.{broken_one, accepted_whole}
use Rattle.store.proofs.Demands.Settled.{same, some_one}
use Rattle.store.proofs.Showing.Showing.{accepted_shows}
use Rattle.report.specs.declared.SheetRow.{SheetRow}
use Rattle.report.specs.Report.{place_in, GoodSheet, names, times_named, amount_of, total_of, hidden_cents, sheet_cents, named_cents, row_by_row, report_of, FirstMissing, Reported, missing, summed, report_table}
use Rattle.report.specs.Numbers.{rank, rank_on, RisingNumbers}
use Rattle.report.proofs.Ranks.{holds, ne_false}
use Rattle.report.proofs.Raises as R
use Rattle.report.proofs.Names.{names_is}
use Rattle.report.proofs.Sheets.{ranks, good_sound}
use Rattle.report.proofs.Totals.{InPlace}
use Rattle.report.proofs.Refines.{placed}

-- ---- the table settles the answer

missing_one : (xs : List SheetRow) (rs : List Row) (p q : Place) → FirstMissing xs rs p → FirstMissing xs rs q → p ≡ q
missing_one xs rs p q a b = ⊎_elim (λ l. absurd (a.absent (b.before a.n p l a.listed))) (λ l. ⊎_elim (λ m. absurd (b.absent (a.before b.n q m b.listed))) (λ m. equal (omega (arith, l, m))) (side b.n a.n)) (side a.n b.n)
  where
    equal : a.n ≡ b.n → p ≡ q
    equal e = a.listed.is ∙ ap (λ (r : Row). place_from r.place) (some_one a.listed.row b.listed.row a.listed.there (ap (get_elem? rs) e ∙ b.listed.there)) ∙ sym b.listed.is

module _ (S : Shape) (h : List ℕ → ℕ) where
  -- ONE ANSWER FOR EVERY STORE AND SHEET
  pub report_settled : (s : List ℕ) (xs : List SheetRow) (a b : Reported) → Answers (report_table S h s xs) a → Answers (report_table S h s xs) b → a ≡ b
  unfolding report_table
  report_settled s xs = one (report_table S h s xs)
      ((λ _ _ _ _. refl), (λ _ _. same), ((λ _ _ _ _. refl), (λ _ _. same), (λ _. (broken_one S h s, (λ _ _. same), (λ _. (missing_one xs (listing S h (rows_held S s)), (λ _ _. same), same))))))

  -- TWO STORES WITH THE SAME ROWS GIVE THE SAME REPORT, whatever their pages
  pub same_report : Sized S → Hash h → (s t : List ℕ) (xs : List SheetRow) → Accepted S h s → Accepted S h t → Reordered (rows_held S s) (rows_held S t)
      → (a b : Reported) → Answers (report_table S h s xs) a → Answers (report_table S h t xs) b → a ≡ b
  unfolding report_table
  same_report z small s t xs acc acc' r a b p q = report_settled t xs a b (moved p) q
    where
      e : listing S h (rows_held S s) ≡ listing S h (rows_held S t)
      e = listing_same S h (rows_held S s) (rows_held S t) r (accepted_shows S h z small s acc).once

      moved : Answers (report_table S h s xs) a → Answers (report_table S h t xs) a
      moved (inl x) = absurd (x.1.0 acc.long)
      moved (inr (n1, inl x)) = inr ((λ _ n. n acc'.long), inl x)
      moved (inr (n1, inr (n10, (g, inl x)))) = absurd (accepted_whole S h s acc x.0 x.1.0)
      moved (inr (n1, inr (n10, (g, inr (n2, (_, x)))))) = inr ((λ _ n. n acc'.long), inr (n10, (g, inr (accepted_whole S h t acc', (acc', subst (λ (rs : List Row). Answers (rung (FirstMissing xs rs) (λ p. answer (missing p)) (answer (summed (report_of xs rs)))) a) e x)))))

-- ---- each row that a store holds is counted once

names_same : {rs qs : List Row} → Reordered rs qs → (x : SheetRow) → times_named rs x ≡ times_named qs x
unfolding times_named
names_same empty x = refl
names_same (front r p) x = ap (λ (n : ℕ). cond (names r x) 1 0 + n) (names_same p x)
names_same (swap {rs} {qs} r q p) x = let e : times_named rs x ≡ times_named qs x = names_same p x in omega (arith, e)
names_same (chain p q) x = names_same p x ∙ names_same q x

total_same : (xs : List SheetRow) {rs qs : List Row} → Reordered rs qs → total_of xs rs ≡ total_of xs qs
unfolding total_of
total_same xs empty = refl
total_same xs (front r p) = ap (λ (z : ℤ). amount_of xs r +ℤ z) (total_same xs p)
total_same xs (swap {rs} {qs} r q p) =
    sym (+ℤ_assoc (amount_of xs r) (amount_of xs q) (total_of xs rs)) ∙ (λ i. +ℤ_comm (amount_of xs r) (amount_of xs q) i +ℤ total_same xs p i) ∙ +ℤ_assoc (amount_of xs q) (amount_of xs r) (total_of xs qs)
total_same xs (chain p q) = total_same xs p ∙ total_same xs q

-- THE SUMS OVER THE LISTING ARE THOSE OVER THE ROWS HELD, EACH ONCE: no page counts twice, however many entries name it
module _ (S : Shape) (h : List ℕ → ℕ) (z : Sized S) (small : Hash h) (s : List ℕ) (acc : Accepted S h s) where
  all_rows : Reordered (rows_held S s) (listing S h (rows_held S s))
  all_rows = listing_reordered S h (rows_held S s) (accepted_shows S h z small s acc).fine small

  pub total_once : (xs : List SheetRow) → total_of xs (listing S h (rows_held S s)) ≡ total_of xs (rows_held S s)
  total_once xs = sym (total_same xs all_rows)

  pub named_once : (x : SheetRow) → times_named (listing S h (rows_held S s)) x ≡ times_named (rows_held S s) x
  named_once x = sym (names_same all_rows x)

-- ---- what no code names and what some code names is the sheet

apart : (t : Bool) (c a b s : ℤ) → a +ℤ b ≡ s → (cond t c (pos 0) +ℤ a) +ℤ (cond t (pos 0) c +ℤ b) ≡ c +ℤ s
apart t c a b s e = R.swap (cond t c (pos 0)) a (cond t (pos 0) c) b ∙ (λ i. half t i +ℤ e i)
  where
    half : (t : Bool) → cond t c (pos 0) +ℤ cond t (pos 0) c ≡ c
    half true = +ℤ_idr c
    half false = +ℤ_idl c

-- THE HIDDEN SUM AND THE SUM OF ROWS NAMED AT LEAST ONCE ARE THE SHEET'S SUM
pub hidden_and_named : (rs : List Row) (xs : List SheetRow) → hidden_cents rs xs +ℤ named_cents rs xs ≡ sheet_cents xs
unfolding hidden_cents named_cents sheet_cents
hidden_and_named rs [] = refl
hidden_and_named rs (x ∷ xs) = apart (eqb (times_named rs x) 0) x.cents (hidden_cents rs xs) (named_cents rs xs) (sheet_cents xs) (hidden_and_named rs xs)

-- ---- the total, row by row of the sheet

one_more : (c : ℤ) (m : ℕ) → c *ℤ pos (suc m) ≡ c +ℤ (c *ℤ pos m)
one_more c m = *ℤ_comm c (pos (suc m)) ∙ suc_ℤ-*ℤ (pos m) c ∙ ap (λ (z : ℤ). z +ℤ c) (*ℤ_comm (pos m) c) ∙ +ℤ_comm (c *ℤ pos m) c

-- no row of the sheet is the code's
abbrev Unnamed : Row → List SheetRow → Type 0
Unnamed r [] = Unit {0}
Unnamed r (x ∷ xs) = (names r x ≡ false) × Unnamed r xs

unnamed_rows : (r : Row) (rs : List Row) (xs : List SheetRow) → Unnamed r xs → row_by_row (r ∷ rs) xs ≡ row_by_row rs xs
unfolding row_by_row
unnamed_rows r rs [] u = refl
unnamed_rows r rs (x ∷ xs) u =
    let e : 0 + times_named rs x ≡ times_named rs x = omega arith in
    λ i. (x.cents *ℤ pos ((ap (λ (t : Bool). cond t 1 0 + times_named rs x) u.0 ∙ e) i)) +ℤ unnamed_rows r rs xs u.1 i

-- a sheet whose ranks rise names a place once
rising_tail : (p : ℕ) (ps : List ℕ) → RisingNumbers (p ∷ ps) → RisingNumbers ps
rising_tail p ps r = record { rises = λ i j l m. r.rises (suc i) (suc j) (omega (arith, l)) (omega (arith, m)) }

above : (r : Row) (p : ℕ) (xs : List SheetRow) → InPlace xs → rank_on r ≡ p → ((i : ℕ) → i < length (ranks xs) → p < get_or {A = ℕ} (ranks xs) i 0) → Unnamed r xs
above r p [] h e b = tt
above r p (x ∷ xs) h e b =
    let l : p < rank (place_in x) = b 0 (omega arith) in
    (names_is r x h.0.0 ∙ ne_false (rank (place_in x)) (rank_on r) (λ f. omega (arith, f, e, l)), above r p xs h.1 e (λ i k. b (suc i) (omega (arith, k))))

row_when : (t : Bool) (r : Row) (rs : List Row) (x : SheetRow) (xs : List SheetRow) → (t ≡ true → Unnamed r xs) → row_by_row (r ∷ rs) xs ≡ amount_of xs r +ℤ row_by_row rs xs
    → (x.cents *ℤ pos (cond t 1 0 + times_named rs x)) +ℤ row_by_row (r ∷ rs) xs ≡ cond t x.cents (amount_of xs r) +ℤ ((x.cents *ℤ pos (times_named rs x)) +ℤ row_by_row rs xs)
row_when true r rs x xs u ih =
    let e : 1 + times_named rs x ≡ suc (times_named rs x) = omega arith in
    (λ i. (ap (λ (n : ℕ). x.cents *ℤ pos n) e ∙ one_more x.cents (times_named rs x)) i +ℤ unnamed_rows r rs xs (u refl) i) ∙ +ℤ_assoc x.cents (x.cents *ℤ pos (times_named rs x)) (row_by_row rs xs)
row_when false r rs x xs u ih =
    let e : 0 + times_named rs x ≡ times_named rs x = omega arith in
    let c : ℤ = x.cents *ℤ pos (times_named rs x) in
    (λ i. (x.cents *ℤ pos (e i)) +ℤ ih i) ∙ sym (+ℤ_assoc c (amount_of xs r) (row_by_row rs xs)) ∙ ap (λ (z : ℤ). z +ℤ row_by_row rs xs) (+ℤ_comm c (amount_of xs r)) ∙ +ℤ_assoc (amount_of xs r) c (row_by_row rs xs)

row_more : (r : Row) (rs : List Row) (xs : List SheetRow) → InPlace xs → RisingNumbers (ranks xs) → row_by_row (r ∷ rs) xs ≡ amount_of xs r +ℤ row_by_row rs xs
unfolding row_by_row amount_of
row_more r rs [] h u = refl
row_more r rs (x ∷ xs) h u =
    row_when (names r x) r rs x xs
    (λ e. above r (rank (place_in x)) xs h.1 (sym (eqb→eq (rank (place_in x)) (rank_on r) (holds (sym (names_is r x h.0.0) ∙ e)))) (λ i l. u.rises 0 (suc i) (omega arith) (omega (arith, l))))
    (row_more r rs xs h.1 (rising_tail (rank (place_in x)) (ranks xs) u))

no_codes : (xs : List SheetRow) → row_by_row [] xs ≡ pos 0
unfolding row_by_row
no_codes [] = refl
no_codes (x ∷ xs) = (λ i. none i +ℤ no_codes xs i)
  where
    none : x.cents *ℤ pos 0 ≡ pos 0
    none = *ℤ-zero x.cents

-- THE TOTAL IS EACH SHEET ROW'S CENTS TIMES THE NUMBER OF CODES THAT NAME IT
pub total_by_row : (xs : List SheetRow) → GoodSheet xs → (rs : List Row) → total_of xs rs ≡ row_by_row rs xs
unfolding total_of
total_by_row xs g [] = sym (no_codes xs)
total_by_row xs g (r ∷ rs) = ap (λ (z : ℤ). amount_of xs r +ℤ z) (total_by_row xs g rs) ∙ sym (row_more r rs xs (placed xs g []) (good_sound xs g).ascending)
