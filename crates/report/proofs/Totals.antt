-- The sums over the numbers, lowered, are those over the rows and the listing. Assumes nothing.
use Prim.Native.Nat.{ℕ, zero, suc, ◌+◌, ◌*◌, ◌<◌, ◌≤◌}
use mathlib.Core.Path.{◌≡◌, refl, sym, ap, ◌∙◌}
use mathlib.Core.Bool.{Bool, true, false, cond}
use mathlib.Core.List.{List, [], ◌∷◌, map}
use native.Mathlib.Nat.{le_of_suc-le-suc, not-suc-le-zero}
use native.Mathlib.Omega.{arith}
use lib.Dec.{leb, eqb}
use lib.IntN.{ℤ, pos, ◌+ℤ◌, +ℤ_assoc, +ℤ_idl, +ℤ_idr, +ℤ-neg_ℤ_cancel, ◌-ℤ◌}
use lib.ListN.{length, get_or}
use Rattle.partition.specs.Partition.{Row}
use Rattle.report.specs.declared.SheetRow.{SheetRow}
use Rattle.report.specs.Report.{place_in, sheet_row, RowPlace, times_named, amount_of, total_of, hidden_of, hidden_cents, doubled_of}
use Rattle.report.specs.Numbers.{rank, raise_cents, rank_on, index_of, mark_at, tallied, RisingNumbers, unmarked, unmarked_sum, remarked, Lowered}
use Rattle.report.proofs.Ranks.{lt_yes, le_yes, ne_false}
use Rattle.report.proofs.Marks.{AllFound, bumped, times}
use Rattle.report.proofs.Names.{names_is, index_names}
use Rattle.report.proofs.Raises.{raise_is, swap}
use Rattle.report.proofs.Sheets.{ranks, raised}

-- a sum of k amounts is lowered to one number
pub lowered_one : (s k : ℕ) (x y : ℤ) → Lowered s k x → Lowered s k y → x ≡ y
lowered_one s k x y e f = sym (+ℤ-neg_ℤ_cancel x (pos (k * 1000000000000))) ∙ ap (λ (z : ℤ). z -ℤ pos (k * 1000000000000)) (sym e ∙ f) ∙ +ℤ-neg_ℤ_cancel y (pos (k * 1000000000000))

abbrev pub InPlace : List SheetRow → Type 0
InPlace [] = Unit {0}
InPlace (x ∷ xs) = (RowPlace (place_in x) × (raise_cents x.cents ≤ 2000000000000)) × InPlace xs

-- the amount at a code's place
amount_when : (t : Bool) (x : SheetRow) (ls : List ℕ) (k m : ℕ) (y : ℤ) → raise_cents x.cents ≤ 2000000000000 → (k < m → pos (get_or {A = ℕ} ls k 0) ≡ y +ℤ pos 1000000000000)
    → cond t 0 (suc k) < suc m → pos (get_or {A = ℕ} (raise_cents x.cents ∷ ls) (cond t 0 (suc k)) 0) ≡ cond t x.cents y +ℤ pos 1000000000000
amount_when true x ls k m y a f l = raise_is x.cents a
amount_when false x ls k m y a f l = f (le_of_suc-le-suc l)

pub amount_is : (xs : List SheetRow) → InPlace xs → (r : Row) → index_of (rank_on r) (ranks xs) < length (ranks xs) → pos (get_or {A = ℕ} (raised xs) (index_of (rank_on r) (ranks xs)) 0) ≡ amount_of xs r +ℤ pos 1000000000000
unfolding amount_of
amount_is [] h r l = absurd (not-suc-le-zero l)
amount_is (x ∷ xs) h r l =
    amount_when (eqb (rank (place_in x)) (rank_on r)) x (raised xs) (index_of (rank_on r) (ranks xs)) (length (ranks xs)) (amount_of xs r) h.0.1 (amount_is xs h.1 r) l
    ∙ ap (λ (t : Bool). cond t x.cents (amount_of xs r) +ℤ pos 1000000000000) (sym (names_is r x h.0.0))

module _ (xs : List SheetRow) (h : InPlace xs) where
  -- the total
  pub total_is : (rs : List Row) (k s : ℕ) (cs : List ℕ) → AllFound (ranks xs) (map rank_on rs)
      → pos (tallied (ranks xs) (raised xs) (map rank_on rs) k s cs).1.0 ≡ pos s +ℤ (total_of xs rs +ℤ pos (length rs * 1000000000000))
  unfolding total_of
  total_is [] k s cs f = sym (+ℤ_idr (pos s))
  total_is (r ∷ rs) k s cs f =
      let i = index_of (rank_on r) (ranks xs) in
      let v : ℕ = get_or {A = ℕ} (raised xs) (index_of (rank_on r) (ranks xs)) 0 in
      let e : 1000000000000 + length rs * 1000000000000 ≡ suc (length rs) * 1000000000000 = omega arith in
      ap (λ (t : Bool). pos (cond t (tallied (ranks xs) (raised xs) (map rank_on rs) (k + 1) (s + v) (mark_at cs i)) (k, (s, cs))).1.0) (lt_yes i (length (ranks xs)) f.0)
      ∙ total_is rs (k + 1) (s + v) (mark_at cs i) f.1
      ∙ ap (λ (z : ℤ). (pos s +ℤ z) +ℤ (total_of xs rs +ℤ pos (length rs * 1000000000000))) (amount_is xs h r f.0)
      ∙ +ℤ_assoc (pos s) (amount_of xs r +ℤ pos 1000000000000) (total_of xs rs +ℤ pos (length rs * 1000000000000))
      ∙ ap (λ (z : ℤ). pos s +ℤ z) (swap (amount_of xs r) (pos 1000000000000) (total_of xs rs) (pos (length rs * 1000000000000)) ∙ ap (λ (m : ℕ). (amount_of xs r +ℤ total_of xs rs) +ℤ pos m) e)

-- a mark is the number of codes, up to two
pub full : (m : ℕ) → bumped 2 m ≡ 2
full zero = refl
full (suc m) = full m

zero_mark : (m : ℕ) → eqb (bumped 0 m) 0 ≡ eqb m 0
zero_mark zero = refl
zero_mark (suc zero) = refl
zero_mark (suc (suc m)) = ap (λ (c : ℕ). eqb c 0) (full m) ∙ sym (ne_false (suc (suc m)) 0 (λ e. omega (arith, e)))

two_mark : (m : ℕ) → leb 2 (bumped 0 m) ≡ leb 2 m
two_mark zero = refl
two_mark (suc zero) = refl
two_mark (suc (suc m)) = ap (λ (c : ℕ). leb 2 c) (full m) ∙ sym (le_yes 2 (suc (suc m)) (omega arith))

cond_suc : (t : Bool) (m : ℕ) → cond t (suc m) m ≡ cond t 1 0 + m
cond_suc true m = omega arith
cond_suc false m = omega arith

module _ (xs : List SheetRow) (places : (i : ℕ) → i < length xs → RowPlace (place_in (sheet_row xs i))) (r : RisingNumbers (ranks xs)) where
  pub times_is : (rs : List Row) (j : ℕ) → j < length xs → times j (ranks xs) (map rank_on rs) ≡ times_named rs (sheet_row xs j)
  unfolding times_named
  times_is [] j l = refl
  times_is (q ∷ rs) j l =
      let m : ℕ = times j (ranks xs) (map rank_on rs) in
      cond_suc (eqb (index_of (rank_on q) (ranks xs)) j) m
      ∙ (λ i. cond (index_names xs places r q j l i) 1 0 + times_is rs j l i)

-- the sums over such marks
module _ (rs : List Row) where
  abbrev pub mark_of : SheetRow → ℕ
  mark_of x = bumped 0 (times_named rs x)

  pub hidden_is : (xs : List SheetRow) → unmarked (map mark_of xs) ≡ hidden_of rs xs
  unfolding hidden_of
  hidden_is [] = refl
  hidden_is (x ∷ xs) = λ i. cond (zero_mark (times_named rs x) i) 1 0 + hidden_is xs i

  pub doubled_is : (xs : List SheetRow) → remarked (map mark_of xs) ≡ doubled_of rs xs
  unfolding doubled_of
  doubled_is [] = refl
  doubled_is (x ∷ xs) = λ i. cond (two_mark (times_named rs x) i) 1 0 + doubled_is xs i

  cents_when : (t : Bool) (x : SheetRow) (u n : ℕ) (z : ℤ) → raise_cents x.cents ≤ 2000000000000 → pos u ≡ z +ℤ pos (n * 1000000000000)
      → pos (cond t (raise_cents x.cents) 0 + u) ≡ (cond t x.cents (pos 0) +ℤ z) +ℤ pos ((cond t 1 0 + n) * 1000000000000)
  cents_when true x u n z a e =
      let f : 1000000000000 + n * 1000000000000 ≡ (1 + n) * 1000000000000 = omega arith in
      (λ i. raise_is x.cents a i +ℤ e i) ∙ swap x.cents (pos 1000000000000) z (pos (n * 1000000000000)) ∙ ap (λ (m : ℕ). (x.cents +ℤ z) +ℤ pos m) f
  cents_when false x u n z a e =
      let f : 0 + u ≡ u = omega arith in
      let g : n * 1000000000000 ≡ (0 + n) * 1000000000000 = omega arith in
      ap pos f ∙ e ∙ (λ i. sym (+ℤ_idl z) i +ℤ pos (g i))

  pub cents_is : (xs : List SheetRow) → InPlace xs → Lowered (unmarked_sum (raised xs) (map mark_of xs)) (unmarked (map mark_of xs)) (hidden_cents rs xs)
  unfolding hidden_cents
  cents_is [] h = refl
  cents_is (x ∷ xs) h =
      cents_when (eqb (mark_of x) 0) x (unmarked_sum (raised xs) (map mark_of xs)) (unmarked (map mark_of xs)) (hidden_cents rs xs) h.0.1 (cents_is xs h.1)
      ∙ ap (λ (t : Bool). (cond t x.cents (pos 0) +ℤ hidden_cents rs xs) +ℤ pos ((cond (eqb (mark_of x) 0) 1 0 + unmarked (map mark_of xs)) * 1000000000000)) (zero_mark (times_named rs x))
