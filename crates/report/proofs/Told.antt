-- What a report tells of a row is so: no code names it, or more than one does, and its place and cents are the sheet's. Assumes nothing.
use Prim.Native.Nat.{ℕ, zero, suc, ◌+◌, ◌*◌, ◌/◌, ◌%◌, ◌<◌, ◌≤◌}
use mathlib.Core.Path.{◌≡◌, refl, sym, ap, subst, ◌∙◌}
use mathlib.Core.List.{List}
use mathlib.Core.Logic.{inl, inr}
use native.Mathlib.Omega.{arith}
use lib.IntN.{ℤ, pos}
use lib.ListN.{length, get_or, drop, replicate, length-replicate}
use lib.Seq.{get_or-take, get_or-drop}
use Rattle.ground.specs.Ladder.{Answers}
use Rattle.page.specs.declared.Place.{Place}
use Rattle.partition.specs.declared.Shape.{Shape}
use Rattle.partition.specs.Partition.{Row}
use Rattle.store.specs.Accepted.{Accepted}
use Rattle.report.specs.declared.NamedRow.{NamedRow}
use Rattle.report.specs.declared.NamedRow.TheVariants.{Hidden, Once, Doubled}
use Rattle.report.specs.declared.SheetRow.{SheetRow}
use Rattle.report.specs.declared.Sums.{Sums}
use Rattle.report.specs.Report.{place_in, limit, sheet_row, RowPlace, GoodSheet, times_named, Reported, other, missing, summed}
use Rattle.report.specs.Numbers.{rank, raise_cents, ranks_of, raised_of, spread_from, Lowered, SumsOf, numbers_table}
use Rattle.report.specs.Named.{LaidSheet, ranked_place, AmountAt, TellsMark, TellsSheetRow}
use Rattle.report.proofs.Laid.{words_are}
use Rattle.report.proofs.Marks.{bumped}
use Rattle.report.proofs.Orders.{parts}
use Rattle.report.proofs.Raises.{raise_is, amount_in}
use Rattle.report.proofs.Refines.{mark_at}
use Rattle.report.proofs.Sheets.{ranks, raised}
use Rattle.report.proofs.Tells.{ranks_length, raised_length}
use Rattle.report.proofs.Totals.{full, lowered_one}

-- ---- a store and a sheet that were summed were not refused

abbrev IsSum : Reported → Type 0
IsSum (other o) = ⊥
IsSum (missing p) = ⊥
IsSum (summed x) = Unit {0}

no_sum : {r : Reported} (x : Sums) → summed x ≡ r → IsSum r
no_sum x e = subst IsSum e tt

-- what a report that answers with the sums has found sound
pub summed_over : (S : Shape) (h : List ℕ → ℕ) (s fl : List ℕ) (n : ℕ) (x : Sums) → length fl ≡ 2 * limit → Answers (numbers_table S h s fl n) (summed x) → Accepted S h s × LaidSheet fl n
unfolding numbers_table
summed_over S h s fl n x e (inl (u, (b, q))) = absurd (no_sum x q)
summed_over S h s fl n x e (inr (n1, inl (u, (b, q)))) = absurd (no_sum x q)
summed_over S h s fl n x e (inr (n1, inr (n10, (good, inl a)))) = absurd (no_sum x a.1.1)
summed_over S h s fl n x e (inr (n1, inr (n10, (good, inr (n2, (acc, t)))))) = (
  acc,
  record {
    room = e;
    most = good.0;
    sheet = record { sound = good.1; paired = raised_length fl n e good.0 ∙ sym (ranks_length fl n e good.0); most = let l : length (ranks_of fl n) ≡ n = ranks_length fl n e good.0 in omega (arith, l, good.0) };
  },
)

-- a sound sheet's raised amounts are in range
pub amount_low : (fl : List ℕ) (n i : ℕ) → LaidSheet fl n → i < n → get_or {A = ℕ} fl (limit + i) 0 ≤ 2000000000000
amount_low fl n i w h =
    let r : length (raised_of fl n) ≡ n = raised_length fl n w.room w.most in
    let a : get_or {A = ℕ} (raised_of fl n) i 0 ≤ 2000000000000 = w.sheet.sound.amounts.le i (omega (arith, r)) in
    let b : get_or {A = ℕ} (raised_of fl n) i 0 ≡ get_or {A = ℕ} fl (limit + i) 0 = get_or-take n (drop limit fl) i 0 h ∙ get_or-drop limit fl i 0 in
    omega (arith, a, b)

-- ---- marks

none_marked : (m : ℕ) → bumped 0 m ≡ 0 → m ≡ 0
none_marked zero e = refl
none_marked (suc zero) e = absurd (let f : 1 ≡ 0 = e in omega (arith, f))
none_marked (suc (suc m)) e = absurd (let f : 2 ≡ 0 = sym (full m) ∙ e in omega (arith, f))

one_marked : (m : ℕ) → bumped 0 m ≡ 1 → m ≡ 1
one_marked zero e = absurd (let f : 0 ≡ 1 = e in omega (arith, f))
one_marked (suc zero) e = refl
one_marked (suc (suc m)) e = absurd (let f : 2 ≡ 1 = sym (full m) ∙ e in omega (arith, f))

many_marked : (m : ℕ) → 2 ≤ bumped 0 m → 2 ≤ m
many_marked zero l = absurd (let f : 2 ≤ 0 = l in omega (arith, f))
many_marked (suc zero) l = absurd (let f : 2 ≤ 1 = l in omega (arith, f))
many_marked (suc (suc m)) l = omega arith

-- ---- places and amounts

place_back : (p : Place) → RowPlace p → ranked_place (rank p) ≡ p
place_back p r =
    let q = parts p r in
    let i : q.a < 2147483648 = omega (arith, q.rank_is, q.rank_low) in
    let x : rank p / 4294967296 % 2147483648 ≡ q.a = omega (arith, q.rank_is, q.slot_low, q.volume_low, i) in
    let y : rank p / 65536 % 32768 ≡ q.b = omega (arith, q.rank_is, q.slot_low, q.volume_low) in
    let z : rank p % 32768 ≡ q.c = omega (arith, q.rank_is, q.volume_low) in
    λ k. record { page = (ap pos x ∙ sym q.page_is) k; slot = (ap pos y ∙ sym q.slot_is) k; volume = (ap pos z ∙ sym q.volume_is) k }

-- ---- a row as it is told

module _ (xs : List SheetRow) (g : GoodSheet xs) (rs : List Row) (i : ℕ) (l : i < length xs) where
  abbrev flat : List ℕ
  flat = spread_from 0 xs (replicate (2 * limit) 0)

  abbrev x : SheetRow
  x = sheet_row xs i

  numbers : (get_or {A = ℕ} flat (0 + i) 0 ≡ rank (place_in x)) × (get_or {A = ℕ} flat (limit + (0 + i)) 0 ≡ raise_cents x.cents)
  numbers = words_are xs 0 (replicate (2 * limit) 0) i (length-replicate {A = ℕ} (2 * limit) 0) (omega (arith, g.most)) l

  amount_told : (p : Place) (z : ℤ) → AmountAt flat i p z → (p ≡ place_in x) × (z ≡ x.cents)
  amount_told p z (a, b) =
      let m : 0 + i ≡ i = omega arith in
      let w : get_or {A = ℕ} flat i 0 ≡ rank (place_in x) = ap (λ (k : ℕ). get_or {A = ℕ} flat k 0) (sym m) ∙ numbers.0 in
      let v : get_or {A = ℕ} flat (limit + i) 0 ≡ raise_cents x.cents = ap (λ (k : ℕ). get_or {A = ℕ} flat (limit + k) 0) (sym m) ∙ numbers.1 in (
        a ∙ ap ranked_place w ∙ place_back (place_in x) (g.places i l),
        lowered_one (raise_cents x.cents) 1 z x.cents (subst (λ (k : ℕ). Lowered k 1 z) v b) (raise_is x.cents (amount_in x.cents (g.amounts i l).0 (g.amounts i l).1)),
      )

  -- EACH ROW THAT IS TOLD HIDDEN IS NAMED BY NO CODE, EACH DOUBLED BY MORE THAN ONE, AND EVERY OTHER BY ONE
  pub row_told : (y : Sums) (t : SumsOf (ranks xs) (raised xs) rs (replicate (length xs) 0) y) (r : NamedRow) → TellsMark flat t.marks i r → TellsSheetRow rs x r
  row_told y t (Hidden p z) (e, a) = (none_marked (times_named rs x) (sym (mark_at xs g rs y t i l) ∙ e), amount_told p z a)
  row_told y t (Doubled p z) (e, a) = (many_marked (times_named rs x) (subst (λ (k : ℕ). 2 ≤ k) (mark_at xs g rs y t i l) e), amount_told p z a)
  row_told y t Once e = one_marked (times_named rs x) (sym (mark_at xs g rs y t i l) ∙ e)
