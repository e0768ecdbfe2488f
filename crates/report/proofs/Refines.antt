-- What holds of the report over a sheet's numbers holds of it over the sheet. Assumes nothing.
use Prim.Native.Nat.{ℕ, suc, ◌*◌, ◌<◌, ◌≤◌}
use mathlib.Core.Path.{◌≡◌, refl, sym, ap, subst, ◌∙◌}
use mathlib.Core.List.{List, [], ◌∷◌, map}
use mathlib.Core.Logic.{inl, inr}
use native.Mathlib.Omega.{arith}
use lib.IntN.{pos, ◌+ℤ◌, +ℤ_idl}
use lib.ListN.{length, get_or, replicate, length-replicate, get_or-replicate, length-map}
use Rattle.ground.specs.Ladder.{rung, answer, Answers}
use Rattle.page.specs.declared.Place.{Place}
use Rattle.partition.specs.declared.Shape.{Shape}
use Rattle.partition.specs.Partition.{Row}
use Rattle.partition.specs.Listing.{listing}
use Rattle.store.specs.Pages.{rows_held}
use Rattle.report.specs.declared.SheetRow.{SheetRow}
use Rattle.report.specs.declared.Sums.{Sums}
use Rattle.report.specs.Report.{place_in, limit, sheet_row, RowPlace, GoodSheet, total_of, hidden_of, hidden_cents, doubled_of, report_of, PlaceAt, FirstMissing, Reported, other, missing, summed, report_table}
use Rattle.report.specs.Numbers.{outside, rank, raise_cents, rank_on, ranks_of, raised_of, spread_from, Sound, index_of, tallied, unmarked, unmarked_sum, remarked, Lowered, SumsOf, ToldBy, numbers_table}
use Rattle.report.proofs.Runs.{listed_below, listed_rank}
use Rattle.report.proofs.Laid.{map_at, ranks_are, raised_are}
use Rattle.report.proofs.Raises.{amount_in}
use Rattle.report.proofs.Sheets.{ranks, raised, good_sound, sound_good}
use Rattle.report.proofs.Names.{in_sheet, sheet_in}
use Rattle.report.proofs.Marks.{AllFound, bumped, marks_are}
use Rattle.report.proofs.Found.{before, stopped, all_found, marks_long}
use Rattle.report.proofs.Totals.{InPlace, lowered_one, total_is, times_is, mark_of, hidden_is, doubled_is, cents_is}

in_place : (xs : List SheetRow) → ((i : ℕ) → i < length xs → RowPlace (place_in (sheet_row xs i))) → ((i : ℕ) → i < length xs → raise_cents (sheet_row xs i).cents ≤ 2000000000000) → InPlace xs
in_place [] p a = tt
in_place (x ∷ xs) p a = ((p 0 (omega arith), a 0 (omega arith)), in_place xs (λ i l. p (suc i) (omega (arith, l))) (λ i l. a (suc i) (omega (arith, l))))

same_list : (cs ds : List ℕ) → length cs ≡ length ds → ((i : ℕ) → i < length ds → get_or {A = ℕ} cs i 0 ≡ get_or {A = ℕ} ds i 0) → cs ≡ ds
same_list [] [] e h = refl
same_list [] (d ∷ ds) e h = let f : 0 ≡ suc (length ds) = e in absurd (omega (arith, f))
same_list (c ∷ cs) [] e h = let f : suc (length cs) ≡ 0 = e in absurd (omega (arith, f))
same_list (c ∷ cs) (d ∷ ds) e h =
    let f : suc (length cs) ≡ suc (length ds) = e in
    λ i. h 0 (omega arith) i ∷ same_list cs ds (omega (arith, f)) (λ j l. h (suc j) (omega (arith, l))) i

module _ (xs : List SheetRow) (g : GoodSheet xs) (rs : List Row) where
  abbrev ps : List ℕ
  ps = ranks xs

  abbrev ls : List ℕ
  ls = raised xs

  abbrev ws : List ℕ
  ws = map rank_on rs

  abbrev cs : List ℕ
  cs = replicate (length xs) 0

  abbrev ends : ℕ × (ℕ × List ℕ)
  ends = tallied ps ls ws 0 0 cs

  sound : Sound ps ls
  sound = good_sound xs g

  pub placed : InPlace xs
  placed = in_place xs g.places (λ i l. amount_in (sheet_row xs i).cents (g.amounts i l).0 (g.amounts i l).1)

  ws_long : length ws ≡ length rs
  ws_long = length-map rs rank_on

  -- the number of a listed place
  number : (n : ℕ) (p : Place) → PlaceAt rs n p → get_or {A = ℕ} ws n 0 ≡ rank p
  number n p w = listed_rank rs n w.row w.there ∙ ap rank (sym w.is)

  below : (n : ℕ) (p : Place) → PlaceAt rs n p → n < length ws
  below n p w = let l : n < length rs = listed_below rs n w.row w.there in omega (arith, l, ws_long)

  gone : (m : ℕ) (q : Place) → m < ends.0 → PlaceAt rs m q → index_of (rank q) ps < length ps
  gone m q l w = subst (λ (v : ℕ). index_of v ps < length ps) (number m q w) (before ps ls ws 0 0 cs m (omega (arith, l)) (below m q w))

  first_missing : (p : Place) → PlaceAt rs ends.0 p → FirstMissing xs rs p
  first_missing p w = record {
    n = ends.0;
    listed = w;
    absent = λ i. stopped ps ls ws 0 0 cs ends.0 (omega arith) (below ends.0 p w) (subst (λ (v : ℕ). index_of v ps < length ps) (sym (number ends.0 p w)) (sheet_in xs g.places sound.ascending p i));
    before = λ m q l v. in_sheet xs g.places sound.ascending q (gone m q l v);
  }

  -- a whole tally
  module _ (x : Sums) (t : SumsOf ps ls rs cs x) where
    stop : length rs ≡ ends.0
    stop = ap (λ (r : ℕ × (ℕ × List ℕ)). r.0) t.all

    sum_at : t.sum ≡ ends.1.0
    sum_at = ap (λ (r : ℕ × (ℕ × List ℕ)). r.1.0) t.all

    marks_at : t.marks ≡ ends.1.1
    marks_at = ap (λ (r : ℕ × (ℕ × List ℕ)). r.1.1) t.all

    found : AllFound ps ws
    found = all_found ps ls ws (λ m l. before ps ls ws 0 0 cs m (omega (arith, l, ws_long, stop)) l)

    none_missing : (p : Place) → FirstMissing xs rs p → ⊥
    none_missing p f =
        let l : f.n < length ws = below f.n p f.listed in
        f.absent (in_sheet xs g.places sound.ascending p (gone f.n p (omega (arith, l, ws_long, stop)) f.listed))

    total_same : x.total ≡ total_of xs rs
    total_same = lowered_one t.sum (length rs) x.total (total_of xs rs) t.total
        (ap pos sum_at ∙ total_is xs placed rs 0 0 cs found ∙ +ℤ_idl (total_of xs rs +ℤ pos (length rs * 1000000000000)))

    pub mark_at : (j : ℕ) → j < length xs → get_or {A = ℕ} t.marks j 0 ≡ mark_of rs (sheet_row xs j)
    mark_at j l =
        let e : length cs ≡ length ps = length-replicate {A = ℕ} (length xs) 0 ∙ sym (length-map xs (λ (x : SheetRow). rank (place_in x))) in
        ap (λ (ms : List ℕ). get_or {A = ℕ} ms j 0) marks_at ∙ marks_are ps ls ws 0 0 cs j found e
        ∙ (λ i. bumped (get_or-replicate {A = ℕ} (length xs) j 0 0 l i) (times_is xs g.places sound.ascending rs j l i))

    marks_same : t.marks ≡ map (mark_of rs) xs
    marks_same =
        let m : length (map (mark_of rs) xs) ≡ length xs = length-map xs (mark_of rs) in
        same_list t.marks (map (mark_of rs) xs) (ap (λ (ms : List ℕ). length ms) marks_at ∙ marks_long ps ls ws 0 0 cs ∙ length-replicate {A = ℕ} (length xs) 0 ∙ sym m)
        (λ j l. let k : j < length xs = omega (arith, l, m) in mark_at j k ∙ sym (map_at (mark_of rs) xs j k))

    hidden_same : x.hidden ≡ hidden_of rs xs
    hidden_same = t.hidden ∙ ap unmarked marks_same ∙ hidden_is rs xs

    cents_same : x.cents ≡ hidden_cents rs xs
    cents_same = lowered_one (unmarked_sum ls (map (mark_of rs) xs)) (unmarked (map (mark_of rs) xs)) x.cents (hidden_cents rs xs)
        (subst (λ (ms : List ℕ). Lowered (unmarked_sum ls ms) (unmarked ms) x.cents) marks_same t.cents) (cents_is rs xs placed)

    doubled_same : x.doubled ≡ doubled_of rs xs
    doubled_same = t.doubled ∙ ap remarked marks_same ∙ doubled_is rs xs

    sums_same : x ≡ report_of xs rs
    sums_same = λ i. record { total = total_same i; hidden = hidden_same i; cents = cents_same i; doubled = doubled_same i }

  told_is : (r : Reported) → ToldBy ps ls rs cs r → Answers (rung (FirstMissing xs rs) (λ p. answer (missing p)) (answer (summed (report_of xs rs)))) r
  told_is (other o) t = absurd t
  told_is (missing p) t = inl (p, (first_missing p t, refl))
  told_is (summed x) t = inr (none_missing x t, ap summed (sums_same x t))

module _ (S : Shape) (h : List ℕ → ℕ) (s : List ℕ) (xs : List SheetRow) where
  abbrev fl : List ℕ
  fl = spread_from 0 xs (replicate (2 * limit) outside)

  abbrev n : ℕ
  n = length xs

  to_good : (n ≤ limit) × Sound (ranks_of fl n) (raised_of fl n) → GoodSheet xs
  to_good w = sound_good xs w.0 (subst (λ (q : List ℕ). Sound q (raised xs)) (ranks_are xs w.0) (subst (λ (q : List ℕ). Sound (ranks_of fl n) q) (raised_are xs w.0) w.1))

  of_good : GoodSheet xs → (n ≤ limit) × Sound (ranks_of fl n) (raised_of fl n)
  of_good g = (g.most, subst (λ (q : List ℕ). Sound q (raised_of fl n)) (sym (ranks_are xs g.most)) (subst (λ (q : List ℕ). Sound (ranks xs) q) (sym (raised_are xs g.most)) (good_sound xs g)))

  over_rows : (r : Reported) → n ≤ limit → ToldBy (ranks_of fl n) (raised_of fl n) (listing S h (rows_held S s)) (replicate n 0) r → ToldBy (ranks xs) (raised xs) (listing S h (rows_held S s)) (replicate n 0) r
  over_rows r l t = subst (λ (q : List ℕ). ToldBy q (raised xs) (listing S h (rows_held S s)) (replicate n 0) r) (ranks_are xs l) (subst (λ (q : List ℕ). ToldBy (ranks_of fl n) q (listing S h (rows_held S s)) (replicate n 0) r) (raised_are xs l) t)

  pub refines : (r : Reported) → Answers (numbers_table S h s fl n) r → Answers (report_table S h s xs) r
  unfolding numbers_table report_table
  refines r (inl a) = inl a
  refines r (inr (n1, inl (u, (bad, e)))) = inr (n1, inl (u, ((λ g. bad (of_good g)), e)))
  refines r (inr (n1, inr (n10, (good, inl a)))) = inr (n1, inr ((λ u no. no (to_good good)), (to_good good, inl a)))
  refines r (inr (n1, inr (n10, (good, inr (n2, (acc, t)))))) =
      inr (n1, inr ((λ u no. no (to_good good)), (to_good good, inr (n2, (acc, told_is xs (to_good good) (listing S h (rows_held S s)) r (over_rows r good.0 t))))))
