-- Demands 2 and 3 where each store says its own page size; a history is one at the size of its store. Assumes nothing.
use mathlib.Core.Path.{◌≡◌, refl, sym, ap, subst, subst₂, ◌∙◌}
use mathlib.Core.Bool.{Bool, true, false, true≢false}
use mathlib.Core.List.{List, [], map}
use mathlib.Core.Logic.{◌⊎◌, inl, inr, ⊎_elim}
use Prim.Native.Nat.{ℕ, ◌+◌, ◌*◌, ◌≤◌, ◌<◌}
use lib.ListN.{length, replicate, length-replicate}
use Rattle.page.specs.Page.{Record}
use Rattle.page.specs.declared.Place.{Place}
use Rattle.partition.specs.declared.Shape.{Shape}
use Rattle.partition.specs.Partition.{Row, Reordered}
use Rattle.partition.specs.Sizes.{shape_for, shape_of}
use Rattle.partition.proofs.Sizes.{sized_for, sized_of}
use Rattle.store.specs.Pages.{pages, page, bucket, read, as_row, rows_held}
use Rattle.store.specs.Accepted.{Accepted}
use Rattle.store.specs.Moves.{pick}
use Rattle.store.specs.Tables.{Out, formatted, accepted, PageSize}
use Rattle.store.specs.Demands.{Hash, Call, format, check, count, lookup, remove, put, row_at, inspect, Made, ok, WholePages, rows_after, surviving, History, begin, next, Afresh}
use Rattle.store.proofs.Accepted.OwnSize.{is_size}
use Rattle.store.proofs.Demands.Choice.{put_chooses, remove_chooses}
use Rattle.store.proofs.Demands.Whole.{demand_2, demand_3}
use Rattle.any_size.specs.OwnSizes.{SizedCall, format_to, on, MadeSized, OwnSecond, surviving_sized, SizedHistory, starts, goes_on, OwnThird}
use Rattle.any_size.proofs.Rows.{said_for, said_of}
use Rattle.any_size.proofs.Calls.{differs, formats, answered, succeeds}

pick_same : (b : Bool) (rs : List Row) → pick b rs rs ≡ rs
pick_same true rs = refl
pick_same false rs = refl

module _ (h : List ℕ → ℕ) (hash : Hash h) where
  -- a call that goes by another size than the store's leaves the store and its rows
  pub own_or_left : (c : Call) (s : List ℕ) (o : Out) (t : List ℕ) → MadeSized h (on c) s o t → Made (shape_of s) h c s o t ⊎ ((t ≡ s) × ((rs : List Row) → surviving c o rs ≡ rs))
  own_or_left format s o t m = absurd (m.0 refl)
  own_or_left check s o t m = inl m.1
  own_or_left count s o t m = inl m.1
  own_or_left (lookup c) s o t m = inl m.1
  own_or_left (remove c) s o t m = inl m.1
  own_or_left (put c p k) s o t m = inl m.1
  own_or_left (row_at n out) s o t m = inl m.1
  own_or_left (inspect g n out) s o t m = inr (m.1.1, (λ rs. pick_same (ok o) rs))

  -- accepted at the size before, and so at its own
  again : (c : Call) (s : List ℕ) (o : Out) (t : List ℕ) → Accepted (shape_of s) h s → MadeSized h (on c) s o t → Accepted (shape_of s) h t × (length t ≡ length s)
  again c s o t a m = ⊎_elim
      (λ n. (demand_2 (shape_of s) h (sized_of s) hash).10 c s o t a n)
      (λ l. (subst (λ u. Accepted (shape_of s) h u) (sym l.0) a, ap length l.0))
      (own_or_left c s o t m)

  pub same_size : (c : Call) (s : List ℕ) (o : Out) (t : List ℕ) → Accepted (shape_of s) h s → MadeSized h (on c) s o t → shape_of t ≡ shape_of s
  same_size c s o t a m = said_of h s t (again c s o t a m).0

  accepted_again : (c : Call) (s : List ℕ) (o : Out) (t : List ℕ) → Accepted (shape_of s) h s → MadeSized h (on c) s o t
      → Accepted (shape_of t) h t × (shape_of t ≡ shape_of s) × (length t ≡ length s)
  accepted_again c s o t a m =
      let w = again c s o t a m in
      let q : shape_of t ≡ shape_of s = said_of h s t w.0 in
      (subst (λ S. Accepted S h t) (sym q) w.0, q, w.1)

  -- an accepted format is one at its size
  at_size : (n : ℕ) (s t : List ℕ) → MadeSized h (format_to n) s formatted t → PageSize n × Made (shape_for n) h format s formatted t
  at_size n s t m = ⊎_elim (λ w. (w.0.0, w.2)) (λ w. absurd (true≢false (ap ok w.1))) (formats n s formatted t m)

  format_accepted : (n : ℕ) (s t : List ℕ) → MadeSized h (format_to n) s formatted t
      → PageSize n × (shape_of t ≡ shape_for n) × Accepted (shape_of t) h t × (rows_held (shape_of t) t ≡ []) × (length t ≡ length s)
  format_accepted n s t m =
      let f = at_size n s t m in
      let w = (demand_2 (shape_for n) h (sized_for n) hash).11 s t f.1 in
      let q : shape_of t ≡ shape_for n = said_for h n t w.0 in
      (f.0, q, subst (λ S. Accepted S h t) (sym q) w.0, subst (λ S. rows_held S t ≡ []) (sym q) w.1, w.2)

  pub own_second : OwnSecond h
  own_second = record {
    check = λ s. (demand_2 (shape_of s) h (sized_of s) hash).0;
    lookup = λ s. (demand_2 (shape_of s) h (sized_of s) hash).1;
    put = λ s. (demand_2 (shape_of s) h (sized_of s) hash).2;
    remove = λ s. (demand_2 (shape_of s) h (sized_of s) hash).3;
    put_refused = λ s. (demand_2 (shape_of s) h (sized_of s) hash).4;
    either_as_before = λ s. (demand_2 (shape_of s) h (sized_of s) hash).12;
    listed_once = λ s. (demand_2 (shape_of s) h (sized_of s) hash).5;
    count = λ s. (demand_2 (shape_of s) h (sized_of s) hash).6;
    row = λ s. (demand_2 (shape_of s) h (sized_of s) hash).7;
    inspection = λ g. (demand_2 (shape_for (length g)) h (sized_for (length g)) hash).8;
    places = λ s. (demand_2 (shape_of s) h (sized_of s) hash).9;
    said = said_for h;
    accepted_again = accepted_again;
    format_accepted = format_accepted;
  }

  -- ---- demand 3

  begun : (n : ℕ) (s t : List ℕ) → MadeSized h (format_to n) s formatted t → History (shape_of t) h [] t
  begun n s t m = subst (λ S. History S h [] t) (sym (format_accepted n s t m).1) (begin s (at_size n s t m).1)

  -- a history is one at the size of its store
  pub own_history : (rs : List Row) (s : List ℕ) → SizedHistory h rs s → History (shape_of s) h rs s
  own_history rs t (starts n s m) = begun n s t m
  own_history _ t (goes_on {rs = rs} {s = s} (format_to n) o past m) = ⊎_elim
      (λ w. subst (λ l. History (shape_of t) h l t) (sym (ap (λ x. pick (ok x) [] rs) w.1)) (begun n s t (subst (λ x. MadeSized h (format_to n) s x t) w.1 m)))
      (λ w. subst₂ (λ l u. History (shape_of u) h l u) (sym (ap (λ x. pick (ok x) [] rs) w.1)) (sym w.2) (own_history rs s past))
      (formats n s o t m)
  own_history _ t (goes_on {rs = rs} {s = s} (on c) o past m) =
      let before = own_history rs s past in
      ⊎_elim
      (λ n. subst (λ S. History S h (surviving c o rs) t) (sym (same_size c s o t ((demand_3 (shape_of s) h (sized_of s) hash).0 rs s before).keeps m)) (next c o before n))
      (λ l. subst₂ (λ l u. History (shape_of u) h l u) (sym (l.1 rs)) (sym l.0) before)
      (own_or_left c s o t m)

  -- a format of one of the three sizes and of whole pages
  formatted_to : (n : ℕ) → PageSize n → (s : List ℕ) → WholePages (shape_for n) s
      → (t : List ℕ) × MadeSized h (format_to n) s formatted t × SizedHistory h [] t × (shape_of t ≡ shape_for n) × (length t ≡ length s)
  formatted_to n y s whole =
      let w = answered h hash (format_to n) s tt in
      let made : MadeSized h (format_to n) s formatted w.1 = subst (λ o. MadeSized h (format_to n) s o w.1) (succeeds h hash n s w.0 w.1 w.2 y whole) w.2 in
      let f = format_accepted n s w.1 made in
      (w.1, made, starts n s made, f.1, f.4)

  begins : (n : ℕ) → PageSize n → (m : ℕ) → 3 ≤ m → m ≤ (shape_for n).entries + 2 → (t : List ℕ) × SizedHistory h [] t × (shape_of t ≡ shape_for n) × (length t ≡ m * n)
  begins n y m lo hi =
      let s : List ℕ = replicate (m * n) 0 in
      let long : length s ≡ m * n = length-replicate (m * n) 0 in
      let w = formatted_to n y s (m, long ∙ ap (λ z. m * z) (is_size n y), lo, hi) in
      (w.0, w.2, w.3, w.4 ∙ long)

  anew : (rs : List Row) (s : List ℕ) → SizedHistory h rs s → (n : ℕ) → PageSize n → WholePages (shape_for n) s
      → (t : List ℕ) × MadeSized h (format_to n) s formatted t × SizedHistory h [] t × (shape_of t ≡ shape_for n) × (length t ≡ length s)
  anew rs s past n y whole = let w = formatted_to n y s whole in (w.0, w.1, goes_on (format_to n) formatted past w.1, w.3, w.4)

  refused_keeps : (c : SizedCall) (o : Out) (rs : List Row) → ok o ≡ false → surviving_sized c o rs ≡ rs
  refused_keeps (format_to n) o rs e = ap (λ b. pick b [] rs) e
  refused_keeps (on c) o rs e = ap (λ b. pick b (rows_after c rs) rs) e

  pub afresh : (rs : List Row) (s : List ℕ) → SizedHistory h rs s → Afresh (shape_of s) h rs s
  afresh rs s past = (demand_3 (shape_of s) h (sized_of s) hash).0 rs s (own_history rs s past)

  same_refusals : (rs qs : List Row) (s t : List ℕ) → SizedHistory h rs s → SizedHistory h qs t → Reordered rs qs → shape_of s ≡ shape_of t → length s ≡ length t
      → (c : List ℕ) (p : Place) (m : ℕ) (o o' : Out) (s' t' : List ℕ) → MadeSized h (on (put c p m)) s o s' → MadeSized h (on (put c p m)) t o' t' → o ≡ o'
  same_refusals rs qs s t past other r e l c p m o o' s' t' x y =
      (demand_3 (shape_of s) h (sized_of s) hash).1 rs qs s t (own_history rs s past) (subst (λ S. History S h qs t) (sym e) (own_history qs t other)) r l c p m o o' s' t'
      x.1
      (subst (λ S. Made S h (put c p m) t o' t') (sym e) y.1)

  -- buckets of s at S that come out the same in t at T stay
  abbrev Stay : Shape → List ℕ → Shape → List ℕ → Type 0
  Stay S s T t = (p q k : ℕ) (rs qs : List Record) → 2 ≤ p → p < pages S s → 2 ≤ q → q < pages T t
      → read (page S s p) ≡ bucket k rs → read (page T t q) ≡ bucket k qs → map as_row rs ≡ map as_row qs
      → (p ≡ q) × (page S s p ≡ page T t q)

  kept_pages : (c : Call) (s : List ℕ) (o : Out) (t : List ℕ) → Accepted (shape_of s) h s → MadeSized h (on c) s o t → Stay (shape_of s) s (shape_of t) t
  kept_pages c s o t a m = subst (λ T. Stay (shape_of s) s T t) (sym (same_size c s o t a m)) (⊎_elim
      (λ n. (demand_3 (shape_of s) h (sized_of s) hash).2 c s o t m.0 a n)
      (λ l. subst (λ u. Stay (shape_of s) s (shape_of s) u) (sym l.0) still)
      (own_or_left c s o t m))
    where
      still : Stay (shape_of s) s (shape_of s) s
      still = (demand_3 (shape_of s) h (sized_of s) hash).2 check s accepted s (differs check refl) a (((demand_2 (shape_of s) h (sized_of s) hash).0 s).1 a)

  pub own_third : OwnThird h
  own_third = record {
    begins = begins;
    anew = anew;
    refused_keeps = refused_keeps;
    afresh = afresh;
    same_refusals = same_refusals;
    kept_pages = kept_pages;
    put_pages = λ s. put_chooses (shape_of s) h (sized_of s) hash;
    remove_pages = λ s. remove_chooses (shape_of s) h (sized_of s) hash;
  }
