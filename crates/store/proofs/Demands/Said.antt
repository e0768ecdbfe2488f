-- What each call may answer, whatever it is given: a refusal of its table, with 2 a page of the store, or its values in their ranges.
-- Assumes nothing.
use mathlib.Core.Path.{◌≡◌, refl, ap}
use mathlib.Core.List.{List, [], ◌∷◌, map, flat_map}
use mathlib.Core.Logic.{◌⊎◌, inl, inr, ⊎_elim}
use mathlib.Core.Option.{some}
use Prim.Native.Nat.{ℕ, suc, ◌+◌, ◌*◌, ◌≤◌, ◌<◌}
use native.Mathlib.Omega.{arith}
use lib.ListN.{length, get_elem?, length-append, length-map}
use Rattle.ground.proofs.Tests.{none_some}
use Rattle.ground.specs.Ladder.{Answers}
use Rattle.ground.proofs.Ladders.{each}
use Rattle.ground.proofs.Sides.{side}
use Rattle.ground.proofs.Tables.{length_tab}
use Rattle.page.specs.Page.{Record, rows, row_at, count}
use Rattle.page.specs.Places.{place_from, InRange}
use Rattle.words.specs.Folds.{fold}
use Rattle.page.specs.declared.Place.{Place}
use Rattle.partition.specs.declared.Shape.{Shape}
use Rattle.partition.specs.Partition.{Row}
use Rattle.partition.specs.Listing.{listing, place_of}
use Rattle.partition.proofs.Maps.{found as in_map}
use Rattle.partition.proofs.Reorders.{mem_reordered, turned}
use Rattle.store.specs.Pages.{Page, free, bucket, page, rows_in, rows_on, rows_held, contents, as_row, read}
use Rattle.store.specs.Accepted.{Accepted, Broken}
use Rattle.store.specs.Tables.{Out, refused, refused_at, formatted, accepted, new, replaced, found, counted, row, Refusal1, PageKeeps, format_table, check_table, count_table, lookup_table, put_table, remove_table, row_table, inspect_table}
use Rattle.store.specs.Demands.{Sized, Hash}
use Rattle.store.proofs.Accepted.Rules.{opened, broken_below}
use Rattle.store.proofs.Showing.Shows.{Holding}
use Rattle.store.proofs.Showing.Showing.{under, pages_held}
use Rattle.store.proofs.Accepted.Unique.{read_used}
use Rattle.store.proofs.Accepted.Reading.{row_free}
use Rattle.store.proofs.Showing.Walked.{listed_once}
use Rattle.store.proofs.Demands.Given.{Good, slot_good, held_good, member}

-- a refusal; most bounds the page number that 2 carries
abbrev pub RefusedBelow : ℕ → Out → Type 0
RefusedBelow most o = ((n : ℕ) × ((n < 15) × (n ≡ 2 → ⊥) × (o ≡ refused n))) ⊎ ((p : ℕ) × ((p < most) × (o ≡ refused_at 2 p)))

-- a value that carries a place
abbrev pub Placed : (Place → Out) → Out → Type 0
Placed f o = (b : List ℕ) × (InRange (place_from b) × (o ≡ f (place_from b)))

-- a row: the length of its code, and its place
abbrev pub Rowed : Out → Type 0
Rowed o = (l : ℕ) × ((l ≤ 64) × Placed (row l) o)

-- a number of rows, of at most so many
abbrev pub Counted : ℕ → Out → Type 0
Counted most o = (n : ℕ) × ((n ≤ most) × (o ≡ counted n))

-- what a put did
abbrev pub Kept : Out → Type 0
Kept o = (o ≡ new) ⊎ Placed replaced o

-- the refusals of a call, and its values
abbrev pub Said : ℕ → (Out → Type 0) → Out → Type 0
Said most Values o = RefusedBelow most o ⊎ Values o

-- rows of a table that refuse: of a call that only answers, and of one that leaves something
module _ {most : ℕ} (Values : Out → Type 0) (n : ℕ) (l : n < 15) (d : n ≡ 2 → ⊥) where
  no : (o : Out) → o ≡ refused n → Said most Values o
  no o e = inl (inl (n, (l, d, e)))

  left : {t : List ℕ} (x : Out × List ℕ) → x ≡ (refused n, t) → Said most Values x.0
  left x e = no x.0 (ap (λ y. y.0) e)

-- no page has more rows than k, so the store has no more than k for each page
few : (k : ℕ) (gs : List Page) → ((i d : ℕ) (rs : List Record) → Holding gs i d rs → length rs ≤ k) → length (rows_in gs) ≤ k * length gs
unfolding rows_in flat_map
few k [] f = omega arith
few k (free ∷ gs) f = let l = few k gs (λ i d rs e. f (suc i) d rs e) in omega arith
few k (bucket d rs ∷ gs) f =
    let l = few k gs (λ i d rs e. f (suc i) d rs e) in
    let m : length rs ≤ k = f 0 d rs refl in
    omega (arith, l, m, length-append (map as_row rs) (rows_in gs), length-map rs as_row)

module _ (S : Shape) (h : List ℕ → ℕ) where
  paged : (s : List ℕ) (p : ℕ) → (Unit {0} → Refusal1 S s → ⊥) → Broken S h s p → p < S.entries + 2
  paged s p good b = ⊎_elim (λ l. l)
      (λ l. absurd (good tt (λ g. omega (arith, g.most, broken_below S h s (omega (arith, g.least)) p b))))
      (side p (S.entries + 2))

  pub format_said : (s : List ℕ) (x : Out × List ℕ) → Answers (format_table S s) x → Said 0 (λ o. o ≡ formatted) x.0
  unfolding format_table
  format_said s = each (λ x. Said 0 (λ o. o ≡ formatted) x.0) (format_table S s)
      ((λ _ _. left (λ o. o ≡ formatted) 1 (omega arith) (λ z. omega arith)), (λ _ x e. inr (ap (λ y. y.0) e)))

  pub check_said : (s : List ℕ) (o : Out) → Answers (check_table S h s) o → Said (S.entries + 2) (λ o. o ≡ accepted) o
  unfolding check_table
  check_said s = each (λ o. Said (S.entries + 2) (λ o. o ≡ accepted) o) (check_table S h s)
      ((λ _ _. no (λ o. o ≡ accepted) 1 (omega arith) (λ z. omega arith)), (λ g. ((λ p b o e. inl (inr (p, (paged s p g b, e)))), (λ _ _ o e. inr e))))

  pub inspect_said : (g : List ℕ) (n : ℕ) (out : List ℕ) (x : Out × List ℕ) → Answers (inspect_table S h g n out) x
      → Said 1 Rowed x.0
  unfolding inspect_table
  inspect_said g n out = each (λ x. Said 1 Rowed x.0) (inspect_table S h g n out) (
    (λ _ _. left Rowed 1 (omega arith) (λ z. omega arith)),
    (λ _. (
      (λ _ _. left Rowed 8 (omega arith) (λ z. omega arith)),
      (λ _. (
        (λ _ _ x e. inl (inr (0, (omega arith, ap (λ y. y.0) e)))),
        (λ _ k. (
          (λ r m x e. let q = slot k r m in inr (length r.code, (q.good.most, (r.place, (q.range, ap (λ y. y.0) e))))),
          (λ _. left Rowed 9 (omega arith) (λ z. omega arith)),
        )),
      )),
    )),
  )
    where
      slot : PageKeeps S h g → (r : Row) → get_elem? (rows_on (read g)) n ≡ some r → Good r
      slot (inl z) r m = absurd (none_some (row_free g z n) m)
      slot (inr b) r m = slot_good g b.0.rules.rules r (member (map as_row (rows g)) n r (rw (read_used g b.0.rules) at m))

  module _ (sized : Sized S) (hash : Hash h) where
    pub rows_few : (s : List ℕ) → Accepted S h s → length (rows_held S s) ≤ 16384 * length (contents S s)
    rows_few s a = few 16384 (contents S s)
        (λ i d rs e. let u = under S h sized hash s (opened S h s a) i d rs e in
        rw u.its (omega (arith, length_tab (row_at (page S s (i + 2))) (count (page S s (i + 2))), u.bytes.rules.rules.room, u.bytes.rules.rules.most)))

    pub count_said : (s : List ℕ) (o : Out) → Answers (count_table S h s) o → Said (S.entries + 2) (Counted (16384 * S.entries)) o
    unfolding count_table
    count_said s = each (λ o. Said (S.entries + 2) (Counted (16384 * S.entries)) o) (count_table S h s) (
      (λ _ _. no (Counted (16384 * S.entries)) 1 (omega arith) (λ z. omega arith)),
      (λ g. (
        (λ p b o e. inl (inr (p, (paged s p g b, e)))),
        (λ _ a o e. inr (length (rows_held S s), (omega (arith, rows_few s a, pages_held S s, a.long.most), e))),
      )),
    )

    -- a row that the map has
    mapped : (s c b : List ℕ) → Accepted S h s → place_of (rows_held S s) c ≡ some b → InRange (place_from b)
    mapped s c b a e = (held_good S h sized hash s a (record { code = c; place = b }) (in_map c b (rows_held S s) e)).range

    pub lookup_said : (s c : List ℕ) (o : Out) → Answers (lookup_table S h s c) o → Said (S.entries + 2) (Placed found) o
    unfolding lookup_table
    lookup_said s c = each (λ o. Said (S.entries + 2) (Placed found) o) (lookup_table S h s c) (
      (λ _ _. no (Placed found) 1 (omega arith) (λ z. omega arith)),
      (λ g. (
        (λ _ _. no (Placed found) 3 (omega arith) (λ z. omega arith)),
        (λ _. (
          (λ p b o e. inl (inr (p, (paged s p g b, e)))),
          (λ _ a. ((λ b m o e. inr (b, (mapped s (fold c) b a m, e))), (λ _. no (Placed found) 5 (omega arith) (λ z. omega arith)))),
        )),
      )),
    )

    pub remove_said : (s c : List ℕ) (x : Out × List ℕ) → Answers (remove_table S h s c) x → Said (S.entries + 2) (Placed found) x.0
    unfolding remove_table
    remove_said s c = each (λ x. Said (S.entries + 2) (Placed found) x.0) (remove_table S h s c) (
      (λ _ _. left (Placed found) 1 (omega arith) (λ z. omega arith)),
      (λ g. (
        (λ _ _. left (Placed found) 3 (omega arith) (λ z. omega arith)),
        (λ _. (
          (λ p b x e. inl (inr (p, (paged s p g b, ap (λ y. y.0) e)))),
          (λ _ a. ((λ b m x e. inr (b, (mapped s (fold c) b a m, e.0))), (λ _. left (Placed found) 5 (omega arith) (λ z. omega arith)))),
        )),
      )),
    )

    pub put_said : (s c : List ℕ) (p : Place) (m : ℕ) (x : Out × List ℕ) → Answers (put_table S h s c p m) x → Said (S.entries + 2) Kept x.0
    unfolding put_table
    put_said s c p m = each (λ x. Said (S.entries + 2) Kept x.0) (put_table S h s c p m) (
      (λ _ _. left Kept 1 (omega arith) (λ z. omega arith)),
      (λ g. (
        (λ _ _. left Kept 3 (omega arith) (λ z. omega arith)),
        (λ _. (
          (λ _ _. left Kept 4 (omega arith) (λ z. omega arith)),
          (λ _. (
            (λ _ _. left Kept 14 (omega arith) (λ z. omega arith)),
            (λ _. (
              (λ p b x e. inl (inr (p, (paged s p g b, ap (λ y. y.0) e)))),
              (λ _ a. (
                (λ _ _. left Kept 13 (omega arith) (λ z. omega arith)),
                (λ _. (
                  (λ _ _. left Kept 5 (omega arith) (λ z. omega arith)),
                  (λ _. (
                    (λ b k x e. inr (inr (b, (mapped s (fold c) b a k, e.0)))),
                    (λ _. (
                      (λ _ _. left Kept 6 (omega arith) (λ z. omega arith)),
                      (λ _. ((λ _ _. left Kept 7 (omega arith) (λ z. omega arith)), (λ _ x e. inr (inl e.0)))),
                    )),
                  )),
                )),
              )),
            )),
          )),
        )),
      )),
    )

    pub row_said : (s : List ℕ) (n : ℕ) (out : List ℕ) (x : Out × List ℕ) → Answers (row_table S h s n out) x
        → Said (S.entries + 2) Rowed x.0
    unfolding row_table
    row_said s n out = each (λ x. Said (S.entries + 2) Rowed x.0) (row_table S h s n out) (
      (λ _ _. left Rowed 1 (omega arith) (λ z. omega arith)),
      (λ g. (
        (λ _ _. left Rowed 8 (omega arith) (λ z. omega arith)),
        (λ _. (
          (λ p b x e. inl (inr (p, (paged s p g b, ap (λ y. y.0) e)))),
          (λ _ a. (
            (λ r m x e. let q = listed a r m in inr (length r.code, (q.good.most, (r.place, (q.range, ap (λ y. y.0) e))))),
            (λ _. left Rowed 9 (omega arith) (λ z. omega arith)),
          )),
        )),
      )),
    )
      where
        listed : Accepted S h s → (r : Row) → get_elem? (listing S h (rows_held S s)) n ≡ some r → Good r
        listed a r m = held_good S h sized hash s a r (mem_reordered (turned (listed_once S h sized hash s a).1) (member (listing S h (rows_held S s)) n r m))
