-- What count, row at place n and inspection give; and that places come back from their bytes.
-- Assumes nothing.
use mathlib.Core.Path.{◌≡◌, refl, sym, ap, subst, ◌∙◌}
use mathlib.Core.List.{List, [], ◌∷◌, ◌++◌, map, Memᴰ}
use mathlib.Core.Logic.{inl, inr}
use mathlib.Core.Option.{some}
use Prim.Native.Nat.{ℕ, zero, suc, ◌+◌, ◌-◌, ◌≤◌}
use native.Mathlib.Omega.{arith}
use lib.ListN.{length, drop, get_elem?, length-append, length-drop, get_or-append}
use lib.Seq.{get_or-append-add, get_or-drop}
use Rattle.ground.proofs.Tests.{none_some}
use Rattle.ground.specs.Ladder.{Answers}
use Rattle.ground.proofs.Ladders.{each}
use Rattle.page.specs.Page.{Slotted, rows, place as bytes_at, off}
use Rattle.page.specs.Places.{place_from, stored, InRange}
use Rattle.page.proofs.Sums.{len_of_code}
use Rattle.page.proofs.Stored.{stored_place, place_stored, natural_page, natural_slot, natural_volume}
use Rattle.partition.specs.declared.Shape.{Shape}
use Rattle.partition.specs.Partition.{Row}
use Rattle.partition.specs.Listing.{listing}
use Rattle.partition.proofs.Maps.{found}
use Rattle.partition.proofs.Reorders.{mem_reordered, turned, length_same}
use Rattle.store.specs.Pages.{size, page, read, as_row, rows_on, contents, rows_held}
use Rattle.store.specs.Accepted.{Zero, Bucket, Accepted}
use Rattle.store.specs.Tables.{Out, refused, row, counted, row_of, PageKeeps, count_table, row_table, inspect_table}
use Rattle.store.specs.Demands.{Sized, Hash, GoodCode, AtStart, Nth, CountIsSize, RowIsListed, InspectIsSlot, PlaceComesBack}
use Rattle.store.proofs.Accepted.Rules.{accepted_whole, opened}
use Rattle.store.proofs.Showing.Shown.{some_page}
use Rattle.store.proofs.Showing.Showing.{accepted_shows, under}
use Rattle.store.proofs.Result.Together.{part_small}
use Rattle.store.proofs.Paging.PageTies.{slot_of}
use Rattle.store.proofs.Accepted.Unique.{read_used}
use Rattle.store.proofs.Accepted.Reading.{row_none, row_free}
use Rattle.store.proofs.Showing.Walked.{listed_once}

-- ---- element n of a list of rows

at_start : (c out : List ℕ) → length c ≤ length out → AtStart c out (c ++ drop (length c) out)
at_start c out h = record {
  long = simp (length-append, length-drop) (omega arith);
  start = λ k l. get_or-append c (drop (length c) out) 0 k l;
  left = λ k l.
      let e : length c + (k - length c) ≡ k = omega arith in
      rw e at (get_or-append-add c (drop (length c) out) (k - length c) 0 ∙ get_or-drop (length c) out (k - length c) 0);
}

nth : (rs : List Row) (n : ℕ) (out : List ℕ) → ((r : Row) → get_elem? rs n ≡ some r → length r.code ≤ length out)
    → (x : Out × List ℕ) → Answers (row_of rs n out) x → Nth rs n out x.0 x.1
nth rs n out fits = each (λ x. Nth rs n out x.0 x.1) (row_of rs n out) (
  (λ r e x q. subst (λ (y : Out × List ℕ). Nth rs n out y.0 y.1) (sym q) record {
    is = λ r' e'. let same : r ≡ r' = cc in subst (λ (t : Row). (row (length r.code) (place_from r.place) ≡ row (length t.code) (place_from t.place)) × AtStart t.code out (r.code ++ drop (length r.code) out)) same
        (refl, at_start r.code out (fits r e));
    past = λ l. absurd (none_some (row_none rs n l) e);
  }),
  (λ un x q. record { is = λ r e. absurd (un r e); past = λ l. (ap (λ y. y.0) q, ap (λ y. y.1) q) }),
)

pub member : (rs : List Row) (n : ℕ) (r : Row) → get_elem? rs n ≡ some r → Memᴰ r rs
member [] n r e = absurd (none_some refl e)
member (q ∷ rs) zero r e = let f : r ≡ q = cc in mathlib.Core.List.Memᴰ.head f
member (q ∷ rs) (suc n) r e = mathlib.Core.List.Memᴰ.tail (member rs n r e)

-- ---- the rows of a page, and of an accepted store

-- a row as document 01 has it: a code of 1 to 64 bytes, and a place in its ranges that comes back
pub record Good (r : Row) : Type 0 where
  pub good : GoodCode r.code
  pub back : stored (place_from r.place) ≡ r.place
  pub range : InRange (place_from r.place)

pub slot_good : (g : List ℕ) → Slotted g → (r : Row) → Memᴰ r (map as_row (rows g)) → Good r
unfolding bytes_at
slot_good g b r m =
    let w = slot_of g r m in
    let i : ℕ = w.0 in
    let l = len_of_code g i b w.1 in
    let p = b.places i w.1 in
    let small = (part_small g (off g i) 8 b.bytes (omega (arith, b.short i w.1, b.inside i w.1, b.room))).at in
    subst (λ (t : Row). Good t) (sym w.2) record {
      good = record { least = omega (arith, l, b.short i w.1); most = omega (arith, l, b.long i w.1) };
      back = stored_place (bytes_at g i) p small;
      range = record { page = natural_page (bytes_at g i) p small; slot = natural_slot (bytes_at g i) p small; volume = natural_volume (bytes_at g i) p small };
    }

module _ (S : Shape) (h : List ℕ → ℕ) (sized : Sized S) (hash : Hash h) where
  pub held_good : (s : List ℕ) → Accepted S h s → (r : Row) → Memᴰ r (rows_held S s) → Good r
  held_good s a r m =
      let p = some_page S h (rows_held S s) (contents S s) (accepted_shows S h sized hash s a) r m in
      let u = under S h sized hash s (opened S h s a) p.0 p.1 p.2 p.3 in
      slot_good (page S s (p.0 + 2)) u.bytes.rules.rules r (rw u.its at p.4)

  pub place_comes_back : PlaceComesBack S h
  place_comes_back = (
    (λ p r n. place_stored p n r),
    (λ s c b a e. let g = held_good s a (record { code = c; place = b }) (found c b (rows_held S s) e) in (g.good, g.back)),
  )

  pub count_is_size : CountIsSize S h
  unfolding count_table
  count_is_size s o t a m = each (λ o. o ≡ counted (length (listing S h (rows_held S s)))) (count_table S h s) (
    (λ _ r. absurd (r a.long)),
    (λ _. ((λ p b. absurd (accepted_whole S h s a p b)), (λ _ _ o e. e ∙ ap counted (length_same (listed_once S h sized hash s a).1)))),
  ) o m.0

  row_nth : (s : List ℕ) (n : ℕ) (out : List ℕ) → Accepted S h s → 64 ≤ length out
      → (x : Out × List ℕ) → Answers (row_table S h s n out) x → Nth (listing S h (rows_held S s)) n out x.0 x.1
  unfolding row_table
  row_nth s n out a l = each (λ x. Nth (listing S h (rows_held S s)) n out x.0 x.1) (row_table S h s n out) (
    (λ _ r. absurd (r a.long)),
    (λ _. (
      (λ _ m. absurd (omega arith)),
      (λ _. (
        (λ p b. absurd (accepted_whole S h s a p b)),
        (λ _ _. ((λ r q x e. nth (listing S h (rows_held S s)) n out fits x (inl (r, (q, e)))), (λ un x e. nth (listing S h (rows_held S s)) n out fits x (inr (un, e))))),
      )),
    )),
  )
    where
      fits : (r : Row) → get_elem? (listing S h (rows_held S s)) n ≡ some r → length r.code ≤ length out
      fits r e =
          let m : Memᴰ r (rows_held S s) = mem_reordered (turned (listed_once S h sized hash s a).1) (member (listing S h (rows_held S s)) n r e) in
          omega (arith, (held_good s a r m).good.most)

  pub row_is_listed : RowIsListed S h
  row_is_listed s n out o out' a l m = row_nth s n out a l (o, out') m

module _ (S : Shape) (h : List ℕ → ℕ) where
  inspect_rows : (g : List ℕ) (n : ℕ) (out : List ℕ) → length g ≡ size S → 64 ≤ length out → PageKeeps S h g
      → (x : Out × List ℕ) → Answers (inspect_table S h g n out) x → Answers (row_of (rows_on (read g)) n out) x
  unfolding inspect_table
  inspect_rows g n out z l k = each (λ x. Answers (row_of (rows_on (read g)) n out) x) (inspect_table S h g n out) (
    (λ _ r. absurd (r z)),
    (λ _. ((λ _ m. absurd (omega arith)), (λ _. ((λ _ b. absurd (b k)), (λ _ _. ((λ r q x e. inl (r, (q, e))), (λ un x e. inr (un, e)))))))),
  )

  pub inspect_is_slot : InspectIsSlot S h
  inspect_is_slot g n out o out' z l m =
      ((λ c. free c (inspect_rows g n out z l (inl c) (o, out') m)), (λ b d. slots b (inspect_rows g n out z l (inr (b, d)) (o, out') m)))
    where
      free : Zero g → Answers (row_of (rows_on (read g)) n out) (o, out') → (o ≡ refused 9) × (out' ≡ out)
      free c (inl w) = absurd (none_some (row_free g c n) w.1.0)
      free c (inr w) = (ap (λ y. y.0) w.1, ap (λ y. y.1) w.1)

      slots : Bucket h g → Answers (row_of (rows_on (read g)) n out) (o, out') → Nth (map as_row (rows g)) n out o out'
      slots b w = nth (map as_row (rows g)) n out
          (λ r e. omega (arith, (slot_good g b.rules.rules r (member (map as_row (rows g)) n r e)).good.most))
          (o, out') (rw (read_used g b.rules) at w)
