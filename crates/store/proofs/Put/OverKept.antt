-- PUT on a known code: a bucket whose depth and rows come out the same keeps its page and its records.
-- Assumes nothing.
use mathlib.Core.Path.{◌≡◌, refl, sym, ap, ap₂, subst, ◌∙◌}
use mathlib.Core.List.{List, [], ◌∷◌, map, head-eq_of_cons-eq, tail-eq_of_cons-eq}
use Prim.Native.Nat.{ℕ, Ordering}
use Rattle.words.specs.Codes.{order}
use Rattle.page.specs.Page.{Record}
use Rattle.partition.specs.declared.Shape.{Shape}
use Rattle.partition.specs.Partition.{Row}
use Rattle.partition.specs.Listing.{by}
use Rattle.store.specs.Pages.{Page, as_row}
use Rattle.store.specs.Moves.{place_on, overwritten}
use Rattle.store.proofs.Showing.Shows.{prefix_on, Holding, Shows}
use Rattle.store.proofs.Showing.Rooms.{bucket_one}
use Rattle.store.proofs.Put.PutKept.{Kept, same_prefix}
use Rattle.store.proofs.Put.OverShows.{was, prefix_over}

-- a record is its start and its row
same_start : (r : Row) (q : Record) → (place_on r q).start ≡ q.start
same_start r q = go (order r.code q.code)
  where
    go : (o : Ordering) → (by o q (record { start = q.start; place = r.place; code = r.code }) q).start ≡ q.start
    go Ordering.lt = refl
    go Ordering.eq = refl
    go Ordering.gt = refl

record_is : (q p : Record) → q.start ≡ p.start → as_row q ≡ as_row p → q ≡ p
record_is q p e f = ap₂ (λ (o : ℕ) (y : Row). record { start = o; place = y.place; code = y.code }) e f

placed_same : (r : Row) (rs : List Record) → map as_row (map (place_on r) rs) ≡ map as_row rs → map (place_on r) rs ≡ rs
placed_same r [] e = refl
placed_same r (q ∷ rs) e =
    ap₂ (λ (y : Record) (l : List Record). y ∷ l) (record_is (place_on r q) q (same_start r q) (head-eq_of_cons-eq e)) (placed_same r rs (tail-eq_of_cons-eq e))

module _ (S : Shape) (h : List ℕ → ℕ) (rows : List Row) (gs : List Page) (s : Shows S h rows gs) where
  -- nothing changes
  pub same_kept : Kept gs gs
  same_kept p q k rs qs a b e =
      let z : p ≡ q = s.apart p q k rs qs a b (same_prefix h k rs qs e) in
      (z, (bucket_one (sym a ∙ subst (λ i. Holding gs i k qs) (sym z) b)).1)

  pub over_kept : (r : Row) → Kept gs (overwritten gs r)
  over_kept r p q k rs qs a b e =
      let w = was r gs q k qs b in
      let z : p ≡ q = s.apart p q k rs w.records a w.there (same_prefix h k rs qs e ∙ sym (ap (prefix_on h k) w.now) ∙ prefix_over S h r k w.records) in
      let u : rs ≡ w.records = (bucket_one (sym a ∙ subst (λ i. Holding gs i k w.records) (sym z) w.there)).1 in
      (z, u ∙ sym (placed_same r w.records (ap (map as_row) w.now ∙ sym e ∙ ap (map as_row) u)) ∙ w.now)
