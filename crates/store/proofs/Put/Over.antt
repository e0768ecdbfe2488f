-- The rows after a put on a known code. Assumes nothing.
use mathlib.Core.Path.{◌≡◌, refl, sym, ap, subst, ◌∙◌}
use mathlib.Core.List.{List, [], ◌∷◌, ◌++◌, map, flat_map, map-append}
use mathlib.Core.Option.{some, none}
use Prim.Native.Nat.{ℕ, Ordering}
use Rattle.ground.proofs.Tests.{none_some}
use Rattle.page.specs.Page.{Record}
use Rattle.partition.specs.Partition.{Row, Reordered, front, swap, chain}
use Rattle.words.specs.Codes.{order}
use Rattle.partition.specs.Listing.{by, without, place_of}
use Rattle.store.specs.Pages.{Page, free, bucket, as_row, rows_on, rows_in}
use Rattle.store.specs.Moves.{place_on, overwrite_on, overwritten}
use Rattle.partition.specs.Listing.{Once}
use Rattle.words.proofs.Orders.{order_eq}
use Rattle.partition.proofs.Reorders.{same_order}
use Rattle.partition.proofs.Maps.{cut, cut_none}

abbrev pub over : Row → Row → Row
over r q = by (order r.code q.code) q r q

-- a record overwritten, as a row
one_over : (r : Row) (o : Ordering) (q : Record) → as_row (by o q (record { start = q.start; place = r.place; code = r.code }) q) ≡ by o (as_row q) r (as_row q)
one_over r Ordering.lt q = refl
one_over r Ordering.eq q = refl
one_over r Ordering.gt q = refl

pub many_over : (r : Row) (rs : List Record) → map as_row (map (place_on r) rs) ≡ map (over r) (map as_row rs)
many_over r [] = refl
many_over r (q ∷ rs) = ap (λ x. x ∷ map as_row (map (place_on r) rs)) (one_over r (order r.code q.code) q) ∙ ap (λ l. over r (as_row q) ∷ l) (many_over r rs)

page_over : (r : Row) (g : Page) → rows_on (overwrite_on r g) ≡ map (over r) (rows_on g)
page_over r free = refl
page_over r (bucket k rs) = many_over r rs

pub rows_over : (r : Row) (gs : List Page) → rows_in (overwritten gs r) ≡ map (over r) (rows_in gs)
unfolding overwritten rows_in flat_map
rows_over r [] = refl
rows_over r (g ∷ gs) =
    ap (λ l. l ++ rows_in (overwritten gs r)) (page_over r g) ∙ ap (λ l. map (over r) (rows_on g) ++ l) (rows_over r gs) ∙ sym (map-append (over r) (rows_on g) (rows_in gs))

-- where the code is not there, nothing changes
none_over : (r : Row) (rs : List Row) → place_of rs r.code ≡ none → map (over r) rs ≡ rs
unfolding place_of
none_over r [] e = refl
none_over r (q ∷ rs) e = go (order r.code q.code) e (none_over r rs)
  where
    go : (o : Ordering) → by o (place_of rs r.code) (some q.place) (place_of rs r.code) ≡ none → (place_of rs r.code ≡ none → map (over r) rs ≡ rs)
        → by o q r q ∷ map (over r) rs ≡ q ∷ rs
    go Ordering.lt x f = ap (λ l. q ∷ l) (f x)
    go Ordering.eq x f = absurd (none_some x refl)
    go Ordering.gt x f = ap (λ l. q ∷ l) (f x)

pub known_over : (r : Row) (rs : List Row) (old : List ℕ) → Once rs → place_of rs r.code ≡ some old → Reordered (map (over r) rs) (r ∷ cut r.code rs)
unfolding place_of without
known_over r [] old o e = absurd (none_some refl e)
known_over r (q ∷ rs) old o e = go (order r.code q.code) refl e (known_over r rs old o.1)
  where
    go : (p : Ordering) → order r.code q.code ≡ p → by p (place_of rs r.code) (some q.place) (place_of rs r.code) ≡ some old
        → (place_of rs r.code ≡ some old → Reordered (map (over r) rs) (r ∷ cut r.code rs))
        → Reordered (by p q r q ∷ map (over r) rs) (r ∷ by p (q ∷ cut r.code rs) (cut r.code rs) (q ∷ cut r.code rs))
    go Ordering.lt f x i = chain (front q (i x)) (swap q r (same_order (cut r.code rs)))
    go Ordering.gt f x i = chain (front q (i x)) (swap q r (same_order (cut r.code rs)))
    go Ordering.eq f x i =
        let z : place_of rs r.code ≡ none = subst (λ c. place_of rs c ≡ none) (sym (order_eq r.code q.code f)) o.0 in
        front r (subst (λ l. Reordered l (cut r.code rs)) (sym (none_over r rs z)) (subst (λ l. Reordered rs l) (sym (cut_none r.code rs z)) (same_order rs)))
