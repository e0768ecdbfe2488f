-- Records as rows: packing keeps the rows, adding a record puts its row in where its code belongs, and a row fits by what all need.
-- Assumes nothing.
use borrow.Author.Tests.{leb-true, leb-false}
use mathlib.Core.Path.{◌≡◌, refl, ap, ◌∙◌}
use mathlib.Core.Bool.{Bool, true, false}
use mathlib.Core.List.{List, [], ◌∷◌, map}
use Prim.Native.Nat.{ℕ, ◌+◌, ◌*◌, ◌≤◌, ◌<◌}
use native.Mathlib.Omega.{arith}
use lib.Dec.{leb}
use lib.ListN.{length}
use Rattle.ground.specs.Says.{Says}
use Rattle.ground.proofs.Tests.{says_one}
use Rattle.page.specs.Page.{Record}
use Rattle.partition.specs.declared.Shape.{Shape}
use Rattle.partition.specs.Partition.{Row, need, needs}
use Rattle.partition.specs.Listing.{insert}
use Rattle.partition.proofs.Rising.{insert_map}
use Rattle.store.specs.Pages.{size, as_row}
use Rattle.store.specs.Moves.{pick, record_at, pack_from, frontier_of, at_frontier, added, fits_on}

-- FIT GOES BY THE NEEDS, not by the room at the frontier
pub fits_says : (S : Shape) (rs : List Record) (r : Row) (b : Bool) → fits_on S rs r ≡ b → Says b (needs (r ∷ map as_row rs) ≤ S.capacity)
fits_says S rs r false t = λ l. omega (arith, leb-false)
fits_says S rs r true t = omega (arith, leb-true)

pub fits_true : (S : Shape) (rs : List Record) (r : Row) → needs (r ∷ map as_row rs) ≤ S.capacity → fits_on S rs r ≡ true
fits_true S rs r l = says_one (needs (r ∷ map as_row rs) ≤ S.capacity) (fits_on S rs r) true (fits_says S rs r (fits_on S rs r) refl) l

pub fits_false : (S : Shape) (rs : List Record) (r : Row) → S.capacity < needs (r ∷ map as_row rs) → fits_on S rs r ≡ false
fits_false S rs r l = says_one (needs (r ∷ map as_row rs) ≤ S.capacity) (fits_on S rs r) false (fits_says S rs r (fits_on S rs r) refl) (λ m. omega arith)

pub rows_packed : (o : ℕ) (rs : List Row) → map as_row (pack_from o rs) ≡ rs
unfolding pack_from
rows_packed o [] = refl
rows_packed o (r ∷ rs) = ap (λ l. r ∷ l) (rows_packed (o + (8 + length r.code)) rs)

rows_frontier : (rs : List Record) (r : Row) → map as_row (at_frontier rs r) ≡ insert (λ q. q.code) r (map as_row rs)
unfolding at_frontier
rows_frontier rs r = insert_map (λ q. q.code) (λ q. q.code) as_row (λ q. refl) (record_at (frontier_of rs) r) rs

pub rows_added : (S : Shape) (rs : List Record) (r : Row) → map as_row (added S rs r) ≡ insert (λ q. q.code) r (map as_row rs)
unfolding added
rows_added S rs r = go (leb (frontier_of rs + 4 * length rs + need r) (size S))
  where
    go : (b : Bool) → map as_row (pick b (at_frontier rs r) (at_frontier (pack_from 8 (map as_row rs)) r)) ≡ insert (λ q. q.code) r (map as_row rs)
    go true = rows_frontier rs r
    go false = rows_frontier (pack_from 8 (map as_row rs)) r ∙ ap (insert (λ q. q.code) r) (rows_packed 8 (map as_row rs))
