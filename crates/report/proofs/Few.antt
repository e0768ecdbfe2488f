-- A store of any of the three page sizes lists at most 5,200,000 rows, so the sum of their raised amounts is below 2^64. Assumes nothing.
use mathlib.Core.List.{List}
use Prim.Native.Nat.{ℕ, zero, suc, ◌+◌, ◌*◌, ◌-◌, ◌≤◌, ◌<◌}
use native.Mathlib.Omega.{arith}
use lib.ListN.{length}
use Rattle.ground.specs.Lists.{total}
use Rattle.hash.specs.Fnv.{fnv, fnv_lt}
use Rattle.partition.specs.declared.Shape.{Shape}
use Rattle.partition.specs.Listing.{listing}
use Rattle.partition.proofs.Listed.{listing_length}
use Rattle.store.specs.Pages.{pages, page, read, rows_on, rows_held}
use Rattle.store.specs.Accepted.{Accepted}
use Rattle.store.specs.Demands.{Sized}
use Rattle.store.proofs.Accepted.Reading.{count_rows}
use Rattle.store.proofs.Showing.Showing.{accepted_rows, accepted_shows}

-- a sum of n numbers of at most 1,259
total_most : (f : ℕ → ℕ) (n : ℕ) → ((i : ℕ) → i < n → f i ≤ 1259) → total f n ≤ n * 1259
unfolding total
total_most f zero e = omega arith
total_most f (suc n) e = omega (arith, e 0 (omega arith), total_most (λ i. f (suc i)) n (λ i l. e (suc i) (omega (arith, l))))

module _ (S : Shape) (z : Sized S) (s : List ℕ) (a : Accepted S fnv s) where
  held : length (rows_held S s) ≤ 5200000
  held =
      let m : total (λ i. length (rows_on (read (page S s (i + 2))))) (pages S s - 2) ≤ (pages S s - 2) * 1259 =
      total_most (λ i. length (rows_on (read (page S s (i + 2))))) (pages S s - 2) (λ i l. omega (arith, accepted_rows S fnv s a (i + 2) (omega arith) (omega (arith, l)), z.most)) in
      omega (arith, count_rows S s, m, a.long.most, z.whole, z.most)

  pub few : length (listing S fnv (rows_held S s)) ≤ 5200000
  few = omega (arith, listing_length S fnv (rows_held S s) (accepted_shows S fnv z fnv_lt s a).fine fnv_lt, held)
