-- The page that holds the hash x: its bucket is the one of x, and its rows are all rows of that prefix.
-- Assumes nothing.
use mathlib.Core.Path.{◌≡◌, sym, ap, subst}
use mathlib.Core.List.{List, ◌∷◌, map}
use Prim.Native.Nat.{ℕ, ◌+◌}
use Rattle.page.specs.Page.{Record}
use Rattle.partition.specs.Bits.{top}
use Rattle.partition.specs.declared.Shape.{Shape}
use Rattle.partition.specs.Partition.{Row, need, needs, rows_of, IsBucket, Reordered}
use Rattle.partition.specs.Listing.{in_order}
use Rattle.partition.proofs.Laws.{Shallowest, bucket_shallowest}
use Rattle.partition.proofs.Sorted.{in_order_reordered}
use Rattle.partition.proofs.Reorders.{needs_same}
use Rattle.store.specs.Pages.{Page, as_row}
use Rattle.store.proofs.Showing.Shows.{prefix_on, Holding, Shows}

module _ (S : Shape) (h : List ℕ → ℕ) (rows : List Row) (gs : List Page) (s : Shows S h rows gs)
    (x i k : ℕ) (rs : List Record) (e : Holding gs i k rs) (held : prefix_on h k rs ≡ top k x) where
  pub its_bucket : IsBucket S h rows k (top k x)
  its_bucket = subst (IsBucket S h rows k) held (s.page i k rs e).is

  pub its_shallowest : Shallowest S h rows x k
  its_shallowest = bucket_shallowest S h rows x k its_bucket

  pub its_order : map as_row rs ≡ in_order (rows_of h rows k (top k x))
  its_order = subst (λ w. map as_row rs ≡ in_order (rows_of h rows k w)) held (s.page i k rs e).ordered

  pub its_rows : Reordered (map as_row rs) (rows_of h rows k (top k x))
  its_rows = subst (λ l. Reordered l (rows_of h rows k (top k x))) (sym its_order) (in_order_reordered (rows_of h rows k (top k x)))

  pub its_needs : (r : Row) → needs (r ∷ map as_row rs) ≡ need r + needs (rows_of h rows k (top k x))
  unfolding needs
  its_needs r = ap (λ n. need r + n) (needs_same its_rows)
