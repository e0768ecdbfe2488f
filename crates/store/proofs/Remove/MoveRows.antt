-- PUT on a known code and REMOVE on an accepted store: what the pages show afterwards.
-- Assumes nothing.
use mathlib.Core.Path.{◌≡◌}
use mathlib.Core.List.{List, ◌∷◌}
use mathlib.Core.Option.{some}
use Prim.Native.Nat.{ℕ}
use Rattle.partition.specs.declared.Shape.{Shape}
use Rattle.partition.specs.Partition.{Row}
use Rattle.partition.specs.Listing.{without, place_of}
use Rattle.store.specs.Pages.{contents, rows_held}
use Rattle.store.specs.Accepted.{Accepted}
use Rattle.store.specs.Moves.{overwritten, removed}
use Rattle.store.specs.Demands.{Sized, Hash}
use Rattle.store.proofs.Showing.Shows.{Shows}
use Rattle.store.proofs.Showing.Showing.{accepted_shows}
use Rattle.store.proofs.Put.OverShows.{over_shows}
use Rattle.store.proofs.Remove.RemoveShows.{remove_shows}
use Rattle.store.proofs.Demands.Plan.{RemoveRows}

module _ (S : Shape) (h : List ℕ → ℕ) (sized : Sized S) (hash : Hash h) where
  pub over_shown : (s : List ℕ) (r : Row) (old : List ℕ) → Accepted S h s → place_of (rows_held S s) r.code ≡ some old
      → Shows S h (r ∷ without (λ q. q.code) r.code (rows_held S s)) (overwritten (contents S s) r)
  over_shown s r old a e = over_shows S h r (rows_held S s) (contents S s) old (accepted_shows S h sized hash s a) e

  pub remove_shown : (s c old : List ℕ) → Accepted S h s → place_of (rows_held S s) c ≡ some old
      → Shows S h (without (λ q. q.code) c (rows_held S s)) (removed S h (contents S s) c)
  remove_shown s c old a e = remove_shows S h hash (rows_held S s) (contents S s) c old (accepted_shows S h sized hash s a) e

  pub remove_rows : RemoveRows S h
  remove_rows s c old a e = (remove_shown s c old a e).same
