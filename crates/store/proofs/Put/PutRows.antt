-- PUT of a new code on an accepted store: afterwards the pages show its rows and the new one.
-- Assumes nothing.
use mathlib.Core.Path.{◌≡◌}
use mathlib.Core.List.{List, ◌∷◌}
use mathlib.Core.Option.{none}
use Prim.Native.Nat.{ℕ}
use native.Mathlib.Omega.{arith}
use Rattle.partition.specs.declared.Shape.{Shape}
use Rattle.partition.specs.Partition.{Row}
use Rattle.partition.specs.Listing.{place_of}
use Rattle.store.specs.Pages.{contents, rows_held}
use Rattle.store.specs.Accepted.{Accepted}
use Rattle.store.specs.Moves.{put_new}
use Rattle.store.specs.Tables.{Refusal6, Refusal7}
use Rattle.store.specs.Demands.{Sized, Hash}
use Rattle.store.proofs.Showing.Shows.{Shows}
use Rattle.store.proofs.Showing.Showing.{accepted_shows, pages_held}
use Rattle.store.proofs.Put.PutShows.{put_shows}
use Rattle.store.proofs.Demands.Plan.{PutRows}

module _ (S : Shape) (h : List ℕ → ℕ) (sized : Sized S) (hash : Hash h) where
  pub put_shown : (s : List ℕ) (r : Row) → Accepted S h s → place_of (rows_held S s) r.code ≡ none
      → (Refusal6 S h (rows_held S s) r → ⊥) → (Refusal7 S h s (rows_held S s) r → ⊥) → Shows S h (r ∷ rows_held S s) (put_new S h (contents S s) r)
  put_shown s r a new six seven =
      put_shows S h hash (rows_held S s) r (contents S s) (accepted_shows S h sized hash s a) new (omega arith) (omega (arith, pages_held S s))

  pub put_rows : PutRows S h
  put_rows s r a new six seven = (put_shown s r a new six seven).same
