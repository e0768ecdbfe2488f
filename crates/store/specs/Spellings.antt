-- One lot, two spellings: what folding a given code does to the answers, and to what is stored. Assumes nothing.
use Rattle.std.specs.Prelude.{◌≡◌, ◌↔◌, ℕ}
use mathlib.Core.List.{List, Memᴰ}
use Rattle.words.specs.Folds.{fold, Folded}
use Rattle.page.specs.declared.Place.{Place}
use Rattle.partition.specs.declared.Shape.{Shape}
use Rattle.partition.specs.Partition.{Row}
use Rattle.partition.specs.Listing.{listing}
use Rattle.store.specs.Pages.{rows_held}
use Rattle.store.specs.Accepted.{Accepted}
use Rattle.store.specs.Tables.{Out}
use Rattle.store.specs.Demands.{Sized, Hash, Call, lookup, remove, put, Made}

module _ (S : Shape) (h : List ℕ → ℕ) where
  -- one call is answered as the other is on any bytes, and leaves the same
  abbrev pub SameCall : Call → Call → Type 0
  SameCall x y = (s : List ℕ) (o : Out) (t : List ℕ) → Made S h x s o t ↔ Made S h y s o t

  -- two spellings are the same lot
  abbrev pub SameLot : Type 0
  SameLot = (c d : List ℕ) → fold c ≡ fold d → SameCall (lookup c) (lookup d) × ((p : Place) (m : ℕ) → SameCall (put c p m) (put d p m)) × SameCall (remove c) (remove d)

  -- every stored code is folded, and listings give the folded form
  abbrev pub StoredFolded : Type 0
  StoredFolded = (s : List ℕ) → Accepted S h s → (r : Row) → (Memᴰ r (rows_held S s) → Folded r.code) × (Memᴰ r (listing S h (rows_held S s)) → Folded r.code)

-- for every page size and every hash
abbrev pub OneLot : Type 0
OneLot = (S : Shape) (h : List ℕ → ℕ) → Sized S → Hash h → SameLot S h × StoredFolded S h
