-- Which pages a put and a remove use, said of the pages of the store s before the call and t after it. Assumes nothing.
use Rattle.std.specs.Prelude.{◌≡◌, List, [], ◌∷◌, ◌≢◌, ℕ, ◌-◌, ◌/◌, ◌^◌, ◌≤◌, ◌<◌}
use Rattle.std.proofs.Math.Option.{Option, some, none}
use Rattle.words.specs.Folds.{fold}
use Rattle.page.specs.declared.Place.{Place}
use Rattle.partition.specs.Bits.{top}
use Rattle.partition.specs.declared.Shape.{Shape}
use Rattle.partition.specs.Partition.{Prefix, first}
use Rattle.store.specs.Pages.{pages, page, Page, free, bucket, read}
use Rattle.store.specs.Accepted.{Accepted}
use Rattle.store.specs.Tables.{new, found}
use Rattle.store.specs.Demands.{put, remove, Made}

-- the prefix of a bucket: its depth, and the first bits of its rows' hashes
abbrev pub prefix_of : (List ℕ → ℕ) → Page → Option Prefix
prefix_of h free = none
prefix_of h (bucket k []) = none
prefix_of h (bucket k (r ∷ rs)) = some (record { bits = k; value = top k (h r.code) })

-- the prefix x is one of the code's hash
abbrev pub Of : (List ℕ → ℕ) → List ℕ → Prefix → Type 0
Of h c x = top x.bits (h c) ≡ x.value

-- y begins with the bits of x
pub record Begins (x y : Prefix) : Type 0 where
  pub longer : x.bits ≤ y.bits
  pub same : y.value / 2 ^ (y.bits - x.bits) ≡ x.value

-- x comes before y in prefix order: by the first entry
abbrev pub Earlier : Shape → Prefix → Prefix → Type 0
Earlier S x y = first S.deepest x < first S.deepest y

-- page p is free
pub record Free (S : Shape) (s : List ℕ) (p : ℕ) : Type 0 where
  pub least : 2 ≤ p
  pub below : p < pages S s
  pub is : read (page S s p) ≡ free

-- page p is a bucket of the prefix x
pub record On (S : Shape) (h : List ℕ → ℕ) (s : List ℕ) (p : ℕ) (x : Prefix) : Type 0 where
  pub least : 2 ≤ p
  pub below : p < pages S s
  pub is : prefix_of h (read (page S s p)) ≡ some x

-- put of a new code: a bucket that did not exist takes the lowest-numbered free page; of new buckets in prefix order the first takes the old page, each next the lowest free page
pub record PutPages (S : Shape) (h : List ℕ → ℕ) (s c t : List ℕ) : Type 0 where
  -- where no page has a prefix of the code's hash, the page that has one then was free, and each lower one was a bucket
  pub lowest : ((p : ℕ) (x : Prefix) → On S h s p x → Of h c x → ⊥) → (p : ℕ) (x : Prefix) → On S h t p x → Of h c x
      → Free S s p × ((q : ℕ) → 2 ≤ q → q < p → (y : Prefix) × On S h s q y)
  -- the page that had one is a bucket then, before each on a page that was free
  pub old : (p : ℕ) (x : Prefix) → On S h s p x → Of h c x
      → (y : Prefix) × On S h t p y × ((q : ℕ) (z : Prefix) → Free S s q → On S h t q z → Earlier S y z)
  -- of two pages that were free the lower is taken first, by the earlier bucket
  pub next : (p q : ℕ) (x : Prefix) → Free S s p → On S h t p x → Free S s q → q < p → (y : Prefix) × On S h t q y × Earlier S y x

-- remove: the joined rows are on the lowest-numbered page among those joined (the emptied one counted) and the others are cleared
pub record RemovePages (S : Shape) (h : List ℕ → ℕ) (s c t : List ℕ) : Type 0 where
  -- the page that has a prefix of the code's hash then is the lowest of those that had this prefix, and the others are free
  pub joined : (p : ℕ) (x : Prefix) → On S h t p x → Of h c x
      → ((y : Prefix) × On S h s p y × Begins x y) × ((q : ℕ) (y : Prefix) → On S h s q y → Begins x y → (p ≤ q) × (q ≢ p → Free S t q))
  -- where none has one, the page that had is free
  pub cleared : ((p : ℕ) (x : Prefix) → On S h t p x → Of h c x → ⊥) → (p : ℕ) (x : Prefix) → On S h s p x → Of h c x → Free S t p

module _ (S : Shape) (h : List ℕ → ℕ) where
  -- so it is of every put that answers new
  abbrev pub PutChooses : Type 0
  PutChooses = (s c : List ℕ) (a : Place) (m : ℕ) (t : List ℕ) → Accepted S h s → Made S h (put c a m) s new t → PutPages S h s (fold c) t

  -- so it is of every remove that answers a place
  abbrev pub RemoveChooses : Type 0
  RemoveChooses = (s c : List ℕ) (a : Place) (t : List ℕ) → Accepted S h s → Made S h (remove c) s (found a) t → RemovePages S h s (fold c) t
