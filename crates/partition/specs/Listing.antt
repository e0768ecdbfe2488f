-- Rows in code order, the listing, and the map from code to place. Assumes nothing.
use Rattle.std.specs.Prelude.{◌≡◌}
use mathlib.Core.List.{List, [], ◌∷◌, flat_map, Memᴰ}
use Rattle.std.proofs.Math.Option.{Option, some, none}
use Prim.Native.Nat.{ℕ, Ordering}
use Rattle.words.specs.Codes.{order, Before}
use Rattle.partition.specs.declared.Shape.{Shape}
use Rattle.partition.specs.Partition.{Row, Prefix, rows_of, buckets}

-- one of three by an order
abbrev pub by {ℓ} : {A : Type ℓ} → Ordering → A → A → A → A
by Ordering.lt a b c = a
by Ordering.eq a b c = b
by Ordering.gt a b c = c

-- each before all that follow
abbrev pub Strict : {A : Type 0} → (A → A → Type 0) → List A → Type 0
Strict lt [] = Unit {0}
Strict lt (a ∷ l) = ((b : _) → Memᴰ b l → lt a b) × Strict lt l

module _ {A : Type 0} (code : A → List ℕ) where
  -- r put in before the first of a greater code
  unfoldable pub insert : A → List A → List A
  unfolding order
  insert r [] = r ∷ []
  insert r (q ∷ qs) = by (order (code r) (code q)) (r ∷ q ∷ qs) (r ∷ q ∷ qs) (q ∷ insert r qs)

  -- those of another code than c
  unfoldable pub without : List ℕ → List A → List A
  unfolding order
  without c [] = []
  without c (q ∷ qs) = by (order c (code q)) (q ∷ without c qs) (without c qs) (q ∷ without c qs)

  -- in code order, no code twice
  abbrev pub Rising : List A → Type 0
  Rising l = Strict (λ a b. Before (code a) (code b)) l

-- the rows in code order
unfoldable pub in_order : List Row → List Row
unfolding insert
in_order [] = []
in_order (r ∷ rs) = insert (λ q. q.code) r (in_order rs)

-- The listing takes buckets in ascending order of their first entry and, in a bucket, codes in byte order.
unfoldable pub listing : Shape → (List ℕ → ℕ) → List Row → List Row
unfolding buckets in_order flat_map
listing S h rs = flat_map (λ (p : Prefix). in_order (rows_of h rs p.bits p.value)) (buckets S h rs)

-- the rows as a map from code to place
unfoldable pub place_of : List Row → List ℕ → Option (List ℕ)
unfolding order
place_of [] c = none
place_of (q ∷ qs) c = by (order c q.code) (place_of qs c) (some q.place) (place_of qs c)

-- no code twice
abbrev pub Once : List Row → Type 0
Once [] = Unit {0}
Once (r ∷ rs) = (place_of rs r.code ≡ none) × Once rs
