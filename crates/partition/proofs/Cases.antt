-- The worked cases hold for every hash that has the four values of cases 1 and 2; the chosen hash is of 32 bits. Assumes nothing.
use borrow.Author.Tests.{leb-true, leb-false}
use mathlib.Core.Path.{◌≡◌, refl, ap₂}
use mathlib.Core.Bool.{Bool, true, false}
use mathlib.Core.List.{List, [], ◌∷◌}
use mathlib.Core.Option.{Option, some, none}
use Prim.Native.Nat.{ℕ, ◌+◌, ◌-◌, ◌^◌, ◌≤◌, ◌<◌}
use native.Mathlib.Nat.{mod-lt}
use native.Mathlib.Omega.{arith}
use lib.Count.{count_leading_zeros}
use lib.Dec.{leb}
use lib.ListN.{length}
use lib.Pow.{pow_pos}
use Rattle.ground.specs.Says.{Says}
use Rattle.ground.specs.Lists.{byte, tab}
use Rattle.partition.specs.Bits.{shared}
use Rattle.partition.specs.Partition.{Row, S1024, needs, buckets, depth_of, entry}
use Rattle.partition.specs.Listing.{place_of, Once}
use Rattle.partition.specs.Cases.{chosen, Case, hashing, sharing, needing, parting, growing, Holds, All, table, edges, a, b, c}

pub chosen_lt : (c : List ℕ) → chosen c < 2 ^ 32
chosen_lt c = mod-lt (2 ^ (111 - byte c 0)) (pow_pos 32)

-- no code twice, computed
abbrev without_it : Option (List ℕ) → Bool → Bool
without_it none t = t
without_it (some p) t = false

once : List Row → Bool
unfolding place_of
once [] = true
once (r ∷ rs) = without_it (place_of rs r.code) (once rs)

once_of : (rs : List Row) → once rs ≡ true → Once rs
unfolding once
once_of [] e = tt
once_of (r ∷ rs) e = go (place_of rs r.code) e (once_of rs)
  where
    go : (m : Option (List ℕ)) → without_it m (once rs) ≡ true → (once rs ≡ true → Once rs) → (m ≡ none) × Once rs
    go none x f = (refl, f x)
    go (some p) x f = absurd (let n : ◌≡◌ {A = ℕ} 0 1 = cc in omega arith)

fit_of : (n m : ℕ) (t : Bool) → leb n m ≡ t → Says t (n ≤ m)
fit_of n m true e = leb-true n m e
fit_of n m false e = λ l. let k : m < n = leb-false n m e in omega arith

-- what is left of each case once its rows' codes and their fit are computed
module _ (f : List ℕ → ℕ) where
  abbrev Computed : Case → Type 0
  Computed (hashing c n) = Holds f (hashing c n)
  Computed (sharing c e n) = Holds f (sharing c e n)
  Computed (needing rs n ok) = (once rs ≡ true) × (needs rs ≡ n) × (leb (needs rs) S1024.capacity ≡ ok)
  Computed (parting rs ps d es) =
      (once rs ≡ true) × (buckets S1024 chosen rs ≡ ps) × (depth_of (buckets S1024 chosen rs) ≡ d) × (tab (λ i. entry (buckets S1024 chosen rs) d i) (2 ^ d) ≡ es)
  Computed (growing r rs n m) = (once (r ∷ rs) ≡ true) × (length (buckets S1024 chosen rs) ≡ n) × (length (buckets S1024 chosen (r ∷ rs)) ≡ n + m)

  abbrev AllComputed : List Case → Type 0
  AllComputed [] = Unit {0}
  AllComputed (c ∷ cs) = Computed c × AllComputed cs

  holds : (c : Case) → Computed c → Holds f c
  holds (hashing c n) e = e
  holds (sharing c e n) x = x
  holds (needing rs n ok) e = (once_of rs e.0, e.1, fit_of (needs rs) S1024.capacity ok e.2)
  holds (parting rs ps d es) e = (once_of rs e.0, e.1, e.2, e.3)
  holds (growing r rs n m) e = (once_of (r ∷ rs) e.0, e.1, e.2)

  all_hold : (cs : List Case) → AllComputed cs → All f cs
  all_hold [] e = tt
  all_hold (c ∷ cs) e = (holds c e.0, all_hold cs e.1)

-- one case after the other
infixr 5 ◌&◌
◌&◌ : {A B : Type 0} → A → B → A × B
x & y = (x, y)

pub cases_hold : (f : List ℕ → ℕ) → f [] ≡ 2_166_136_261 → f a ≡ 0xE40C292C → f b ≡ 0xE70C2DE5 → f c ≡ 0xE60C2C52 → All f table
unfolding once needs count_leading_zeros buckets depth_of entry tab
cases_hold f e ea eb ec =
    all_hold f table
    (e
    & ea & eb & ec
    & ap₂ shared ea eb & ap₂ shared eb ec
    & (refl, refl, refl) & (refl, refl, refl) & (refl, refl, refl) & (refl, refl, refl)
    & (refl, refl, refl, refl)
    & (refl, refl, refl, refl)
    & (refl, refl, refl, refl)
    & (refl, refl, refl, refl)
    & (refl, refl, refl, refl) & (refl, refl, refl, refl) & (refl, refl, refl)
    & tt)

pub edges_hold : (f : List ℕ → ℕ) → All f edges
unfolding once needs buckets depth_of entry tab
edges_hold f = all_hold f edges ((refl, refl, refl) & (refl, refl, refl) & (refl, refl, refl, refl) & (refl, refl, refl, refl) & (refl, refl, refl, refl) & (refl, refl, refl, refl) & tt)
