-- A bucket counts at its own depth and at no other. Assumes nothing.
use mathlib.Core.Path.{◌≡◌, refl}
use mathlib.Core.Bool.{Bool, true, false}
use mathlib.Core.List.{List}
use mathlib.Core.Logic.{◌⊎◌, inl, inr}
use Prim.Native.Nat.{ℕ}
use lib.Dec.{eqb}
use borrow.Author.Tests.{eqb-true, eqb-false}
use Rattle.page.specs.Page.{Record}
use Rattle.store.specs.Pages.{bucket}
use Rattle.store.specs.Moves.{pick}
use Rattle.store.specs.Counts.{one_at}

abbrev pub Ones : ℕ → ℕ → ℕ → Type 0
Ones d k n = ((d ≡ k) × (n ≡ 1)) ⊎ ((d ≡ k → ⊥) × (n ≡ 0))

pub ones : (k d : ℕ) (rs : List Record) → Ones d k (one_at k (bucket d rs))
ones k d rs = go (eqb d k) refl
  where
    go : (b : Bool) → eqb d k ≡ b → Ones d k (pick b 1 0)
    go true e = inl (eqb-true d k e, refl)
    go false e = inr (eqb-false d k e, refl)
