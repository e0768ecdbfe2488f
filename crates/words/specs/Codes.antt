-- Codes: how long one is, and their byte order. Assumes nothing.
use Rattle.std.specs.Prelude.{◌≡◌, List, [], ◌∷◌, length}
use Prim.Native.Nat.{ℕ, ◌≤◌, compare, Ordering}
use Rattle.std.specs.declared.cmp.Ordering as answer
use Rattle.std.specs.declared.cmp.Ordering.TheVariants.{Less, Equal, Greater}

-- A code is 1 to 64 bytes.
pub record GoodCode (c : List ℕ) : Type 0 where
  pub least : 1 ≤ length c
  pub most : length c ≤ 64

-- the first difference decides
abbrev pub then : Ordering → Ordering → Ordering
then Ordering.lt o = Ordering.lt
then Ordering.eq o = o
then Ordering.gt o = Ordering.gt

-- codes in byte order: unsigned, a shorter code before its extensions
unfoldable pub order : List ℕ → List ℕ → Ordering
order [] [] = Ordering.eq
order [] (y ∷ t) = Ordering.lt
order (x ∷ s) [] = Ordering.gt
order (x ∷ s) (y ∷ t) = then (compare x y) (order s t)

-- s comes before t
pub record Before (s t : List ℕ) : Type 0 where
  pub less : order s t ≡ Ordering.lt

-- what each answer of a comparison says
abbrev pub Ordered : List ℕ → List ℕ → answer.Ordering → Type 0
Ordered s t Less = Before s t
Ordered s t Equal = s ≡ t
Ordered s t Greater = Before t s
