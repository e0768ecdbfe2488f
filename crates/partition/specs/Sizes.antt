-- The page sizes: 1,024, 4,096 and 16,384 bytes. Assumes nothing.
use Rattle.std.specs.Prelude.{◌≡◌, Bool, true, false, List, [], ◌∷◌, ℕ, ◌+◌, ◌*◌, ◌^◌, ◌≤◌, eqb, get_or}
use Rattle.words.specs.Le.{le32}
use Rattle.partition.specs.declared.Shape.{Shape}
use Rattle.partition.specs.Partition.{S1024}

-- Capacity is page size less 8.
abbrev pub size : Shape → ℕ
size S = 8 + S.capacity

-- what holds of the three page sizes
pub record Sized (S : Shape) : Type 0 where
  pub whole : 4 * S.entries ≡ size S
  pub deep : 2 ^ S.deepest ≡ S.entries
  pub least : 76 ≤ S.capacity
  pub most : size S ≤ 16384

abbrev pub S4096 : Shape
S4096 = record { capacity = 4088; entries = 1024; deepest = 10 }

abbrev pub S16384 : Shape
S16384 = record { capacity = 16376; entries = 4096; deepest = 12 }

-- the table
abbrev pub sizes : List Shape
sizes = S1024 ∷ S4096 ∷ S16384 ∷ []

-- row i of the table
unfoldable pub shape_at : ℕ → Shape
shape_at i = get_or sizes i S1024

abbrev pub either : {A : Type 0} → Bool → A → A → A
either true a b = a
either false a b = b

-- At 20 in page 0 stands the size, written 0 for 1,024. A bad size number counts as 1,024.
unfoldable pub shape_for : ℕ → Shape
shape_for n = either (eqb n 4096) S4096 (either (eqb n 16384) S16384 S1024)

-- the number that stands for a size there
unfoldable pub number_of_size : Shape → ℕ
number_of_size S = either (eqb (size S) 1024) 0 (size S)

unfoldable pub shape_of : List ℕ → Shape
unfolding shape_for
shape_of s = shape_for (le32 s 20)
