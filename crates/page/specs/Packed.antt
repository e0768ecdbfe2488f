-- Fresh and packed pages. Assumes nothing.
use Rattle.std.specs.Prelude.{ℕ, ◌+◌, ◌*◌, ◌≤◌, ◌<◌, ◌≡◌, List, [], ◌∷◌, length}
use Rattle.ground.specs.Lists.{total}
use Rattle.words.specs.Codes.{GoodCode}
use Rattle.page.specs.Page.{Slotted, BucketPage, Belongs, Natural, rows, depth, count, frontier, free, off, len, place, code}
use Rattle.page.specs.Steps.{Inserted}

-- a page of no rows
pub record Fresh (p : List ℕ) (d : ℕ) (q : List ℕ) : Type 0 where
  pub page : Slotted q
  pub long : length q ≡ length p
  pub deep : depth q ≡ d
  pub none : count q ≡ 0

-- row i of q is row i of p, packed
pub record PackedRow (p : List ℕ) (i : ℕ) (q : List ℕ) : Type 0 where
  pub start : off q i ≡ 8 + total (len p) i
  pub placed : place q i ≡ place p i
  pub coded : code q i ≡ code p i
  pub sized : len q i ≡ len p i

-- q has the first n rows of p, from 8 in slot order
pub record PackedTo (p : List ℕ) (n : ℕ) (q : List ℕ) : Type 0 where
  pub page : Slotted q
  pub long : length q ≡ length p
  pub deep : depth q ≡ depth p
  pub counted : count q ≡ n
  pub each : (i : ℕ) → i < n → PackedRow p i q

-- q has the first i rows of p, and p has row i
pub record PackingAt (p : List ℕ) (i : ℕ) (q : List ℕ) : Type 0 where
  pub page : Slotted p
  pub before : PackedTo p i q
  pub within : i < count p

abbrev pub Packed : List ℕ → List ℕ → Type 0
Packed p q = PackedTo p (count p) q

-- a row of code c, which belongs at slot s, fits p
pub record Fitting (p : List ℕ) (s : ℕ) (c pl : List ℕ) : Type 0 where
  pub page : Slotted p
  pub belongs : Belongs p s c
  pub natural : Natural pl
  pub good : GoodCode c
  pub fits : 12 + length c ≤ free p

-- If the room between frontier and slots is at least the need, the record goes at the frontier. Else the page is packed first, then the same.
-- t is a scratch page, which then gets what the page held.
pub record Added (p : List ℕ) (s : ℕ) (c pl t q t' : List ℕ) : Type 0 where
  pub roomy : frontier p + 4 * count p + (12 + length c) ≤ length p → Inserted p s c pl q × (t' ≡ t)
  pub tight : length p < frontier p + 4 * count p + (12 + length c) → ((g : List ℕ) × Packed p g × Inserted g s c pl q) × (t' ≡ p)

-- a row that may be a page's first
pub record Startable (p : List ℕ) (c pl : List ℕ) : Type 0 where
  pub least : 16 ≤ length p
  pub most : length p ≤ 16384
  pub natural : Natural pl
  pub good : GoodCode c
  pub room : 20 + length c ≤ length p

-- a page of one row
pub record Started (p : List ℕ) (d : ℕ) (c pl q : List ℕ) : Type 0 where
  pub page : BucketPage q
  pub long : length q ≡ length p
  pub deep : depth q ≡ d
  pub rows_of : rows q ≡ record { start = 8; place = pl; code = c } ∷ []
