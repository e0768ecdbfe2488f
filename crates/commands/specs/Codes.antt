-- Codes as text: bytes 0x21 to 0x7E but % as themselves, any byte as %HH. Assumes nothing.
use Rattle.std.specs.Prelude.{ℕ, ◌+◌, ◌*◌, ◌/◌, ◌%◌, ◌≤◌, ◌<◌, ◌≡◌, Option, Some, None, cond, ◌⊎◌, List, [], ◌∷◌, ◌++◌, ltb, eqb, length, take, drop}
use Rattle.ground.specs.Lists.{byte}
use Rattle.commands.specs.declared.Glyph.{Glyph}

-- b stands for itself
pub record Plain (b : ℕ) : Type 0 where
  pub least : 33 ≤ b
  pub most : b ≤ 126
  pub other : b ≡ 37 → ⊥

-- the bytes of c from a up to b stand for themselves
abbrev pub PlainFrom : List ℕ → ℕ → ℕ → Type 0
PlainFrom c a b = (k : ℕ) → a ≤ k → k < b → Plain (byte c k)

-- b is the hexadecimal digit h: 0 to 9, A to F, a to f
abbrev pub Hex : ℕ → ℕ → Type 0
Hex b h = ((b ≡ 48 + h) × (h < 10)) ⊎ (((b ≡ 55 + h) ⊎ (b ≡ 87 + h)) × (10 ≤ h) × (h < 16))

-- b is no hexadecimal digit
abbrev pub Unhex : ℕ → Type 0
Unhex b = (h : ℕ) → Hex b h → ⊥

-- the text w writes the bytes c
pub data Spells : List ℕ → List ℕ → Type 0 where
  none : Spells [] []
  plain : {b : ℕ} {w c : List ℕ} → Plain b → Spells w c → Spells (b ∷ w) (b ∷ c)
  escaped : {x y i j : ℕ} {w c : List ℕ} → Hex x i → Hex y j → Spells w c → Spells (37 ∷ x ∷ y ∷ w) ((i * 16 + j) ∷ c)

-- a hexadecimal digit in upper case
abbrev pub upper : ℕ → ℕ
upper d = cond (ltb d 10) (48 + d) (55 + d)

-- % and two digits
abbrev pub escape : ℕ → List ℕ
escape b = 37 ∷ upper (b / 16) ∷ upper (b % 16) ∷ []

-- a byte as it is shown: itself from 33 to 126, unless it is %
abbrev pub glyphs : ℕ → List ℕ
glyphs b = cond (ltb b 33) (escape b) (cond (ltb 126 b) (escape b) (cond (eqb b 37) (escape b) (b ∷ [])))

-- a code as it is shown
unfoldable pub shown : List ℕ → List ℕ
shown [] = []
shown (b ∷ c) = glyphs b ++ shown c

-- the size bytes of w from i write one byte
pub record Writes (w : List ℕ) (i : ℕ) (g : Glyph) : Type 0 where
  pub within : i + g.size ≤ length w
  pub some : 1 ≤ g.size
  pub spells : Spells (take g.size (drop i w)) (g.byte ∷ [])

-- the byte that w writes at i, or no code's text stands there
abbrev pub One : List ℕ → ℕ → Option Glyph → Type 0
One w i (Some g) = Writes w i g
One w i None = (c : List ℕ) → Spells (drop i w) c → ⊥

-- w writes the first n bytes of k
pub record Coded (w k : List ℕ) (n : ℕ) : Type 0 where
  pub within : n ≤ length k
  pub spells : Spells w (take n k)

-- a word is read as a code at the start of the output, or it is none that fits there
abbrev pub Decodes : List ℕ → List ℕ → Option ℕ → Type 0
Decodes w out (Some n) = Coded w out n
Decodes w out None = (c : List ℕ) → length c ≤ length out → Spells w c → ⊥
