-- One lot, two spellings: the code that a given one becomes. Assumes nothing.
use Rattle.std.specs.Prelude.{◌≡◌, Bool, true, false, List, map, ℕ, ◌+◌, leb}

-- by whether a byte is at least 0x41, and at most 0x5A
abbrev pub lowered : Bool → Bool → ℕ → ℕ
lowered true true b = b + 0x20
lowered true false b = b
lowered false m b = b

-- bytes 0x41 to 0x5A become 0x61 to 0x7A
unfoldable pub fold_byte : ℕ → ℕ
fold_byte b = lowered (leb 0x41 b) (leb b 0x5A) b

-- in any code given
unfoldable pub fold : List ℕ → List ℕ
unfolding fold_byte
fold c = map fold_byte c

-- a code without a capital
abbrev pub Folded : List ℕ → Type 0
Folded c = fold c ≡ c
