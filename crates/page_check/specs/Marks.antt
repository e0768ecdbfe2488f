-- The marks on places, by which the bytes of codes are told from theirs. Assumes nothing.
use Rattle.std.specs.Prelude.{ℕ, ◌+◌, ◌≤◌, ◌<◌, ◌≡◌, ◌⊎◌, List, length}
use Rattle.std.specs.Int.Bits.{bit_or}
use Rattle.ground.specs.Lists.{byte}
use Rattle.words.specs.Folds.{fold_byte}
use Rattle.page.specs.Page.{off}

-- byte k is of record i's place
pub record OfPlace (p : List ℕ) (i k : ℕ) : Type 0 where
  pub from : off p i ≤ k
  pub to : k < off p i + 8

-- t has 255 at each byte of the first n records' places, and zeros elsewhere
pub record Marked (p : List ℕ) (n : ℕ) (t : List ℕ) : Type 0 where
  pub places : (i k : ℕ) → i < n → OfPlace p i k → byte t k ≡ 255
  pub only : (k : ℕ) → (byte t k ≡ 0) ⊎ ((i : ℕ) × (i < n) × OfPlace p i k)

-- no byte from a up to b, or-ed with its mark, is a capital
abbrev pub NoCapital : List ℕ → List ℕ → ℕ → ℕ → Type 0
NoCapital p t a b = (k : ℕ) → a ≤ k → k < b → fold_byte (bit_or (byte p k) (byte t k)) ≡ bit_or (byte p k) (byte t k)

-- the h bytes of p from 8 on, and those from d on; t is as long
pub record Halves (p t : List ℕ) (d h : ℕ) : Type 0 where
  pub first : 8 + h ≤ length p
  pub second : d + h ≤ length p
  pub same : length t ≡ length p
