-- What a search answers, and what is read of a row. Assumes nothing.
use Rattle.std.specs.Prelude.{ℕ, ◌≤◌, ◌<◌, ◌≡◌, List, ◌++◌, length, drop, Result, Ok, Err}
use Rattle.page.specs.Page.{Slotted, count, code, Belongs}

-- the slot that holds c, or the slot where c belongs
abbrev pub FoundIn : List ℕ → List ℕ → Result ℕ ℕ → Type 0
FoundIn p c (Ok i) = (i < count p) × (code p i ≡ c)
FoundIn p c (Err i) = Belongs p i c

-- p has slot i, and the output has room for any code
pub record CodeAsked (p : List ℕ) (i : ℕ) (out : List ℕ) : Type 0 where
  pub page : Slotted p
  pub within : i < count p
  pub room : 64 ≤ length out

-- slot i's code at the start of the output, the bytes after it left; its length
pub record CodeOut (p : List ℕ) (i : ℕ) (out : List ℕ) (r : ℕ) (out' : List ℕ) : Type 0 where
  pub size : r ≡ length (code p i)
  pub wrote : out' ≡ code p i ++ drop (length (code p i)) out
