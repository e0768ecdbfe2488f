-- Bytes that are zero. Assumes nothing.
use Rattle.std.specs.Prelude.{◌≡◌, List, ℕ, ◌+◌, ◌-◌, ◌%◌, ◌≤◌, ◌<◌, length}
use Rattle.ground.specs.Lists.{byte}

-- all zero
abbrev pub Zero : List ℕ → Type 0
Zero g = (k : ℕ) → byte g k ≡ 0

-- zero from a up to b, without b
abbrev pub ZeroFrom : List ℕ → ℕ → ℕ → Type 0
ZeroFrom g a b = (k : ℕ) → a ≤ k → k < b → byte g k ≡ 0

-- from a up to b are blocks of 1,024 zeros, and from b on is none
pub record ZeroRun (g : List ℕ) (a b : ℕ) : Type 0 where
  pub from : a ≤ b
  pub to : b ≤ length g
  pub blocks : (b - a) % 1024 ≡ 0
  pub zero : ZeroFrom g a b
  pub last : b + 1024 ≤ length g → ZeroFrom g b (b + 1024) → ⊥
