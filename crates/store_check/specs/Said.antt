-- The page size that a store says, and what the test of its page 0 asks for. Assumes nothing.
use Rattle.std.specs.Prelude.{◌≡◌, List, ℕ, ◌≤◌, length, Result, Ok, Err}
use Rattle.partition.specs.declared.Shape.{Shape}
use Rattle.partition.specs.Sizes.{Sized, shape_of}
use Rattle.store.specs.Pages.{size, pages}
use Rattle.store.specs.Accepted.{GoodLength}
use Rattle.store.specs.Tables.{Refusal1}
use Rattle.store.specs.declared.Refusal.{Refusal}
use Rattle.store.specs.declared.Refusal.TheVariants.{BadLength}

-- the length is refused, or it is right for the size that the number at 20 gives
abbrev pub SaidShape : List ℕ → Result Shape Refusal → Type 0
SaidShape s (Err r) = (r ≡ BadLength) × Refusal1 (shape_of s) s
SaidShape s (Ok z) = (z ≡ shape_of s) × GoodLength z s

-- a store of n pages, and an offset behind the size's number in page 0
pub record HeadAsked (S : Shape) (s : List ℕ) (n zeros : ℕ) : Type 0 where
  pub sized : Sized S
  pub many : n ≡ pages S s
  pub room : size S ≤ length s
  pub behind : 24 ≤ zeros
  pub within : zeros ≤ 80
