-- What is asked of an accepted store: a code, or a row. Over any page size. Assumes nothing.
use Rattle.std.specs.Prelude.{◌≡◌, List, ℕ, ◌≤◌, length}
use Rattle.words.specs.Codes.{GoodCode}
use Rattle.partition.specs.declared.Shape.{Shape}
use Rattle.store.specs.Accepted.{Accepted}
use Rattle.store.specs.Demands.{Sized}

-- c is a code of 1 to 64 bytes, s an accepted store
pub record GivenAsked (S : Shape) (h : List ℕ → ℕ) (s c : List ℕ) : Type 0 where
  pub sized : Sized S
  pub accepted : Accepted S h s
  pub good : GoodCode c

-- s is an accepted store, x the hash of the code c
pub record Sought (S : Shape) (h : List ℕ → ℕ) (s c : List ℕ) (x : ℕ) : Type 0 where
  pub sized : Sized S
  pub accepted : Accepted S h s
  pub hash : x ≡ h c

-- s is an accepted store, and the output has room for any code
pub record RowSought (S : Shape) (h : List ℕ → ℕ) (s out : List ℕ) : Type 0 where
  pub sized : Sized S
  pub accepted : Accepted S h s
  pub room : 64 ≤ length out
