-- A row that a page can be given. Assumes nothing.
use Rattle.std.specs.Prelude.{◌≡◌, List, ℕ, length}
use Rattle.words.specs.Codes.{GoodCode}
use Rattle.page.specs.Page.{Slotted}

-- a bucket page of 1,024 bytes, and a code of 1 to 64 bytes
pub record Addable (p c : List ℕ) : Type 0 where
  pub page : Slotted p
  pub long : length p ≡ 1024
  pub good : GoodCode c
