-- What is told of rows: of the listing, and of one page. Assumes nothing.
use Rattle.std.specs.Prelude.{ℕ, ◌≡◌, List, length, Option, IfSome}
use Rattle.std.proofs.Math.Option.{some}
use Rattle.std.proofs.Math.ListN.{get_elem?}
use Rattle.hash.specs.Fnv.{fnv}
use Rattle.partition.specs.declared.Shape.{Shape}
use Rattle.partition.specs.Partition.{Row}
use Rattle.partition.specs.Sizes.{size, shape_for}
use Rattle.store.specs.Accepted.{Accepted}
use Rattle.store.specs.Demands.{Sized}
use Rattle.store.specs.Pages.{read, rows_on, rows_held}
use Rattle.store.specs.Tables.{Out, giving, PageKeeps}

-- all n rows were told; none stands for one that could not be written
abbrev pub AllTold : ℕ → Option ℕ → Type 0
AllTold n r = IfSome r (λ m. m ≡ n)

-- an accepted store of n rows
pub record Listable (S : Shape) (s : List ℕ) (n : ℕ) : Type 0 where
  pub sized : Sized S
  pub accepted : Accepted S fnv s
  pub rows : n ≡ length (rows_held S s)

-- the answer a is the row in slot n of the page g, whose code begins the buffer k
pub record SlotGiven (g : List ℕ) (n : ℕ) (a : Out) (k : List ℕ) : Type 0 where
  pub row : Row
  pub there : get_elem? (rows_on (read g)) n ≡ some row
  pub buffer : List ℕ
  pub gives : (a, k) ≡ giving row buffer
  pub long : length k ≡ 64

-- a page that inspection does not refuse, of n rows
pub record Shown (g : List ℕ) (n : ℕ) : Type 0 where
  pub whole : length g ≡ size (shape_for (length g))
  pub keeps : PageKeeps (shape_for (length g)) fnv g
  pub rows : n ≡ length (rows_on (read g))
