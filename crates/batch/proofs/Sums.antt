-- The sum of a run, element by element. Assumes nothing.
use mathlib.Core.Path.{◌≡◌, sym, ap, ◌∙◌}
use mathlib.Core.List.{List}
use Prim.Native.Nat.{ℕ, ◌+◌, ◌<◌}
use native.Mathlib.Numerals.{add-one}
use lib.ListN.{length, get_or, drop}
use lib.Seq.{drop-cons}
use Rattle.batch.specs.Batch.{sum}

-- what the elements from i on add up to
pub sum_from : (l : List ℕ) (i : ℕ) → i < length l → sum (drop i l) ≡ get_or l i 0 + sum (drop (i + 1) l)
sum_from l i b = ap sum (drop-cons l i 0 b) ∙ ap (λ k. get_or l i 0 + sum (drop k l)) (sym (add-one i))
