-- What inspection says of a page's slots, as a line inspect tells them. Assumes nothing.
use Prim.Native.Nat.{ℕ, zero, suc, ◌<◌}
use mathlib.Core.Path.{◌≡◌, refl}
use mathlib.Core.List.{List, [], ◌∷◌}
use mathlib.Core.Logic.{inl, inr}
use mathlib.Core.Option.{some}
use native.Mathlib.Omega.{arith}
use lib.ListN.{length, get_elem?}
use Rattle.ground.specs.Ladder.{Answers}
use Rattle.hash.specs.Fnv.{fnv}
use Rattle.partition.specs.Partition.{Row}
use Rattle.partition.specs.Sizes.{shape_for}
use Rattle.store.specs.Pages.{read, rows_on}
use Rattle.store.specs.Tables.{Out, inspect_table}
use Rattle.telling.specs.Told.{SlotGiven, Shown}

-- a place below the number of rows has a row
some_at : (l : List Row) (n : ℕ) → n < length l → (r : Row) × (get_elem? l n ≡ some r)
some_at [] n h = absurd (omega arith)
some_at (x ∷ l) zero h = (x, refl)
some_at (x ∷ l) (suc n) h = some_at l n (omega arith)

-- below the number of rows inspection gives the row of that slot
pub slot_given : (g : List ℕ) (n i : ℕ) (buffer after : List ℕ) (a : Out) → Shown g n → i < n → length buffer ≡ 64 → length after ≡ 64
    → Answers (inspect_table (shape_for (length g)) fnv g i buffer) (a, after) → SlotGiven g i a after
unfolding inspect_table
slot_given g n i buffer after a p l b k (inl x) = absurd (x.1.0 p.whole)
slot_given g n i buffer after a p l b k (inr (_, inl x)) = absurd (let h : length buffer < 64 = x.1.0 in omega arith)
slot_given g n i buffer after a p l b k (inr (_, inr (_, inl x))) = absurd (x.1.0 p.keeps)
slot_given g n i buffer after a p l b k (inr (_, inr (_, inr (_, (_, inl (r, (e, q))))))) = record { row = r; there = e; buffer = buffer; gives = q; long = k }
slot_given g n i buffer after a p l b k (inr (_, inr (_, inr (_, (_, inr x))))) =
    let h : i < length (rows_on (read g)) = omega (arith, p.rows) in
    let r = some_at (rows_on (read g)) i h in
    absurd (x.0 r.0 r.1)
