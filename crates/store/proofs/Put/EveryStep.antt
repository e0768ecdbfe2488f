-- THE ROOM TEST: where the page that is split and the free pages are as many as the buckets to be written, a page is free at every step that takes one.
-- Assumes nothing.
use mathlib.Core.Path.{◌≡◌, refl, sym, ap}
use mathlib.Core.List.{List, [], ◌∷◌, map}
use Prim.Native.Nat.{ℕ, zero, suc, ◌≤◌, ◌<◌}
use native.Mathlib.Omega.{arith}
use lib.ListN.{length, get_or, set, take}
use Rattle.page.specs.Page.{Record}
use Rattle.partition.specs.Partition.{Row, Prefix}
use Rattle.store.specs.Pages.{Page, free, bucket}
use Rattle.store.specs.Moves.{find, is_free, packed, written, frees}
use Rattle.store.proofs.Showing.Shows.{Holding}
use Rattle.store.proofs.Showing.Shown.{free_not}
use Rattle.store.proofs.Showing.Rooms.{find_free}

-- a bucket on a free page leaves one free page less
pub fill_frees : (gs : List Page) (i l : ℕ) (qs : List Record) → i < length gs → get_or gs i free ≡ free → suc (frees (set gs i (bucket l qs))) ≡ frees gs
fill_frees [] i l qs b e = absurd (omega arith)
fill_frees (g ∷ gs) zero l qs b e = ap (λ x. frees (x ∷ gs)) (sym e)
fill_frees (free ∷ gs) (suc i) l qs b e = ap suc (fill_frees gs i l qs (omega arith) e)
fill_frees (bucket k rs ∷ gs) (suc i) l qs b e = fill_frees gs i l qs (omega arith) e

-- a bucket on a page in use leaves as many
pub over_frees : (gs : List Page) (i k : ℕ) (rs : List Record) → Holding gs i k rs → (l : ℕ) (qs : List Record) → frees (set gs i (bucket l qs)) ≡ frees gs
over_frees [] i k rs e l qs = absurd (free_not e)
over_frees (g ∷ gs) zero k rs e l qs = ap (λ x. frees (x ∷ gs)) (sym e)
over_frees (free ∷ gs) (suc i) k rs e l qs = ap suc (over_frees gs i k rs e l qs)
over_frees (bucket j ts ∷ gs) (suc i) k rs e l qs = over_frees gs i k rs e l qs

-- pages for the buckets ns, the first of them in page i: there are as many, and at every step, m of them written and one to come, a page is free
pub record Roomy (gs : List Page) (i : ℕ) (ns : List Page) : Type 0 where
  pub many : length ns ≤ suc (frees gs)
  pub step : (m : ℕ) → 0 < m → m < length ns → 0 < frees (written gs i (take m ns))

-- each takes a free page
free_steps : (ns gs : List Page) → frees ns ≡ 0 → length ns ≤ frees gs → (m : ℕ) → m < length ns → 0 < frees (written gs (find is_free gs) (take m ns))
unfolding written
free_steps [] gs u l m b = absurd (omega arith)
free_steps (free ∷ ns) gs u l m b = absurd (omega arith)
free_steps (bucket k rs ∷ ns) gs u l zero b = omega arith
free_steps (bucket k rs ∷ ns) gs u l (suc m) b =
    let f = find_free gs (omega arith) in
    free_steps ns (set gs (find is_free gs) (bucket k rs)) u (omega (arith, fill_frees gs (find is_free gs) k rs f.0 f.1)) m (omega arith)

-- the first goes over page i, which is in use
later_steps : (gs : List Page) (i k : ℕ) (rs : List Record) → Holding gs i k rs → (ns : List Page) → frees ns ≡ 0 → length ns ≤ suc (frees gs)
    → (m : ℕ) → 0 < m → m < length ns → 0 < frees (written gs i (take m ns))
unfolding written
later_steps gs i k rs e [] u l m a b = absurd (omega arith)
later_steps gs i k rs e (free ∷ ns) u l m a b = absurd (omega arith)
later_steps gs i k rs e (bucket j qs ∷ ns) u l zero a b = absurd (omega arith)
later_steps gs i k rs e (bucket j qs ∷ ns) u l (suc m) a b = free_steps ns (set gs i (bucket j qs)) u (omega (arith, over_frees gs i k rs e j qs)) m (omega arith)

-- after the room test: page i is split, so it is in use, and ns are buckets, none of them a free page
pub every_step : (gs : List Page) (i k : ℕ) (rs : List Record) → Holding gs i k rs → (ns : List Page) → frees ns ≡ 0 → length ns ≤ suc (frees gs) → Roomy gs i ns
every_step gs i k rs e ns u l = record { many = l; step = later_steps gs i k rs e ns u l }

-- buckets written packed are none
pub packed_used : (h : List ℕ → ℕ) (rs : List Row) (ps : List Prefix) → frees (map (packed h rs) ps) ≡ 0
unfolding packed
packed_used h rs [] = refl
packed_used h rs (p ∷ ps) = packed_used h rs ps
