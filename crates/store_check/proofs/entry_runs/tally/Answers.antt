use Rattle.std.proofs.Common.{◌≡◌, refl, ℕ, ◌+◌, ◌≤◌, ◌<◌, List, length, get_or, take, Fits, w32, arith, subst, sym}
use Rattle.std.proofs.lemmas.List.{get_or-take, length-take-le}
use Rattle.store_check.proofs.Heaps.{heaped_none, heaped_more, heap_most}
use Rattle.store_check.proofs.entry_runs.tally.Goals as goal

pub loop-e-init : goal.loop-e-init
loop-e-init c = heaped_none (λ i. get_or c.args.dir.now i 0) (λ i. 1) _ _ refl c.requires.none

-- an entry, and how many before it are the same
module _ (c : goal.After-slice_known-1) where
  abbrev dir : List ℕ
  dir = c.args.dir.now

  abbrev at : ℕ
  at = c.loop-e.e-index

  short : at < c.args.m
  short = omega (arith, length-take-le c.args.m dir c.requires.inside, c.loop-e-test.true)

  same : get_or (take c.args.m dir) at 0 ≡ get_or dir at 0
  same = get_or-take c.args.m dir at 0 short

  named : get_or dir at 0 < length c.args.counts.now
  named = c.requires.below at (omega arith) short

  few : get_or c.loop-e.counts (get_or dir at 0) 0 ≤ at
  few = omega (arith, c.loop-e.invariant.each (get_or dir at 0) named, heap_most (λ i. get_or dir i 0) (λ i. 1) at 1 (λ i _. omega arith) (get_or dir at 0))

pub overflow_add-counts : goal.overflow_add-counts
overflow_add-counts c = subst (λ e. Fits w32 (get_or c.loop-e.counts e 0 + 1)) (sym (same c)) (record { fits = omega (arith, few c, short c, c.requires.few) })

pub loop-e-preserved : goal.loop-e-preserved
loop-e-preserved c = heaped_more (λ i. get_or (dir c) i 0) (λ i. 1) c.loop-e.invariant (same c) (omega (arith, named c, same c)) refl
