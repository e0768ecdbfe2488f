-- The counts of buckets by local depth, as pages change, and the largest depth read off them. Assumes nothing.
use mathlib.Core.Path.{◌≡◌, refl, sym, ap, subst, ◌∙◌}
use mathlib.Core.List.{List, [], ◌∷◌, map, flat_map}
use mathlib.Core.Logic.{◌⊎◌, inl, inr}
use Prim.Native.Nat.{ℕ, zero, suc, ◌+◌, ◌≤◌, ◌<◌, max}
use native.Mathlib.Omega.{arith}
use native.Mathlib.Nat.{le-max_left, le-max_right, max-eq_left, max-eq_right}
use lib.ListN.{length, get_or, set, length-append, length-map}
use Rattle.ground.proofs.Sides.{side}
use Rattle.page.specs.Page.{Record}
use Rattle.partition.specs.Partition.{Row}
use Rattle.store.specs.Pages.{Page, free, bucket, as_row, rows_on, rows_in, deepest_in}
use Rattle.store.specs.Moves.{find, is_free, frees, written, place_on, overwrite_on, overwritten}
use Rattle.store.specs.Counts.{one_at, buckets_at}
use Rattle.store.proofs.Counts.Ones.{Ones, ones}
use Rattle.store.proofs.Showing.Shows.{Holding}
use Rattle.store.proofs.Showing.Rooms.{find_free}
use Rattle.store.proofs.Put.EveryStep.{fill_frees, over_frees}

-- a page written anew: what it held is no longer counted, what it holds is
pub set_count : (k : ℕ) (gs : List Page) (i : ℕ) (g : Page) → i < length gs → buckets_at k (set gs i g) + one_at k (get_or gs i free) ≡ buckets_at k gs + one_at k g
unfolding buckets_at
set_count k [] i g l = absurd (omega arith)
set_count k (x ∷ gs) zero g l = omega arith
set_count k (x ∷ gs) (suc i) g l = omega (arith, set_count k gs i g (omega arith))

-- a page of the same depth leaves them
pub same_depth_count : (k : ℕ) (gs : List Page) (i d : ℕ) (rs qs : List Record) → i < length gs → get_or gs i free ≡ bucket d rs → buckets_at k (set gs i (bucket d qs)) ≡ buckets_at k gs
same_depth_count k gs i d rs qs l e = omega (arith, set_count k gs i (bucket d qs) l, ap (one_at k) e)

over_one : (k : ℕ) (r : Row) (g : Page) → one_at k (overwrite_on r g) ≡ one_at k g
over_one k r free = refl
over_one k r (bucket d rs) = refl

-- places that are overwritten leave every count
pub over_count : (k : ℕ) (gs : List Page) (r : Row) → buckets_at k (overwritten gs r) ≡ buckets_at k gs
unfolding buckets_at overwritten
over_count k [] r = refl
over_count k (g ∷ gs) r = omega (arith, over_one k r g, over_count k gs r)

over_rows_on : (r : Row) (g : Page) → length (rows_on (overwrite_on r g)) ≡ length (rows_on g)
over_rows_on r free = refl
over_rows_on r (bucket d rs) = length-map (map (place_on r) rs) as_row ∙ length-map rs (place_on r) ∙ sym (length-map rs as_row)

pub over_rows : (gs : List Page) (r : Row) → length (rows_in (overwritten gs r)) ≡ length (rows_in gs)
unfolding overwritten rows_in flat_map
over_rows [] r = refl
over_rows (g ∷ gs) r =
    omega (arith, length-append (rows_on (overwrite_on r g)) (rows_in (overwritten gs r)), length-append (rows_on g) (rows_in gs), over_rows_on r g, over_rows gs r)

-- ---- the largest depth, read off the counts

low_by : (k d n m x : ℕ) → Ones d k n → (0 < m → k ≤ x) → 0 < n + m → k ≤ max d x
low_by k d n m x (inl w) f l = omega (arith, w.0, le-max_left d x)
low_by k d n m x (inr w) f l = omega (arith, f (omega (arith, w.1)), le-max_right d x)

-- a depth that is counted is not above the largest
pub counted_low : (k : ℕ) (gs : List Page) → 0 < buckets_at k gs → k ≤ deepest_in gs
unfolding buckets_at deepest_in
counted_low k [] l = absurd (omega arith)
counted_low k (free ∷ gs) l = omega (arith, counted_low k gs (omega arith), le-max_right 0 (deepest_in gs))
counted_low k (bucket d rs ∷ gs) l = low_by k d (one_at k (bucket d rs)) (buckets_at k gs) (deepest_in gs) (ones k d rs) (λ m. counted_low k gs m) l

self_one : (d n : ℕ) → Ones d d n → n ≡ 1
self_one d n (inl w) = w.1
self_one d n (inr w) = absurd (w.0 refl)

-- a bucket of depth d and those after it count at m
abbrev More : ℕ → ℕ → List Record → List Page → Type 0
More m d rs gs = 0 < one_at m (bucket d rs) + buckets_at m gs

-- the largest depth is counted, or it is 0
pub deepest_counted : (gs : List Page) → (deepest_in gs ≡ 0) ⊎ (0 < buckets_at (deepest_in gs) gs)
unfolding buckets_at deepest_in
deepest_counted [] = inl refl
deepest_counted (free ∷ gs) = go (deepest_counted gs)
  where
    same : max 0 (deepest_in gs) ≡ deepest_in gs
    same = max-eq_right (omega arith)

    go : (deepest_in gs ≡ 0) ⊎ (0 < buckets_at (deepest_in gs) gs) → (max 0 (deepest_in gs) ≡ 0) ⊎ (0 < 0 + buckets_at (max 0 (deepest_in gs)) gs)
    go (inl w) = inl (same ∙ w)
    go (inr w) = inr (subst (λ m. 0 < 0 + buckets_at m gs) (sym same) (omega (arith, w)))
deepest_counted (bucket d rs ∷ gs) = go (side (deepest_in gs) d) (deepest_counted gs)
  where
    own : More d d rs gs
    own = omega (arith, self_one d (one_at d (bucket d rs)) (ones d d rs))

    go : (deepest_in gs < d) ⊎ (d ≤ deepest_in gs) → (deepest_in gs ≡ 0) ⊎ (0 < buckets_at (deepest_in gs) gs) → (max d (deepest_in gs) ≡ 0) ⊎ More (max d (deepest_in gs)) d rs gs
    go (inl l) w = inr (subst (λ m. More m d rs gs) (sym (max-eq_left (omega (arith, l)))) own)
    go (inr l) (inl w) = inl (max-eq_right l ∙ w)
    go (inr l) (inr w) = inr (subst (λ m. More m d rs gs) (sym (max-eq_right l)) (omega (arith, w)))

-- the largest depth whose count is not 0, or 0 where all are, is the largest depth
pub deepest_by_counts : (gs : List Page) (d : ℕ) → (d ≡ 0) ⊎ (0 < buckets_at d gs) → ((k : ℕ) → d < k → buckets_at k gs ≡ 0) → deepest_in gs ≡ d
deepest_by_counts gs d at above = omega (arith, low at, high (deepest_counted gs) (side d (deepest_in gs)))
  where
    low : (d ≡ 0) ⊎ (0 < buckets_at d gs) → d ≤ deepest_in gs
    low (inl e) = omega (arith, e)
    low (inr l) = counted_low d gs l

    high : (deepest_in gs ≡ 0) ⊎ (0 < buckets_at (deepest_in gs) gs) → (d < deepest_in gs) ⊎ (deepest_in gs ≤ d) → deepest_in gs ≤ d
    high w (inr l) = l
    high (inl e) (inl l) = absurd (omega (arith, e, l))
    high (inr m) (inl l) = absurd (omega (arith, m, above (deepest_in gs) l))

-- ---- a split

-- buckets written to free pages, one after another
free_count : (k : ℕ) (ns gs : List Page) → frees ns ≡ 0 → length ns ≤ frees gs → buckets_at k (written gs (find is_free gs) ns) ≡ buckets_at k gs + buckets_at k ns
unfolding buckets_at written
free_count k [] gs u l = omega arith
free_count k (free ∷ ns) gs u l = absurd (omega arith)
free_count k (bucket d rs ∷ ns) gs u l =
    let f = find_free gs (omega arith) in
    let i = find is_free gs in
    omega (arith, set_count k gs i (bucket d rs) f.0, ap (one_at k) f.1, free_count k ns (set gs i (bucket d rs)) u (omega (arith, fill_frees gs i d rs f.0 f.1)))

-- a page split: its bucket is no longer counted, those written are
pub split_count : (k : ℕ) (gs : List Page) (i d : ℕ) (rs : List Record) → Holding gs i d rs → i < length gs → (ns : List Page) → 0 < length ns → frees ns ≡ 0 → length ns ≤ suc (frees gs)
    → buckets_at k (written gs i ns) + one_at k (bucket d rs) ≡ buckets_at k gs + buckets_at k ns
unfolding buckets_at written
split_count k gs i d rs e b [] s u l = absurd (omega arith)
split_count k gs i d rs e b (free ∷ ns) s u l = absurd (omega arith)
split_count k gs i d rs e b (bucket j qs ∷ ns) s u l =
    omega (arith, set_count k gs i (bucket j qs) b, ap (one_at k) e, free_count k ns (set gs i (bucket j qs)) u (omega (arith, over_frees gs i d rs e j qs)))
