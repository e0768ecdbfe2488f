-- REMOVE as the code finds it: from the depth of the code's page up to the shallowest prefix whose other rows fit; then one of three writes.
-- Assumes nothing.
use borrow.Author.Tests.{eq-eqb, ne_eqb}
use mathlib.Core.Path.{◌≡◌, refl, ap, subst, ◌∙◌}
use mathlib.Core.List.{List, ◌∷◌, map}
use mathlib.Core.Logic.{◌≢◌}
use mathlib.Core.Option.{some}
use Prim.Native.Nat.{ℕ, ◌+◌, ◌^◌, ◌≤◌, ◌<◌}
use native.Mathlib.Omega.{arith}
use lib.Dec.{eqb}
use lib.ListN.{length, get_or, set}
use Rattle.partition.specs.Bits.{top}
use Rattle.partition.specs.declared.Shape.{Shape}
use Rattle.partition.specs.Partition.{Row, need, needs, rows_of, IsBucket, Fine, Reordered, buckets}
use Rattle.partition.specs.Listing.{without, place_of}
use Rattle.partition.proofs.Laws.{Shallowest, load_reordered, reordered}
use Rattle.partition.proofs.Maps.{cut, cut_same, cut_front, once_remove}
use Rattle.partition.proofs.Reorders.{turned}
use Rattle.partition.proofs.Rows.{load_on}
use Rattle.partition.proofs.Sorted.{same_map, bucket_same}
use Rattle.partition.proofs.Store.{fine_drop, fine_reordered}
use Rattle.partition.proofs.Tree.{pfx}
use Rattle.store.specs.Pages.{Page, free, bucket, depth_on, rows_in}
use Rattle.store.specs.Moves.{pick, find, within, holds, bucket_of, pack_from, packed, cleared_on, join_page, joined, remove_on, removed}
use Rattle.store.proofs.Showing.Shows.{Shows}
use Rattle.store.proofs.Showing.Known.{Known, known}
use Rattle.store.proofs.Showing.BucketOf.{bucket_of_some, bucket_of_none}

module _ (S : Shape) (h : List ℕ → ℕ) (rows : List Row) (gs : List Page) (c old : List ℕ) (s : Shows S h rows gs) (e : place_of rows c ≡ some old) where
  abbrev x : ℕ
  x = h c

  abbrev W : List Row
  W = without (λ q. q.code) c rows

  front : Reordered rows (record { code = c; place = old } ∷ W)
  front = cut_front c old rows s.once e

  -- the page of the code
  pub its : Known S h rows gs s c old
  its = known S h rows gs s c old e

  its_bucket : IsBucket S h rows its.depth (top its.depth x)
  its_bucket = subst (IsBucket S h rows its.depth) its.begins (s.page (find (holds h x) gs) its.depth its.records its.there).is

  -- what the rows of a prefix of the hash need with the row and without it
  pub needs_left : (i : ℕ) → needs (rows_of h rows i (top i x)) ≡ 12 + length c + needs (rows_of h W i (top i x))
  unfolding need
  needs_left i = load_reordered S h front i (top i x) ∙ load_on h (record { code = c; place = old }) W i

  -- at the page's depth they fit
  pub fits_here : needs (rows_of h W its.depth (top its.depth x)) ≤ S.capacity
  fits_here = omega (arith, needs_left its.depth, its_bucket.fit)

  left_fine : Fine S h W
  left_fine = fine_drop S h (record { code = c; place = old }) W (fine_reordered S h front s.fine)

  module _ (small : (c : List ℕ) → h c < 2 ^ 32) (j : ℕ) (f : Shallowest S h W x j) where
    same_buckets : buckets S h (cut c (rows_in gs)) ≡ buckets S h W
    same_buckets = reordered S h (cut_same c s.same)

    abbrev here : ℕ
    here = find (holds h x) gs

    -- nothing left: the page is cleared
    pub removed_clears : needs (rows_of h W j (top j x)) ≡ 0 → removed S h gs c ≡ set gs here free
    unfolding removed
    removed_clears z = ap (λ o. remove_on h gs c (cut c (rows_in gs)) here o) (ap (bucket_of x) same_buckets ∙ (bucket_of_none S h W x j f small left_fine).1 z)

    module _ (p : 0 < needs (rows_of h W j (top j x))) where
      removed_some : removed S h gs c ≡ remove_on h gs c (cut c (rows_in gs)) here (some (pfx j (top j x)))
      unfolding removed
      removed_some = ap (λ o. remove_on h gs c (cut c (rows_in gs)) here o) (ap (bucket_of x) same_buckets ∙ (bucket_of_some S h W x j f small left_fine (pfx j (top j x))).1 (refl, p))

      -- rows left at the page's own depth: the record goes
      pub removed_loses : j ≡ its.depth → removed S h gs c ≡ set gs here (cleared_on c (get_or gs here free))
      removed_loses d =
          removed_some ∙ ap (λ b. pick b (set gs here (cleared_on c (get_or gs here free))) (joined h gs (cut c (rows_in gs)) (pfx j (top j x))))
          (ap (λ g. eqb j (depth_on g)) its.there ∙ eq-eqb j its.depth d)

      -- rows left at a smaller depth: joined
      pub removed_joins : j ≢ its.depth → removed S h gs c ≡ joined h gs W (pfx j (top j x))
      unfolding packed
      removed_joins d =
          removed_some ∙ ap (λ b. pick b (set gs here (cleared_on c (get_or gs here free))) (joined h gs (cut c (rows_in gs)) (pfx j (top j x))))
          (ap (λ g. eqb j (depth_on g)) its.there ∙ ne_eqb j its.depth d)
          ∙ ap (λ l. set (map (λ g. pick (within h j (top j x) g) free g) gs) (join_page h gs (pfx j (top j x))) (bucket j (pack_from 8 l)))
          (bucket_same h (cut c (rows_in gs)) W (cut_same c s.same) (once_remove c (rows_in gs) (same_map (turned s.same) s.once).0) j (top j x))
