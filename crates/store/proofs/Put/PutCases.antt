-- PUT of a new code as the code finds it: refusals 6 and 7 from the page that holds the hash and the number of free pages, then one of three writes.
-- Assumes nothing.
use mathlib.Core.Path.{◌≡◌, refl, sym, ap, ◌∙◌}
use mathlib.Core.List.{List, [], ◌∷◌, map}
use mathlib.Core.Logic.{inr, ◌↔◌}
use mathlib.Core.Option.{some}
use Prim.Native.Nat.{ℕ, suc, ◌+◌, ◌^◌, ◌≤◌, ◌<◌}
use native.Mathlib.Omega.{arith}
use lib.ListN.{length, get_or, set, length-map}
use Rattle.page.specs.Page.{Record}
use Rattle.partition.specs.Bits.{top}
use Rattle.partition.specs.declared.Shape.{Shape}
use Rattle.partition.specs.Partition.{Row, need, needs, rows_of, IsBucket, Fine, front, buckets}
use Rattle.partition.specs.Listing.{insert, in_order}
use Rattle.partition.proofs.Bits.{top_step}
use Rattle.partition.proofs.Tree.{pfx}
use Rattle.partition.proofs.Path.{path_under, path_le, fit_above}
use Rattle.partition.proofs.Rows.{load, load_mono, load_on, rows_on}
use Rattle.partition.proofs.Laws.{Shallowest, reordered, add_appears, left_joined}
use Rattle.partition.proofs.Store.{fine_add, home, not_deeper, put_unheld, count_fits, count_new, count_splits}
use Rattle.partition.proofs.Below.{load_same}
use Rattle.store.specs.Pages.{Page, free, bucket, as_row, rows_in}
use Rattle.store.specs.Moves.{pick, find, is_free, holds, bucket_of, record_at, pack_from, packed, added, written, new_bucket, put_on, put_new, frees}
use Rattle.store.proofs.Showing.Shows.{prefix_on, Holding, Shows}
use Rattle.store.proofs.Showing.Shown.{paged, find_held, find_only, bucket_found}
use Rattle.store.proofs.Showing.Holder.{its_bucket, its_rows, its_needs}
use Rattle.store.proofs.Paging.Records.{fits_true, fits_false}
use Rattle.store.proofs.Showing.Rooms.{rooms}
use Rattle.store.proofs.Put.EveryStep.{Roomy, every_step, packed_used}

module _ (S : Shape) (h : List ℕ → ℕ) (small : (c : List ℕ) → h c < 2 ^ 32) (rows : List Row) (gs : List Page) (s : Shows S h rows gs) (r : Row) where
  abbrev x : ℕ
  x = h r.code

  -- the rows that refusal 6 adds up
  abbrev pub deep_rows : List Row → List Row
  deep_rows qs = rows_of h qs S.deepest (top S.deepest (h r.code))

  -- ---- the page i holds the hash

  module _ (i k : ℕ) (rs : List Record) (e : Holding gs i k rs) (held : prefix_on h k rs ≡ top k (h r.code)) where
    abbrev mine : IsBucket S h rows k (top k x)
    mine = its_bucket S h rows gs s x i k rs e held

    abbrev all_need : needs (r ∷ map as_row rs) ≡ need r + needs (rows_of h rows k (top k x))
    all_need = its_needs S h rows gs s x i k rs e held r

    low : k ≤ S.deepest
    low = not_deeper S h rows s.fine k (top k x) mine

    put_here : put_new S h gs r ≡ put_on S h gs r i (bucket k rs)
    unfolding put_new
    put_here = ap (λ n. put_on S h gs r n (get_or gs n free)) (find_only S h rows gs s x i k rs e held) ∙ ap (put_on S h gs r i) e

    -- it fits: neither refusal, and the record goes in
    module _ (fits : needs (r ∷ map as_row rs) ≤ S.capacity) where
      pub fits_six : needs (deep_rows (r ∷ rows)) ≤ S.capacity
      fits_six =
          omega (arith, path_le (λ n. top n x) (top_step x) S.capacity (load h (r ∷ rows)) (load_mono h (r ∷ rows)) k S.deepest low, load_on h r rows k, all_need)

      pub fits_seven : length (buckets S h (r ∷ rows)) ≤ length gs
      fits_seven = omega (arith, count_fits S h small r rows k mine (omega (arith, all_need)), rooms S h small rows s.fine gs s)

      pub put_fits_is : put_new S h gs r ≡ set gs i (bucket k (added S rs r))
      put_fits_is = put_here ∙ ap (λ b. pick b (set gs i (bucket k (added S rs r))) (written gs i (map (packed h (r ∷ map as_row rs)) (buckets S h (r ∷ map as_row rs)))))
          (fits_true S rs r fits)

    -- refusal 6 from the page's rows
    pub here_six : needs (deep_rows (r ∷ rows)) ≡ needs (deep_rows (r ∷ map as_row rs))
    here_six = sym (load_same S h small r rows k (map as_row rs) (its_rows S h rows gs s x i k rs e held) S.deepest (top S.deepest x)
        (path_under (λ n. top n x) (top_step x) k S.deepest low))

    -- it does not fit: refusal 7 by the new buckets and the free pages
    module _ (heavy : S.capacity < needs (r ∷ map as_row rs)) where
      pub splits_seven : (length (buckets S h (r ∷ rows)) ≤ length gs) ↔ (length (buckets S h (r ∷ map as_row rs)) ≤ suc (frees gs))
      splits_seven =
          let a : length (buckets S h (r ∷ rows)) + 1 ≡ length (buckets S h rows) + length (buckets S h (r ∷ map as_row rs)) =
          count_splits S h small r rows k low mine (omega (arith, all_need)) ∙ ap (λ ps. length (buckets S h rows) + length ps) (sym (reordered S h (front r (its_rows S h rows gs s x i k rs e held)))) in
          let b = rooms S h small rows s.fine gs s in
          (λ l. omega arith, λ l. omega arith)

      -- so where refusal 7 is not given, a page is free at every step of the split
      pub splits_room : length (buckets S h (r ∷ rows)) ≤ length gs → Roomy gs i (map (packed h (r ∷ map as_row rs)) (buckets S h (r ∷ map as_row rs)))
      splits_room l =
          every_step gs i k rs e (map (packed h (r ∷ map as_row rs)) (buckets S h (r ∷ map as_row rs))) (packed_used h (r ∷ map as_row rs) (buckets S h (r ∷ map as_row rs)))
          (omega (arith, splits_seven.0 l, length-map (buckets S h (r ∷ map as_row rs)) (packed h (r ∷ map as_row rs))))

      pub put_splits_is : put_new S h gs r ≡ written gs i (map (packed h (r ∷ map as_row rs)) (buckets S h (r ∷ map as_row rs)))
      put_splits_is = put_here ∙ ap (λ b. pick b (set gs i (bucket k (added S rs r))) (written gs i (map (packed h (r ∷ map as_row rs)) (buckets S h (r ∷ map as_row rs)))))
          (fits_false S rs r heavy)

  -- ---- no page holds the hash

  module _ (off : (i k : ℕ) (rs : List Record) → Holding gs i k rs → top k (h r.code) ≡ prefix_on h k rs → ⊥) where
    nowhere : (k : ℕ) → IsBucket S h rows k (top k x) → ⊥
    nowhere k b = let w = paged S h rows gs s k (top k x) b in off w.0 k w.1 w.2 (sym w.3)

    at : (j : ℕ) × (j ≤ S.deepest) × Shallowest S h rows x j
    at = home S h rows s.fine x

    bare : load h rows at.0 (top at.0 x) ≡ 0
    bare = let n : ¬ (0 < load h rows at.0 (top at.0 x)) = λ p. nowhere at.0 (left_joined S h r rows at.0 at.2 p) in omega arith

    -- refusal 6 has the new row alone
    pub unheld_six : needs (deep_rows (r ∷ rows)) ≡ need r
    unheld_six =
        omega (arith, load_on h r rows S.deepest, bare, path_le (λ n. top n x) (top_step x) S.capacity (load h rows) (load_mono h rows) at.0 S.deepest at.1)

    module _ (fits : need r ≤ S.capacity) where
      -- refusal 7: one page
      pub unheld_seven : (length (buckets S h (r ∷ rows)) ≤ length gs) ↔ (0 < frees gs)
      unheld_seven =
          let a = count_new S h small r rows (put_unheld S h small r rows s.fine fits (λ k _. nowhere k)) in
          let b = rooms S h small rows s.fine gs s in
          (λ l. omega arith, λ l. omega arith)

      fine : Fine S h (r ∷ rows)
      fine = fine_add S h r rows s.fine (omega (arith, unheld_six))

      named : bucket_of x (buckets S h (r ∷ rows_in gs)) ≡ some (pfx at.0 (top at.0 x))
      named =
          ap (bucket_of x) (reordered S h (front r s.same))
          ∙ bucket_found S h small (r ∷ rows) fine x at.0 ((add_appears S h r rows at.0 at.2 bare fits at.0 (top at.0 x)).1 (inr (refl, refl)))

      alone : (j : ℕ) → packed h (r ∷ []) (pfx j (top j x)) ≡ bucket j (record_at 8 r ∷ [])
      unfolding packed rows_of in_order insert pack_from
      alone j = ap (λ l. bucket j (pack_from 8 (in_order l))) (rows_on h r [] j)

      -- the record alone in the lowest free page, at the depth of the shallowest prefix of the hash that has no row
      pub put_unheld_is : (j : ℕ) → needs (rows_of h rows j (top j (h r.code))) ≡ 0 → ((i : ℕ) → i < j → 0 < needs (rows_of h rows i (top i (h r.code))))
          → put_new S h gs r ≡ set gs (find is_free gs) (bucket j (record_at 8 r ∷ []))
      unfolding put_new
      put_unheld_is j z above =
          ap (put_on S h gs r (find (holds h x) gs)) (empty (get_or gs (find (holds h x) gs) free) refl) ∙ ap (new_bucket h gs r) named
          ∙ ap (λ n. new_bucket h gs r (some (pfx n (top n x)))) depth ∙ ap (set gs (find is_free gs)) (alone j)
        where
          empty : (g : Page) → get_or gs (find (holds h x) gs) free ≡ g → g ≡ free
          empty free e = refl
          empty (bucket k rs) e = absurd (off (find (holds h x) gs) k rs e (sym (find_held S h rows gs s x k rs e)))

          depth : at.0 ≡ j
          depth =
              let a : ¬ (j < at.0) = λ l. omega (arith, fit_above (λ n. top n x) (top_step x) S.capacity (load h rows) (load_mono h rows) at.0 j at.2 l) in
              let b : ¬ (at.0 < j) = λ l. omega (arith, above at.0 l, bare) in
              omega arith
