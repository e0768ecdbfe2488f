-- An accepted store is what is worked out afresh from its own rows; so the store after any history is, as soon as put and remove leave the right rows. Assumes nothing.
use mathlib.Core.Path.{◌≡◌, sym, ap, ◌∙◌}
use mathlib.Core.List.{List}
use mathlib.Core.Option.{some}
use Prim.Native.Nat.{ℕ, suc, ◌+◌, ◌-◌, ◌^◌, ◌≤◌, ◌<◌}
use native.Mathlib.Omega.{arith}
use native.Mathlib.Nat.{le_trans, pow-le-pow_right}
use lib.ListN.{get_or}
use Rattle.ground.specs.Lists.{tab}
use Rattle.ground.proofs.Tables.{tab_same}
use Rattle.partition.specs.declared.Shape.{Shape}
use Rattle.partition.specs.Partition.{Prefix, buckets, depth_of, entry}
use Rattle.store.specs.Pages.{pages, dir_depth, entry_at, free, contents, rows_held}
use Rattle.store.specs.Demands.{Sized, Hash, seen, named, directory, seen_afresh, afresh, AfreshAlways, PutIsMap, RemoveIsMap, SameRefusals}
use Rattle.store.proofs.Accepted.Rules.{Opened, opened}
use Rattle.store.proofs.Showing.Shows.{Shows}
use Rattle.store.proofs.Showing.Shown.{within_pages}
use Rattle.store.proofs.Accepted.Unique.{held}
use Rattle.store.proofs.Showing.Showing.{pages_held, accepted_shows}
use Rattle.store.proofs.Accepted.Named.{Entry, nothing, names, deep_small, shown_depth, entry_page, entry_free, accepted_entry}
use Rattle.store.proofs.Demands.Plan.{AcceptedIsAfresh, PutRows, OverRows, RemoveRows, afresh_always, put_is_map, remove_is_map}
use Rattle.store.proofs.Remove.MoveRows.{over_shown}
use Rattle.store.proofs.Demands.Same.{same_refusals}

module _ (S : Shape) (h : List ℕ → ℕ) (sized : Sized S) (hash : Hash h) (s : List ℕ) (T : Opened S h s) (w : Shows S h (rows_held S s) (contents S s)) where
  abbrev bs : List Prefix
  bs = buckets S h (rows_held S s)

  depth_afresh : dir_depth s ≡ depth_of bs
  depth_afresh = T.deepest ∙ shown_depth S h hash (rows_held S s) (contents S s) w

  seen_at : (p i : ℕ) → p ≡ i + 2 → i + 2 < pages S s → named S s p ≡ seen (get_or (contents S s) i free)
  seen_at p i e l =
      let q : p ≡ suc (suc i) = omega arith in
      let r : suc (suc i) - 2 ≡ i = omega arith in
      ap (named S s) q ∙ ap seen (sym (held S s (suc (suc i)) (omega arith) (omega arith)) ∙ ap (λ n. get_or (contents S s) n free) r)

  -- what entry e names is what it names afresh
  entry_afresh : (e : ℕ) → e < 2 ^ dir_depth s → named S s (entry_at S s e) ≡ seen_afresh h (rows_held S s) (entry bs (dir_depth s) e)
  entry_afresh e l =
      let m : 2 ^ dir_depth s ≤ 2 ^ S.deepest = pow-le-pow_right (omega arith) T.page0.depth in
      go (accepted_entry S h sized hash s T e (omega (arith, m, sized.deep)))
    where
      go : Entry S h s (contents S s) (dir_depth s) (pages S s - 2) e → named S s (entry_at S s e) ≡ seen_afresh h (rows_held S s) (entry bs (dir_depth s) e)
      go (nothing z f) =
          ap (named S s) z ∙ ap (seen_afresh h (rows_held S s)) (sym (entry_free S h hash (rows_held S s) (contents S s) w (dir_depth s) e l
          (λ i k rs g c. f i k rs (omega (arith, within_pages (contents S s) i k rs g, pages_held S s)) g c)))
      go (names i k rs b p g c) =
          seen_at (entry_at S s e) i p (omega arith) ∙ ap seen g ∙ ap (λ r. some (k, r)) (w.page i k rs g).ordered
          ∙ ap (seen_afresh h (rows_held S s)) (sym (entry_page S h hash (rows_held S s) (contents S s) w (dir_depth s) e depth_afresh (le_trans T.page0.depth (deep_small S sized)) i k rs g c))

  directory_afresh : directory S s ≡ afresh S h (rows_held S s)
  directory_afresh =
      tab_same _ _ (2 ^ dir_depth s) entry_afresh
      ∙ ap (λ d. tab (λ i. seen_afresh h (rows_held S s) (entry bs d i)) (2 ^ d)) depth_afresh

module _ (S : Shape) (h : List ℕ → ℕ) (sized : Sized S) (hash : Hash h) where
  -- AN ACCEPTED STORE IS AFRESH
  pub accepted_afresh : AcceptedIsAfresh S h
  accepted_afresh s a =
      let w = accepted_shows S h sized hash s a in
      let T = opened S h s a in
      (w.once, depth_afresh S h sized hash s T w, directory_afresh S h sized hash s T w)

  pub overwritten_rows : OverRows S h
  overwritten_rows s r old a e = (over_shown S h sized hash s r old a e).same

  -- what is left: the rows after a put of a new code, and after a remove
  module _ (puts : PutRows S h) (removes : RemoveRows S h) where
    pub always_afresh : AfreshAlways S h
    always_afresh = afresh_always S h sized puts overwritten_rows removes accepted_afresh

    pub put_map : PutIsMap S h
    put_map = put_is_map S h sized accepted_afresh puts overwritten_rows removes

    pub remove_map : RemoveIsMap S h
    remove_map = remove_is_map S h sized accepted_afresh puts overwritten_rows removes

    pub next_put_same : SameRefusals S h
    next_put_same = same_refusals S h always_afresh
