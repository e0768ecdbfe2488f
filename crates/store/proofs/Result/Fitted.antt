-- Pages whose records can lie in a page: those of an accepted store, and those that a put or a remove leaves. Assumes nothing.
use borrow.Author.Tests.{leb-true}
use mathlib.Core.Path.{◌≡◌, refl, sym, subst, ◌∙◌}
use mathlib.Core.Bool.{Bool, true, false}
use mathlib.Core.List.Memᴰ
use mathlib.Core.List.{List, [], ◌∷◌, map, Memᴰ}
use mathlib.Core.Logic.{⊎_elim}
use mathlib.Core.Option.{Option, some, none}
use Prim.Native.Nat.{ℕ, zero, suc, ◌+◌, ◌-◌, ◌≤◌, ◌<◌}
use native.Mathlib.Omega.{arith}
use lib.Dec.{leb, eqb}
use lib.ListN.{length, get_or, set, length-set, length-map}
use Rattle.ground.specs.Lists.{tab}
use Rattle.ground.proofs.Tables.{length_tab}
use Rattle.ground.proofs.Tests.{none_some}
use Rattle.partition.specs.Bits.{top}
use Rattle.partition.specs.declared.Shape.{Shape}
use Rattle.partition.specs.Partition.{Row, Prefix, keep, need, needs, rows_of, buckets, or_else}
use Rattle.partition.specs.Listing.{without, in_order}
use Rattle.partition.proofs.Members.{mem_reordered, in_order_reordered}
use Rattle.partition.proofs.Reorders.{needs_same}
use Rattle.partition.proofs.Rising.{without_member}
use Rattle.partition.proofs.Rows.{listed}
use Rattle.partition.proofs.Sum.{prefix_row}
use Rattle.page.specs.Page.{rows}
use Rattle.store.specs.Pages.{size, pages, page, Page, free, bucket, read, contents, as_row, depth_on, rows_in}
use Rattle.store.specs.Accepted.{Stands, unused, used, Accepted}
use Rattle.store.specs.Moves.{pick, find, is_free, within, holds, bucket_of, packed, added, written, overwrite_on, overwritten, new_bucket, put_on, put_new, cleared_on, joined, remove_on, removed}
use Rattle.store.specs.Demands.{Sized, Hash}
use Rattle.store.proofs.Result.Together.{Stores, Fit, rows_store, slotted_fit, without_fit, over_fit, pack_fit, added_fit}
use Rattle.store.proofs.Accepted.Rules.{opened}
use Rattle.store.proofs.Showing.Shown.{row_on}
use Rattle.store.proofs.Accepted.Unique.{read_zero, read_bucket, page_long}
use Rattle.store.proofs.Put.Written.{length_written}

abbrev pub FitPage : ℕ → Page → Type 0
FitPage z free = Unit {0}
FitPage z (bucket k rs) = Fit z rs

abbrev pub Each : ℕ → List Page → Type 0
Each z [] = Unit {0}
Each z (g ∷ gs) = FitPage z g × Each z gs

-- n pages of z bytes
pub record Fits (z n : ℕ) (gs : List Page) : Type 0 where
  pub each : Each z gs
  pub many : length gs ≡ n

abbrev AllStore : List Row → Type 0
AllStore rs = (r : Row) → Memᴰ r rs → Stores r

-- ---- lists of pages

module _ (z : ℕ) where
  set_each : (gs : List Page) (i : ℕ) (g : Page) → Each z gs → FitPage z g → Each z (set gs i g)
  set_each [] i g a b = tt
  set_each (x ∷ gs) zero g a b = (b, a.1)
  set_each (x ∷ gs) (suc i) g a b = (a.0, set_each gs i g a.1 b)

  map_each : (f : Page → Page) → ((g : Page) → FitPage z g → FitPage z (f g)) → (gs : List Page) → Each z gs → Each z (map f gs)
  map_each f k [] a = tt
  map_each f k (g ∷ gs) a = (k g a.0, map_each f k gs a.1)

  all_each : (f : Prefix → Page) (ps : List Prefix) → ((p : Prefix) → Memᴰ p ps → FitPage z (f p)) → Each z (map f ps)
  all_each f [] k = tt
  all_each f (p ∷ ps) k = (k p (Memᴰ.head refl), all_each f ps (λ q m. k q (Memᴰ.tail m)))

  tab_each : (f : ℕ → Page) (n : ℕ) → ((i : ℕ) → i < n → FitPage z (f i)) → Each z (tab f n)
  unfolding tab
  tab_each f zero k = tt
  tab_each f (suc n) k = (k zero (omega arith), tab_each (λ i. f (suc i)) n (λ i l. k (suc i) (omega arith)))

  written_each : (gs : List Page) (i : ℕ) (ns : List Page) → Each z gs → Each z ns → Each z (written gs i ns)
  unfolding written
  written_each gs i [] a b = a
  written_each gs i (n ∷ ns) a b = written_each (set gs i n) (find is_free (set gs i n)) ns (set_each gs i n a b.0) b.1

  pub page_fits : (gs : List Page) (i : ℕ) → Each z gs → FitPage z (get_or gs i free)
  page_fits [] i a = tt
  page_fits (x ∷ gs) zero a = a.0
  page_fits (x ∷ gs) (suc i) a = page_fits gs i a.1

  rows_stored : (gs : List Page) → Each z gs → AllStore (rows_in gs)
  rows_stored gs a r m = let w = row_on gs r m in rows_store {z = z} (subst (FitPage z) w.3 (page_fits gs w.0 a)) r w.4

  module _ (n : ℕ) where
    fits_set : (gs : List Page) (i : ℕ) (g : Page) → Fits z n gs → FitPage z g → Fits z n (set gs i g)
    fits_set gs i g a b = record { each = set_each gs i g a.each b; many = length-set gs i g ∙ a.many }

    fits_map : (f : Page → Page) → ((g : Page) → FitPage z g → FitPage z (f g)) → (gs : List Page) → Fits z n gs → Fits z n (map f gs)
    fits_map f k gs a = record { each = map_each f k gs a.each; many = length-map gs f ∙ a.many }

    fits_written : (gs : List Page) (i : ℕ) (ns : List Page) → Fits z n gs → Each z ns → Fits z n (written gs i ns)
    fits_written gs i ns a b = record { each = written_each gs i ns a.each b; many = length_written gs i ns ∙ a.many }

-- ---- an accepted store

pub accepted_fits : (S : Shape) (h : List ℕ → ℕ) (s : List ℕ) → Accepted S h s → Fits (size S) (pages S s - 2) (contents S s)
unfolding contents
accepted_fits S h s a = record {
  each = tab_each (size S) (λ i. read (page S s (i + 2))) (pages S s - 2) (λ i l. let b : i + 2 < pages S s = omega arith in go (i + 2) b ((opened S h s a).stands (i + 2) (omega arith) b));
  many = length_tab (λ i. read (page S s (i + 2))) (pages S s - 2);
}
  where
    go : (p : ℕ) → p < pages S s → Stands S h s p → FitPage (size S) (read (page S s p))
    go p b (unused x _) = subst (FitPage (size S)) (sym (read_zero (page S s p) x)) tt
    go p b (used x _ _) = subst (FitPage (size S)) (sym (read_bucket h (page S s p) x)) (subst (λ n. Fit n (rows (page S s p))) (page_long S s p b) (slotted_fit (page S s p) x.rules.rules))

-- ---- put and remove

found_in : (x : ℕ) (ps : List Prefix) (p : Prefix) → bucket_of x ps ≡ some p → Memᴰ p ps
unfolding bucket_of
found_in x [] p e = absurd (none_some refl e)
found_in x (q ∷ ps) p e = go (eqb (top q.bits x) q.value) e (found_in x ps p)
  where
    go : (b : Bool) → or_else b q (bucket_of x ps) ≡ some p → (bucket_of x ps ≡ some p → Memᴰ p ps) → Memᴰ p (q ∷ ps)
    go true f rest = let y : p ≡ q = cc in Memᴰ.head y
    go false f rest = Memᴰ.tail (rest f)

-- the rows of a prefix need no more than all
pub prefix_needs : (h : List ℕ → ℕ) (rs : List Row) (k v : ℕ) → needs (rows_of h rs k v) ≤ needs rs
unfolding needs rows_of
prefix_needs h [] k v = omega arith
prefix_needs h (r ∷ rs) k v = go (eqb (top k (h r.code)) v) (prefix_needs h rs k v)
  where
    go : (t : Bool) → needs (rows_of h rs k v) ≤ needs rs → needs (keep t r (rows_of h rs k v)) ≤ need r + needs rs
    go true l = omega arith
    go false l = omega arith

module _ (S : Shape) (h : List ℕ → ℕ) where
  packed_fit : (rs : List Row) (p : Prefix) → AllStore rs → needs (rows_of h rs p.bits p.value) ≤ S.capacity → FitPage (size S) (packed h rs p)
  unfolding packed
  packed_fit rs p f l =
      let own : List Row = rows_of h rs p.bits p.value in
      pack_fit (size S) (in_order own) (λ r m. f r (prefix_row h rs p.bits p.value r (mem_reordered (in_order_reordered own) m)).0) (omega (arith, needs_same (in_order_reordered own)))

  module _ (hash : Hash h) where
    bucket_fit : (rs : List Row) → AllStore rs → (p : Prefix) → Memᴰ p (buckets S h rs) → FitPage (size S) (packed h rs p)
    bucket_fit rs f p m = packed_fit rs p f ((listed S h hash rs p.bits p.value).0 m).0.fit

    with_row : (r : Row) (rs : List Row) → Stores r → AllStore rs → AllStore (r ∷ rs)
    with_row r rs s f q m = ⊎_elim (λ e. subst Stores (sym e) s) (f q) (Memᴰ.cases_cons m)

    module _ (n : ℕ) (gs : List Page) (a : Fits (size S) n gs) where
      pub over_fits : (r : Row) → Stores r → Fits (size S) n (overwritten gs r)
      unfolding overwritten
      over_fits r s = fits_map (size S) n (overwrite_on r) one gs a
        where
          one : (g : Page) → FitPage (size S) g → FitPage (size S) (overwrite_on r g)
          one free b = tt
          one (bucket k rs) b = over_fit r s b

      -- a row needs no more than a page has
      alone : (r : Row) → Stores r → 76 ≤ S.capacity → (k v : ℕ) → needs (rows_of h (r ∷ []) k v) ≤ S.capacity
      unfolding needs need
      alone r s l k v = omega (arith, prefix_needs h (r ∷ []) k v, s.most)

      pub put_fits : (r : Row) → Stores r → Sized S → Fits (size S) n (put_new S h gs r)
      unfolding put_new
      put_fits r s sized = go (get_or gs i free) (page_fits (size S) gs i a.each)
        where
          i : ℕ
          i = find (holds h (h r.code)) gs

          new : (o : Option Prefix) → Fits (size S) n (new_bucket h gs r o)
          new none = a
          new (some p) = fits_set (size S) n gs (find is_free gs) (packed h (r ∷ []) p) a
              (packed_fit (r ∷ []) p (with_row r [] s (λ q m. absurd (Memᴰ.not-nil m))) (alone r s sized.least p.bits p.value))

          go : (g : Page) → FitPage (size S) g → Fits (size S) n (put_on S h gs r i g)
          go free b = new (bucket_of (h r.code) (buckets S h (r ∷ rows_in gs)))
          go (bucket k rs) b = or_split (leb (needs (r ∷ map as_row rs)) S.capacity) refl
            where
              own : List Row
              own = r ∷ map as_row rs

              or_split : (t : Bool) → leb (needs own) S.capacity ≡ t → Fits (size S) n (pick t (set gs i (bucket k (added S rs r))) (written gs i (map (packed h own) (buckets S h own))))
              or_split true e = fits_set (size S) n gs i (bucket k (added S rs r)) a (added_fit S r b s (leb-true _ _ e))
              or_split false e = fits_written (size S) n gs i (map (packed h own) (buckets S h own)) a
                  (all_each (size S) (packed h own) (buckets S h own) (bucket_fit own (with_row r (map as_row rs) s (rows_store b))))

      pub remove_fits : (c : List ℕ) → Fits (size S) n (removed S h gs c)
      unfolding removed
      remove_fits c = go (bucket_of (h c) (buckets S h left)) refl
        where
          left : List Row
          left = without (λ q. q.code) c (rows_in gs)

          stored : AllStore left
          stored r m = rows_stored (size S) gs a.each r (without_member (λ q. q.code) c (rows_in gs) r m)

          i : ℕ
          i = find (holds h (h c)) gs

          cleared : (g : Page) → FitPage (size S) g → FitPage (size S) (cleared_on c g)
          cleared free b = tt
          cleared (bucket k rs) b = without_fit c b

          emptied : (t : Bool) (g : Page) → FitPage (size S) g → FitPage (size S) (pick t free g)
          emptied true g b = tt
          emptied false g b = b

          join : (p : Prefix) → Memᴰ p (buckets S h left) → Fits (size S) n (joined h gs left p)
          join p m = fits_set (size S) n (map (λ g. pick (within h p.bits p.value g) free g) gs) (find (within h p.bits p.value) gs) (packed h left p)
              (fits_map (size S) n (λ g. pick (within h p.bits p.value g) free g) (λ g b. emptied (within h p.bits p.value g) g b) gs a) (bucket_fit left stored p m)

          or_join : (t : Bool) (p : Prefix) → Memᴰ p (buckets S h left) → Fits (size S) n (pick t (set gs i (cleared_on c (get_or gs i free))) (joined h gs left p))
          or_join true p m = fits_set (size S) n gs i (cleared_on c (get_or gs i free)) a (cleared (get_or gs i free) (page_fits (size S) gs i a.each))
          or_join false p m = join p m

          go : (o : Option Prefix) → bucket_of (h c) (buckets S h left) ≡ o → Fits (size S) n (remove_on h gs c left i o)
          go none e = fits_set (size S) n gs i free a tt
          go (some p) e = or_join (eqb p.bits (depth_on (get_or gs i free))) p (found_in (h c) (buckets S h left) p e)
