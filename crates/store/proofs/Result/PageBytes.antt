-- Pages that show rows, and whose records can lie in a page, have bytes: each is what some page of bytes holds. Assumes nothing.
use mathlib.Core.Path.{◌≡◌, refl, sym, ap, subst, ◌∙◌}
use mathlib.Core.List.Memᴰ
use mathlib.Core.List.{List, [], ◌∷◌, map, Memᴰ}
use mathlib.Core.Logic.{inl, inr, ⊎_elim}
use Prim.Native.Nat.{ℕ, zero, suc, ◌+◌, ◌*◌, ◌≤◌, ◌<◌}
use native.Mathlib.Omega.{arith}
use lib.ListN.{length, get_or, replicate, length-replicate}
use Rattle.ground.specs.Lists.{tab, total}
use Rattle.ground.proofs.Sides.{side}
use Rattle.ground.proofs.Tables.{tab_map}
use Rattle.words.specs.Codes.{Before}
use Rattle.words.proofs.Bytes.{Small, small_zeros}
use Rattle.words.proofs.Orders.{irrefl}
use Rattle.partition.specs.declared.Shape.{Shape}
use Rattle.partition.specs.Partition.{Row, need, needs, rows_of}
use Rattle.partition.proofs.Members.{in_order_reordered}
use Rattle.partition.proofs.Reorders.{needs_same}
use Rattle.partition.proofs.Rising.{tab_in}
use Rattle.partition.specs.Listing.{Rising}
use Rattle.partition.proofs.Sorted.{by_code, order_rising, some_once}
use Rattle.partition.proofs.Store.{not_deeper}
use Rattle.page.specs.Page.{Record}
use Rattle.store.specs.Pages.{size, Page, free, bucket, read, as_row}
use Rattle.store.specs.Moves.{frontier_of}
use Rattle.store.specs.Demands.{Sized}
use Rattle.store.proofs.Accepted.Accepting.{Whole}
use Rattle.store.proofs.Result.Encoded.{Lay, encode, encode_long, encode_deep, encode_slotted, encode_rows, encode_some}
use Rattle.store.proofs.Result.Fitted.{FitPage, Each, page_fits}
use Rattle.store.proofs.Result.Together.{Fit}
use Rattle.store.proofs.Accepted.Named.{deep_small}
use Rattle.store.proofs.Paging.PageTies.{zeros, read_cleared, read_slotted}
use Rattle.store.proofs.Showing.Shows.{prefix_on, Holding, OnPage, Shows}
use Rattle.store.proofs.Paging.Slotwise.{needs_tab}

-- a list is the table of its elements
pub tab_list : {A : Type 0} (d : A) (l : List A) → tab (λ i. get_or l i d) (length l) ≡ l
unfolding tab
tab_list d [] = refl
tab_list d (x ∷ l) = ap (λ t. x ∷ t) (tab_list d l)

-- b are the bytes of a page of z bytes that reads as g
pub record Holds (z : ℕ) (g : Page) (b : List ℕ) : Type 0 where
  pub long : length b ≡ z
  pub small : Small b
  pub whole : Whole b
  pub reads : read b ≡ g

abbrev nothing : Record
nothing = record { start = 0; place = []; code = [] }

-- the record in slot i
abbrev slot : List Record → ℕ → Record
slot rs i = get_or rs i nothing

in_list : (rs : List Record) (i : ℕ) → i < length rs → Memᴰ (slot rs i) rs
in_list rs i l = subst (λ t. Memᴰ (slot rs i) t) (tab_list nothing rs) (tab_in (slot rs) (length rs) i l)

rising_at : (rs : List Record) → Rising by_code (map as_row rs) → (i j : ℕ) → i < j → j < length rs → Before (slot rs i).code (slot rs j).code
rising_at [] u i j l m = absurd (omega arith)
rising_at (r ∷ rs) u i zero l m = absurd (omega arith)
rising_at (r ∷ rs) u zero (suc j) l m = u.0 (as_row (slot rs j)) (Memᴰ.map as_row (in_list rs j (omega arith)))
rising_at (r ∷ rs) u (suc i) (suc j) l m = rising_at rs u.1 i j (omega arith) (omega arith)

module _ (S : Shape) (h : List ℕ → ℕ) (sized : Sized S) (shown : List Row) (gs : List Page) (w : Shows S h shown gs) (fits : Each (size S) gs) where
  -- ---- a bucket

  module _ (i k : ℕ) (rs : List Record) (e : Holding gs i k rs) where
    on : OnPage S h shown k rs
    on = w.page i k rs e

    own : List Row
    own = rows_of h shown k (prefix_on h k rs)

    fit : Fit (size S) rs
    fit = subst (FitPage (size S)) e (page_fits (size S) gs i fits)

    rising : Rising by_code (map as_row rs)
    unfolding own
    rising = subst (Rising by_code) (sym on.ordered) (order_rising own (some_once h k (prefix_on h k rs) shown w.once))

    needed : total (λ i. 12 + length (slot rs i).code) (length rs) ≤ S.capacity
    unfolding own need
    needed =
        let t = sym (needs_tab (λ i. as_row (slot rs i)) (length rs)) ∙ ap needs (sym (tab_map as_row (slot rs) (length rs)) ∙ ap (map as_row) (tab_list nothing rs) ∙ on.ordered) in
        omega (arith, t, needs_same (in_order_reordered own), on.is.fit)

    lay : Lay (size S) k (length rs) (slot rs)
    lay = record {
      least = omega (arith, sized.least);
      most = sized.most;
      deep = omega (arith, not_deeper S h shown w.fine k (prefix_on h k rs) on.is, deep_small S sized);
      after = λ i l. fit.after (slot rs i) (in_list rs i l);
      good = λ i l. fit.good (slot rs i) (in_list rs i l);
      room = subst (λ t. frontier_of t + 4 * length rs ≤ size S) (sym (tab_list nothing rs)) fit.room;
      apart = λ i j x l m a b.
          let q = fit.apart (slot rs i) (slot rs j) (in_list rs i l) (in_list rs j m) x a b in
          ⊎_elim (λ lt. absurd (irrefl (slot rs j).code (subst (λ c. Before c (slot rs j).code) q (rising_at rs rising i j lt m))))
          (λ ge. ⊎_elim (λ lt. absurd (irrefl (slot rs j).code (subst (λ c. Before (slot rs j).code c) q (rising_at rs rising j i lt l)))) (λ ge₂. omega arith) (side j i)) (side i j);
      ascending = rising_at rs rising;
      fit = omega (arith, needed);
    }

    bucket_bytes : Holds (size S) (bucket k rs) (encode (size S) k (length rs) (slot rs))
    bucket_bytes =
        let g : List ℕ = encode (size S) k (length rs) (slot rs) in
        let P = encode_slotted (size S) k (length rs) (slot rs) lay in
        record {
          long = encode_long (size S) k (length rs) (slot rs) lay;
          small = record { at = P.bytes };
          whole = inr (record { rules = P; some = encode_some (size S) k (length rs) (slot rs) lay on.some });
          reads = read_slotted g P ∙ λ t. bucket (encode_deep (size S) k (length rs) (slot rs) lay t) ((encode_rows (size S) k (length rs) (slot rs) lay ∙ tab_list nothing rs) t);
        }

  free_bytes : Holds (size S) free (replicate (size S) 0)
  free_bytes = record { long = length-replicate {A = ℕ} (size S) 0; small = small_zeros (size S); whole = inl (zeros (size S)); reads = read_cleared (size S) }

  -- THE BYTES OF EACH PAGE
  pub page_bytes : (i : ℕ) → (b : List ℕ) × Holds (size S) (get_or gs i free) b
  page_bytes i = go (get_or gs i free) refl
    where
      go : (g : Page) → get_or gs i free ≡ g → (b : List ℕ) × Holds (size S) g b
      go free e = (replicate (size S) 0, free_bytes)
      go (bucket k rs) e = (encode (size S) k (length rs) (slot rs), bucket_bytes i k rs e)
