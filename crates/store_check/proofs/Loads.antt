-- What the rows of a prefix need, added up page by page. Assumes nothing.
use mathlib.Core.Path.{◌≡◌, refl, sym, ap, ◌∙◌}
use mathlib.Core.Bool.{Bool, true, false}
use mathlib.Core.List.{List, [], map, flat_map}
use mathlib.Core.Logic.{⊎_elim}
use Prim.Native.Nat.{ℕ, zero, suc, ◌+◌, ◌-◌, ◌≤◌, ◌<◌}
use native.Mathlib.Omega.{arith}
use lib.Dec.{eqb}
use borrow.Author.Tests.{eq-eqb, ne_eqb}
use Rattle.ground.specs.Lists.{byte, tab, total}
use Rattle.ground.proofs.Sides.{side, same}
use Rattle.ground.proofs.Tables.{total_same}
use Rattle.page.specs.Page.{depth, count, code, rows}
use Rattle.partition.specs.Bits.{top}
use Rattle.partition.specs.declared.Shape.{Shape}
use Rattle.partition.specs.Partition.{needs, rows_of}
use Rattle.partition.proofs.Laws.{share_fewer}
use Rattle.partition.proofs.Reorders.{needs_append}
use Rattle.partition.proofs.Pages.{rows_append, rows_every, rows_none}
use Rattle.store.specs.Pages.{pages, page, dir_depth, entry_at, Page, read, as_row, rows_on, rows_in, contents, rows_held}
use Rattle.store.specs.Accepted.{Stands, unused, used}
use Rattle.store.specs.Moves.{pick}
use Rattle.store.specs.Demands.{Sized, Hash}
use Rattle.store.proofs.Accepted.Unique.{read_zero, read_bucket}
use Rattle.store.proofs.Accepted.Owner.{called, shared}
use Rattle.store.proofs.Paging.PageTies.{slot_of}

-- the pages' needs add up
load_pages : (h : List ℕ → ℕ) (f : ℕ → Page) (n j v : ℕ) → needs (rows_of h (rows_in (tab f n)) j v) ≡ total (λ i. needs (rows_of h (rows_on (f i)) j v)) n
unfolding tab total rows_in flat_map needs rows_of
load_pages h f zero j v = refl
load_pages h f (suc n) j v =
    ap needs (rows_append h (rows_on (f zero)) (rows_in (tab (λ i. f (suc i)) n)) j v)
    ∙ needs_append (rows_of h (rows_on (f zero)) j v) (rows_of h (rows_in (tab (λ i. f (suc i)) n)) j v)
    ∙ ap (λ m. needs (rows_of h (rows_on (f zero)) j v) + m) (load_pages h (λ i. f (suc i)) n j v)

-- a bucket's rows, by its slots
module _ (h : List ℕ → ℕ) (g : List ℕ) (j v : ℕ) where
  all_on : ((i : ℕ) → i < count g → top j (h (code g i)) ≡ v) → rows_of h (map as_row (rows g)) j v ≡ map as_row (rows g)
  all_on f = rows_every h (map as_row (rows g)) j v (λ r m.
      let y = slot_of g r m in
      ap (λ q. top j (h q.code)) y.2 ∙ f y.0 y.1)

  all_off : ((i : ℕ) → i < count g → top j (h (code g i)) ≡ v → ⊥) → rows_of h (map as_row (rows g)) j v ≡ []
  all_off f = rows_none h (map as_row (rows g)) j v (λ r m e.
      let y = slot_of g r m in
      f y.0 y.1 (sym (ap (λ q. top j (h q.code)) y.2) ∙ e))

pub pick_none : (b : Bool) → ◌≡◌ {A = ℕ} (pick b 0 0) 0
pick_none true = refl
pick_none false = refl

module _ (S : Shape) (h : List ℕ → ℕ) (sized : Sized S) (hash : Hash h) (s : List ℕ) (deep : dir_depth s ≤ S.deepest) where
  -- what page q holds of the prefix one bit shorter than page p's: all of its rows, or none
  module _ (p j : ℕ) (P : Stands S h s p) (one : byte (page S s p) 0 ≡ 1) (d : depth (page S s p) ≡ suc j) where
    abbrev first : ℕ → ℕ
    first q = h (code (page S s q) 0)

    -- no row of a shallower page has the prefix: the page would be p
    apart : (q i : ℕ) → Stands S h s q → byte (page S s q) 0 ≡ 1 → depth (page S s q) < j → i < count (page S s q) → top j (h (code (page S s q) i)) ≡ top j (first p) → ⊥
    apart q i Q oq l m e =
        let a : top (depth (page S s q)) (h (code (page S s q) i)) ≡ top (depth (page S s q)) (first p) = share_fewer (h (code (page S s q) i)) (first p) (depth (page S s q)) j (omega arith) e in
        let b : top (depth (page S s q)) (first p) ≡ top (depth (page S s q)) (first q) = sym a ∙ shared S h sized hash s deep q i Q oq m in
        let x : entry_at S s (top (dir_depth s) (first p)) ≡ q = called S h sized hash s deep q Q oq (first p) (hash (code (page S s p) 0)) b in
        let y : entry_at S s (top (dir_depth s) (first p)) ≡ p = called S h sized hash s deep p P one (first p) (hash (code (page S s p) 0)) refl in
        let z : depth (page S s q) ≡ depth (page S s p) = ap (λ r. depth (page S s r)) (sym x ∙ y) in
        omega arith

    share : (q : ℕ) → Stands S h s q → needs (rows_of h (rows_on (read (page S s q))) j (top j (first p))) ≡ pick (eqb (top j (first q)) (top j (first p))) (needs (rows_on (read (page S s q)))) 0
    unfolding needs rows_of
    share q (unused z _) = rw (read_zero (page S s q) z) (sym (pick_none (eqb (top j (first q)) (top j (first p)))))
    share q (used b k names) = rw (read_bucket h (page S s q) b) (⊎_elim lower upper (side (depth (page S s q)) j))
      where
        g : List ℕ
        g = page S s q

        w : ℕ
        w = top j (first p)

        Q : Stands S h s q
        Q = used b k names

        Goal : Type 0
        Goal = needs (rows_of h (map as_row (rows g)) j w) ≡ pick (eqb (top j (first q)) w) (needs (map as_row (rows g))) 0

        some : 0 < count g
        some = omega (arith, b.rules.some)

        gone : ((i : ℕ) → i < count g → top j (h (code g i)) ≡ w → ⊥) → Goal
        gone off = ap needs (all_off h g j w off) ∙ sym (ap (λ t. pick t (needs (map as_row (rows g))) 0) (ne_eqb (top j (first q)) w (off 0 some)))

        lower : depth g < j → Goal
        lower l = gone (λ i m. apart q i Q b.rules.rules.one l m)

        like : j ≤ depth g → (i : ℕ) → i < count g → top j (h (code g i)) ≡ top j (first q)
        like l i m = share_fewer (h (code g i)) (first q) j (depth g) l (b.share i 0 m some)

        upper : j ≤ depth g → Goal
        upper l = ⊎_elim
            (λ e. ap needs (all_on h g j w (λ i m. like l i m ∙ e)) ∙ sym (ap (λ t. pick t (needs (map as_row (rows g))) 0) (eq-eqb (top j (first q)) w e)))
            (λ n. gone (λ i m e. n (sym (like l i m) ∙ e)))
            (same (top j (first q)) w)

    -- what the rows of the prefix one bit shorter than page p's need
    pub load_shorter : ((q : ℕ) → 2 ≤ q → q < pages S s → Stands S h s q)
        → needs (rows_of h (rows_held S s) j (top j (first p)))
        ≡ total (λ i. pick (eqb (top j (first (i + 2))) (top j (first p))) (needs (rows_on (read (page S s (i + 2))))) 0) (pages S s - 2)
    unfolding contents
    load_shorter stands =
        load_pages h (λ i. read (page S s (i + 2))) (pages S s - 2) j (top j (first p))
        ∙ total_same _ _ (pages S s - 2) (λ i l. share (i + 2) (stands (i + 2) (omega arith) (omega arith)))
