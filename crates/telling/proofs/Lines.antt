-- Rows of the listing as lines, slot after slot of a page. Assumes nothing.
use Prim.Native.Nat.{ℕ, zero, suc, ◌+◌, ◌-◌, ◌^◌, ◌≤◌, ◌<◌}
use mathlib.Core.Path.{◌≡◌, refl, sym, ap, ◌∙◌, subst}
use mathlib.Core.List.{List, [], ◌∷◌, ◌++◌, append_assoc, append-nil}
use mathlib.Core.Option.{Option, some, none}
use native.Mathlib.Nat.{sub-zero, zero-add, suc-add}
use native.Mathlib.Omega.{arith}
use lib.ListN.{length, take, drop, get_elem?}
use Rattle.ground.proofs.Tests.{none_some}
use Rattle.commands.specs.Answers.{Adds, rowed}
use Rattle.commands.proofs.Adding.{as_text, then}
use Rattle.hash.specs.Fnv.{fnv}
use Rattle.page.specs.Page.{count, code, place, row_at}
use Rattle.page.specs.Places as Places
use Rattle.page.specs.declared.Place.{Place}
use Rattle.partition.specs.declared.Shape.{Shape}
use Rattle.partition.specs.Listing.{listing}
use Rattle.partition.specs.Partition.{Row, first, after}
use Rattle.query.specs.Cursors.{At, Along, listed_from}
use Rattle.query.specs.declared.Cursor.{Cursor}
use Rattle.report.proofs.Runs.{listed_below}
use Rattle.store.specs.Pages.{page, as_row, rows_held, dir_depth}
use Rattle.telling.specs.Rows.{line_of, lines_of, slot_lines, LinesFrom, Filling}
use Rattle.telling.specs.declared.Lined.{Lined}

or : Row → Option Row → Row
or d none = d
or d (some x) = x

-- one row more
lines_next : (l : List Row) (k : ℕ) (r : Row) → get_elem? l k ≡ some r → lines_of (take k l) ++ line_of r ≡ lines_of (take (suc k) l)
unfolding lines_of or
lines_next [] k r e = absurd (none_some refl e)
lines_next (x ∷ l) zero r e = ap line_of (sym (ap (or x) e)) ∙ sym (append-nil (line_of x))
lines_next (x ∷ l) (suc k) r e = append_assoc (line_of x) (lines_of (take k l)) (line_of r) ∙ ap (λ (w : List ℕ). line_of x ++ w) (lines_next l k r e)

get_elem_drop : (l : List Row) (i k : ℕ) → get_elem? (drop i l) k ≡ get_elem? l (i + k)
get_elem_drop l zero k = ap (get_elem? l) (sym (zero-add k))
get_elem_drop [] (suc i) k = refl
get_elem_drop (x ∷ l) (suc i) k = get_elem_drop l i k ∙ ap (get_elem? (x ∷ l)) (sym (suc-add i k))

-- ---- slot after slot

pub no_slots : (P : List ℕ) (i : ℕ) (out : List ℕ) → Adds (slot_lines P i (i - i)) out 0 out 0
unfolding slot_lines
no_slots P i out = let z : i - i ≡ 0 = omega arith in rw z (record { next = refl; said = refl; long = refl })

pub slot_more : (P : List ℕ) (i j : ℕ) {p q s : List ℕ} {r u : ℕ} → i ≤ j → Adds (slot_lines P i (j - i)) p 0 q r → Adds (line_of (as_row (row_at P j))) q r s u → Adds (slot_lines P i (j + 1 - i)) p 0 s u
unfolding slot_lines
slot_more P i j {p} {q} {s} {r} {u} h a b =
    let m : i + (j - i) ≡ j = omega arith in
    let n : j + 1 - i ≡ suc (j - i) = omega arith in
    let t : slot_lines P i (j - i) ++ line_of (as_row (row_at P j)) ≡ slot_lines P i (j + 1 - i) = ap (λ (k : ℕ). slot_lines P i (j - i) ++ line_of (as_row (row_at P k))) (sym m) ∙ ap (slot_lines P i) (sym n) in
    as_text t (then a b)

-- a row's line, from its code and its place
pub line_is : (P : List ℕ) (j : ℕ) (k : List ℕ) (l : Place) → k ≡ code P j → l ≡ Places.place_from (place P j) → rowed k l ++ (10 ∷ []) ≡ line_of (as_row (row_at P j))
line_is P j k l e f = rw (e, f)

-- the slots of a page along the listing
module _ (S : Shape) (s : List ℕ) (n p i : ℕ) (a : Along S s n p i) where
  along : (k : ℕ) → i + k ≤ count (page S s p) → slot_lines (page S s p) i k ≡ lines_of (take k (drop n (listing S fnv (rows_held S s))))
  unfolding slot_lines lines_of
  along zero h = refl
  along (suc k) h =
      ap (λ (w : List ℕ). w ++ line_of (as_row (row_at (page S s p) (i + k)))) (along k (omega arith))
      ∙ lines_next (drop n (listing S fnv (rows_held S s))) k (as_row (row_at (page S s p) (i + k))) (get_elem_drop (listing S fnv (rows_held S s)) n k ∙ a k (omega arith))

  -- what a buffer filled from there on holds
  pub filled_lines : {out q : List ℕ} {f : Lined} → Filling (page S s p) i out q f → LinesFrom S s n (f.slot - i) (take (f.len - 0) (drop 0 q))
  filled_lines {out} {q} {f} g = ap (λ (k : ℕ). take k q) (sub-zero f.len) ∙ g.lines ∙ along (f.slot - i) (omega (arith, g.some, g.within))

  -- they are rows of the listing
  pub run_within : (k : ℕ) → i < k → k ≤ count (page S s p) → n + (k - i) ≤ length (listing S fnv (rows_held S s))
  run_within k l h =
      let b : n + (k - i - 1) < length (listing S fnv (rows_held S s)) = listed_below (listing S fnv (rows_held S s)) (n + (k - i - 1)) (as_row (row_at (page S s p) (i + (k - i - 1)))) (a (k - i - 1) (omega arith)) in
      omega (arith, b)

-- a cursor one slot on, and further on
pub at_further : (S : Shape) (s : List ℕ) (n i j : ℕ) (c e : Cursor) → At S s (n + 1) c → c.slot ≡ i + 1 → i < j → e.entry ≡ c.entry → e.slot ≡ j → At S s (n + (j - i)) e
at_further S s n i j c e a q h u v = record {
  rest = λ k. let x : n + (j - i) + k ≡ n + 1 + (j - i - 1 + k) = omega arith in
      let y : c.slot + (j - i - 1 + k) ≡ e.slot + k = omega (arith, q, v) in
      ap (get_elem? (listing S fnv (rows_held S s))) x ∙ a.rest (j - i - 1 + k) ∙ ap (get_elem? (listed_from S s c.entry)) y ∙ ap (λ (m : ℕ). get_elem? (listed_from S s m) (e.slot + k)) (sym u);
  whole = λ p m b. subst (λ (t : ℕ). after (dir_depth s) p ≤ t) (sym u) (a.whole p m (subst (λ (t : ℕ). first (dir_depth s) p < t) u b));
  most = subst (λ (t : ℕ). t ≤ 2 ^ dir_depth s) (sym u) a.most;
}
