-- Several buckets written one after another, the first to a given page and each next to the lowest free page: they are shown, what was shown stays,
-- and after the room test a free page is found at every step.
-- Assumes nothing.
use mathlib.Core.Path.{◌≡◌, refl, sym, ap, ap₂, subst, ◌∙◌}
use mathlib.Core.List.Memᴰ
use mathlib.Core.List.{List, [], ◌∷◌, map, Memᴰ}
use mathlib.Core.Logic.{◌⊎◌, inl, inr}
use Prim.Native.Nat.{ℕ, ◌^◌, ◌≤◌, ◌<◌}
use native.Mathlib.Omega.{arith}
use lib.ListN.{length, get_or, set, length-set}
use lib.Seq.{set-set}
use Rattle.page.specs.Page.{Record}
use Rattle.partition.specs.declared.Shape.{Shape}
use Rattle.partition.specs.Partition.{Row, Prefix, IsBucket, Fine, rows_of, buckets}
use Rattle.partition.specs.Listing.{in_order}
use Rattle.partition.proofs.Tree.{pfx}
use Rattle.partition.proofs.Members.{Distinct}
use Rattle.store.specs.Pages.{Page, free, bucket, as_row}
use Rattle.store.specs.Moves.{find, is_free, written}
use Rattle.store.proofs.Showing.Shows.{prefix_on, OnPage, Holding}
use Rattle.store.proofs.Showing.Shown.{Part, page_of_lem}
use Rattle.store.proofs.Showing.Rooms.{Its, fill, fill_keeps, becomes, enough, find_free}

-- at every step the page that is taken is there, and free
abbrev pub Found : List Page → ℕ → List Page → Type 0
Found gs i [] = Unit {0}
Found gs i (n ∷ ns) = (i < length gs) × (get_or gs i free ≡ free) × Found (set gs i n) (find is_free (set gs i n)) ns

-- each bucket stays on its page
abbrev pub Keeps : List Page → List Page → Type 0
Keeps gs fs = (j l : ℕ) (qs : List Record) → Holding gs j l qs → Holding fs j l qs

module _ (S : Shape) (h : List ℕ → ℕ) (small : (c : List ℕ) → h c < 2 ^ 32) (rows : List Row) (fine : Fine S h rows) (recs : Prefix → List Record) where
  abbrev pub page_of : Prefix → Page
  page_of p = bucket p.bits (recs p)

  -- buckets that are not shown yet, with the records that they are to have
  abbrev pub New : (ℕ → ℕ → Type 0) → List Prefix → Type 0
  New P ps = (x : Prefix) → Memᴰ x ps → IsBucket S h rows x.bits x.value × (P x.bits x.value → ⊥) × (map as_row (recs x) ≡ in_order (rows_of h rows x.bits x.value))

  pub record AllWritten (P : ℕ → ℕ → Type 0) (ps : List Prefix) (gs : List Page) (i : ℕ) : Type 0 where
    pub found : Found gs i (map page_of ps)
    pub part : Part S h rows (λ k v. P k v ⊎ Memᴰ (pfx k v) ps) (written gs i (map page_of ps))
    pub keeps : Keeps gs (written gs i (map page_of ps))

  pub write_all : (ps : List Prefix) (P : ℕ → ℕ → Type 0) (gs : List Page) (i : ℕ) → Part S h rows P gs → Distinct ps → New P ps
      → length (buckets S h rows) ≤ length gs → (0 < length ps → (i < length gs) × (get_or gs i free ≡ free)) → AllWritten P ps gs i
  unfolding written
  write_all [] P gs i p d new room start = record {
    found = tt;
    part = becomes S h rows P gs p rows (λ k v. P k v ⊎ Memᴰ (pfx k v) []) (λ k rs o u. (o, inl u)) (λ k v is u. (is, left k v u));
    keeps = λ j l qs e. e;
  }
    where
      left : (k v : ℕ) → P k v ⊎ Memᴰ (pfx k v) [] → P k v
      left k v (inl u) = u
      left k v (inr m) = absurd (Memᴰ.not-nil m)
  write_all (y ∷ ps) P gs i p d new room start =
      let w : AllWritten Q ps fs (find is_free fs) = write_all ps Q fs (find is_free fs) filled d.1 later room' next in
      record {
        found = (at.0, at.1, w.found);
        part = becomes S h rows (λ k v. Q k v ⊎ Memᴰ (pfx k v) ps) (written fs (find is_free fs) (map page_of ps)) w.part rows (λ k v. P k v ⊎ Memᴰ (pfx k v) (y ∷ ps))
            (λ k rs o u. (o, out k (prefix_on h k rs) u)) (λ k v is u. (is, into k v u));
        keeps = λ j l qs e. w.keeps j l qs (fill_keeps gs i (page_of y) at.1 j l qs e);
      }
    where
      at : (i < length gs) × (get_or gs i free ≡ free)
      at = start (omega arith)

      mine : IsBucket S h rows y.bits y.value × (P y.bits y.value → ⊥) × (map as_row (recs y) ≡ in_order (rows_of h rows y.bits y.value))
      mine = new y (Memᴰ.head refl)

      on : OnPage S h rows y.bits (recs y) × (prefix_on h y.bits (recs y) ≡ y.value)
      on = page_of_lem S h rows y.bits y.value (recs y) mine.0 mine.2

      fs : List Page
      fs = set gs i (page_of y)

      Q : ℕ → ℕ → Type 0
      Q k v = P k v ⊎ Its S h y.bits (recs y) k v

      filled : Part S h rows Q fs
      filled = fill S h rows P gs p i y.bits (recs y) at.0 at.1 on.0 (λ u. mine.1 (subst (P y.bits) on.1 u))

      later : New Q ps
      later x m = let n = new x (Memᴰ.tail m) in (n.0, other, n.2)
        where
          other : Q x.bits x.value → ⊥
          other (inl u) = (new x (Memᴰ.tail m)).1 u
          other (inr u) = d.0 (Memᴰ.cast (sym (ap₂ pfx u.0 (u.1 ∙ on.1))) m)

      room' : length (buckets S h rows) ≤ length fs
      room' = omega (arith, length-set gs i (page_of y))

      next : 0 < length ps → (find is_free fs < length fs) × (get_or fs (find is_free fs) free ≡ free)
      next l = find_free fs (omega (arith, enough S h small rows fine Q fs filled ps d.1 (λ x m. ((later x m).0, (later x m).1)) room'))

      into : (k v : ℕ) → P k v ⊎ Memᴰ (pfx k v) (y ∷ ps) → Q k v ⊎ Memᴰ (pfx k v) ps
      into k v (inl u) = inl (inl u)
      into k v (inr m) = go (Memᴰ.cases_cons m)
        where
          go : (pfx k v ≡ y) ⊎ Memᴰ (pfx k v) ps → Q k v ⊎ Memᴰ (pfx k v) ps
          go (inl e) = inl (inr (ap (λ x. x.bits) e, ap (λ x. x.value) e ∙ sym on.1))
          go (inr t) = inr t

      out : (k v : ℕ) → Q k v ⊎ Memᴰ (pfx k v) ps → P k v ⊎ Memᴰ (pfx k v) (y ∷ ps)
      out k v (inl (inl u)) = inl u
      out k v (inl (inr u)) = inr (Memᴰ.head (ap₂ pfx u.0 (u.1 ∙ on.1)))
      out k v (inr m) = inr (Memᴰ.tail m)

-- a page that is written first need not be cleared before
pub written_over : (gs : List Page) (i : ℕ) (ns : List Page) → 0 < length ns → written (set gs i free) i ns ≡ written gs i ns
unfolding written
written_over gs i [] l = absurd (omega arith)
written_over gs i (n ∷ ns) l = ap (λ fs. written fs (find is_free fs) ns) (set-set gs i free n)

-- the first page is given; each next that is taken is there, and free
abbrev pub NextFree : List Page → ℕ → List Page → Type 0
NextFree gs i [] = Unit {0}
NextFree gs i (n ∷ ns) = Found (set gs i n) (find is_free (set gs i n)) ns

pub next_free : (gs : List Page) (i : ℕ) (ns : List Page) → Found (set gs i free) i ns → NextFree gs i ns
next_free gs i [] f = tt
next_free gs i (n ∷ ns) f = subst (λ fs. Found fs (find is_free fs) ns) (set-set gs i free n) f.2

pub length_written : (gs : List Page) (i : ℕ) (ns : List Page) → length (written gs i ns) ≡ length gs
unfolding written
length_written gs i [] = refl
length_written gs i (n ∷ ns) = length_written (set gs i n) (find is_free (set gs i n)) ns ∙ length-set gs i n
