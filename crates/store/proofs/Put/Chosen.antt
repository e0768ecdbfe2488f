-- The pages that a put of a new code takes, on lists of pages: the old one and the lowest free ones, by the new buckets in prefix order.
-- Assumes nothing.
use mathlib.Core.Path.{◌≡◌, refl, sym, ap, ap₂, subst, ◌∙◌}
use mathlib.Core.Bool.{Bool, true, false}
use mathlib.Core.List.{List, [], ◌∷◌, map, Memᴰ}
use mathlib.Core.Logic.{◌≢◌}
use mathlib.Core.Option.{Option, some, none}
use Prim.Native.Nat.{ℕ, ◌^◌, ◌≤◌, ◌<◌}
use native.Mathlib.Decide.{ℕ_discrete}
use native.Mathlib.Omega.{arith}
use lib.ListN.{length, get_or, set, length-set}
use lib.Seq.{get_or-set_other, set-get_or}
use Rattle.ground.specs.Says.{Says}
use Rattle.page.specs.Page.{Record}
use Rattle.partition.specs.Bits.{top}
use Rattle.partition.specs.declared.Shape.{Shape}
use Rattle.partition.specs.Partition.{Row, Prefix, needs, rows_of, buckets, first, after, Ascending}
use Rattle.partition.specs.Listing.{in_order, place_of}
use Rattle.partition.proofs.Laws.{in_order_lem}
use Rattle.partition.proofs.Order.{asc_first, first_lt_after}
use Rattle.partition.proofs.Rows.{listed}
use Rattle.partition.proofs.Tree.{pfx}
use Rattle.store.specs.Pages.{Page, free, bucket, as_row, rows_in}
use Rattle.store.specs.Moves.{pick, find, is_free, holds, bucket_of, pack_from, packed, added, written, new_bucket, fits_on, put_on, put_new}
use Rattle.store.specs.Choice.{Of, Earlier}
use Rattle.store.proofs.Showing.Shows.{prefix_on, Holding, Shows}
use Rattle.store.proofs.Showing.Shown.{free_not, within_pages, page_of_lem, find_passes, find_least, find_held, find_only}
use Rattle.store.proofs.Showing.Rooms.{bucket_one, set_holds, fill_keeps}
use Rattle.store.proofs.Paging.Records.{fits_says, rows_packed}
use Rattle.store.proofs.Put.Written.{Found, NextFree}
use Rattle.store.proofs.Put.PutShows.{put_found}

-- page i is a bucket of the prefix x
abbrev pub Has : (List ℕ → ℕ) → List Page → ℕ → Prefix → Type 0
Has h gs i x = (rs : List Record) × Holding gs i x.bits rs × (prefix_on h x.bits rs ≡ x.value)

-- what a put of the code c makes of the pages gs
pub record Chosen (S : Shape) (h : List ℕ → ℕ) (c : List ℕ) (gs hs : List Page) : Type 0 where
  pub lowest : ((i : ℕ) (x : Prefix) → Has h gs i x → Of h c x → ⊥) → (i : ℕ) (x : Prefix) → Has h hs i x → Of h c x
      → (get_or gs i free ≡ free) × ((j : ℕ) → j < i → get_or gs j free ≢ free)
  pub old : (i : ℕ) (x : Prefix) → Has h gs i x → Of h c x
      → (y : Prefix) × Has h hs i y × ((j : ℕ) (z : Prefix) → get_or gs j free ≡ free → Has h hs j z → Earlier S y z)
  pub next : (i j : ℕ) (x : Prefix) → get_or gs i free ≡ free → Has h hs i x → get_or gs j free ≡ free → j < i → (y : Prefix) × Has h hs j y × Earlier S y x

is_free_lem : (g : Page) → is_free g ≡ true → g ≡ free
is_free_lem free e = refl
is_free_lem (bucket k rs) e = absurd (let n : ◌≡◌ {A = ℕ} 0 1 = cc in omega arith)

-- no page below the lowest free one is free, and it is free if it is there
lower : (gs : List Page) (i : ℕ) → i < find is_free gs → find is_free gs < length gs → get_or gs i free ≢ free
lower gs i l b e = omega (arith, find_least is_free gs i (omega arith) (ap is_free e))

found_free : (gs : List Page) → find is_free gs < length gs → get_or gs (find is_free gs) free ≡ free
found_free gs b = is_free_lem (get_or gs (find is_free gs) free) (find_passes is_free gs b)

-- ---- buckets written one after another

module _ (recs : Prefix → List Record) where
  abbrev page_of : Prefix → Page
  page_of p = bucket p.bits (recs p)

  written_keeps : (gs : List Page) (i : ℕ) (ns : List Page) → Found gs i ns → (j l : ℕ) (qs : List Record) → Holding gs j l qs → Holding (written gs i ns) j l qs
  unfolding written
  written_keeps gs i [] f j l qs e = e
  written_keeps gs i (n ∷ ns) f j l qs e = written_keeps (set gs i n) (find is_free (set gs i n)) ns f.2 j l qs (fill_keeps gs i n f.1 j l qs e)

  -- a page that is taken has one of the buckets, and each lower page that was free an earlier one
  pub record Taken (d : ℕ) (ps : List Prefix) (gs hs : List Page) (i k : ℕ) (rs : List Record) : Type 0 where
    pub which : Prefix
    pub among : Memᴰ which ps
    pub is : bucket k rs ≡ bucket which.bits (recs which)
    pub before : (j : ℕ) → j < i → get_or gs j free ≡ free → (y : Prefix) × Memᴰ y ps × Holding hs j y.bits (recs y) × (first d y < first d which)

  pub taken : (d lo hi : ℕ) (ps : List Prefix) → Ascending d lo hi ps → (gs : List Page) → Found gs (find is_free gs) (map page_of ps)
      → (i k : ℕ) (rs : List Record) → get_or gs i free ≡ free → Holding (written gs (find is_free gs) (map page_of ps)) i k rs
      → Taken d ps gs (written gs (find is_free gs) (map page_of ps)) i k rs
  unfolding written
  taken d lo hi [] a gs f i k rs z e = absurd (free_not (sym z ∙ e))
  taken d lo hi (p ∷ ps) a gs f i k rs z e = go (ℕ_discrete i m) (λ y. taken d (after d p) hi ps a.1 fs f.2 i k rs y e)
    where
      m : ℕ
      m = find is_free gs

      fs : List Page
      fs = set gs m (page_of p)

      hs : List Page
      hs = written fs (find is_free fs) (map page_of ps)

      here : Holding hs m p.bits (recs p)
      here = written_keeps fs (find is_free fs) (map page_of ps) f.2 m p.bits (recs p) (set_holds gs m p.bits (recs p) f.0)

      still : (j : ℕ) → j ≢ m → get_or gs j free ≡ free → get_or fs j free ≡ free
      still j n y = get_or-set_other gs m j (page_of p) free n ∙ y

      go : Dec (i ≡ m) → (get_or fs i free ≡ free → Taken d ps fs hs i k rs) → Taken d (p ∷ ps) gs hs i k rs
      go (yes q) rest = record {
        which = p;
        among = Memᴰ.head refl;
        is = sym e ∙ ap (λ n. get_or hs n free) q ∙ here;
        before = λ j l y. absurd (lower gs j (subst (λ n. j < n) q l) f.0 y);
      }
      go (no n) rest = record {
        which = w.which;
        among = Memᴰ.tail w.among;
        is = w.is;
        before = λ j l y. prior j l y (ℕ_discrete j m);
      }
        where
          w : Taken d ps fs hs i k rs
          w = rest (still i n z)

          prior : (j : ℕ) → j < i → get_or gs j free ≡ free → Dec (j ≡ m)
              → (y : Prefix) × Memᴰ y (p ∷ ps) × Holding hs j y.bits (recs y) × (first d y < first d w.which)
          prior j l y (yes q) = (
            p,
            Memᴰ.head refl,
            subst (λ n. Holding hs n p.bits (recs p)) (sym q) here,
            omega (arith, asc_first d (after d p) hi ps a.1 w.which w.among, first_lt_after d p),
          )
          prior j l y (no q) = let u = w.before j l (still j q y) in (u.0, Memᴰ.tail u.1, u.2, u.3)

-- ---- the three cases of a put

module _ (S : Shape) (h : List ℕ → ℕ) (small : (c : List ℕ) → h c < 2 ^ 32) (rows : List Row) (r : Row) (gs : List Page) (s : Shows S h rows gs) where
  abbrev c : List ℕ
  c = r.code

  -- a page that has a prefix of the hash is the one found
  the_one : (i : ℕ) (x : Prefix) → Has h gs i x → Of h c x → find (holds h (h c)) gs ≡ i
  the_one i x w o = find_only S h rows gs s (h c) i x.bits w.0 w.1 (w.2 ∙ sym o)

  -- no page has one: a new bucket on the lowest free page
  module _ (z : get_or gs (find (holds h (h c)) gs) free ≡ free) where
    nobody : (i : ℕ) (x : Prefix) → Has h gs i x → Of h c x → ⊥
    nobody i x w o = free_not (sym z ∙ ap (λ n. get_or gs n free) (the_one i x w o) ∙ w.1)

    fresh : (o : Option Prefix) → Chosen S h c gs (new_bucket h gs r o)
    unfolding packed
    fresh none = record {
      lowest = λ _ i x w o. absurd (nobody i x w o);
      old = λ i x w o. absurd (nobody i x w o);
      next = λ i j x y w _ _. absurd (free_not (sym y ∙ w.1));
    }
    fresh (some p) = record {
      lowest = λ _ i x w o. at i x w o (ℕ_discrete i m);
      old = λ i x w o. absurd (nobody i x w o);
      next = λ i j x y w f l. absurd (lower gs j (subst (λ n. j < n) (taken_page i x y w (ℕ_discrete i m)) l) (there i x w (taken_page i x y w (ℕ_discrete i m))) f);
    }
      where
        m : ℕ
        m = find is_free gs

        hs : List Page
        hs = set gs m (packed h (r ∷ []) p)

        there : (i : ℕ) (x : Prefix) → Has h hs i x → i ≡ m → m < length gs
        there i x w q = omega (arith, within_pages hs i x.bits w.0 w.1, length-set gs m (packed h (r ∷ []) p), q)

        at : (i : ℕ) (x : Prefix) → Has h hs i x → Of h c x → Dec (i ≡ m) → (get_or gs i free ≡ free) × ((j : ℕ) → j < i → get_or gs j free ≢ free)
        at i x w o (yes q) =
            let b = there i x w q in
            (ap (λ n. get_or gs n free) q ∙ found_free gs b, λ j l. lower gs j (subst (λ n. j < n) q l) b)
        at i x w o (no n) = absurd (nobody i x (w.0, sym (get_or-set_other gs m i (packed h (r ∷ []) p) free n) ∙ w.1, w.2) o)

        taken_page : (i : ℕ) (x : Prefix) → get_or gs i free ≡ free → Has h hs i x → Dec (i ≡ m) → i ≡ m
        taken_page i x y w (yes q) = q
        taken_page i x y w (no n) = absurd (free_not (sym y ∙ sym (get_or-set_other gs m i (packed h (r ∷ []) p) free n) ∙ w.1))

  -- the page i holds the hash
  module _ (k : ℕ) (rs : List Record) (e : Holding gs (find (holds h (h c)) gs) k rs) where
    abbrev i : ℕ
    i = find (holds h (h c)) gs

    there : i < length gs
    there = within_pages gs i k rs e

    held : prefix_on h k rs ≡ top k (h c)
    held = find_held S h rows gs s (h c) k rs e

    unlike : (j : ℕ) → get_or gs j free ≡ free → j ≢ i
    unlike j y q = free_not (sym y ∙ ap (λ n. get_or gs n free) q ∙ e)

    -- one page changes
    fitted : (qs : List Record) → Chosen S h c gs (set gs i (bucket k qs))
    fitted qs = record {
      lowest = λ no_one _ _ _ _. absurd (no_one i (pfx k (prefix_on h k rs)) (rs, e, refl) (sym held));
      old = λ j x w o. (
        pfx k (prefix_on h k qs),
        (qs, subst (λ n. Holding (set gs i (bucket k qs)) n k qs) (the_one j x w o) (set_holds gs i k qs there), refl),
        (λ l y f v. absurd (untouched l y f v)),
      );
      next = λ j l x f w _ _. absurd (untouched j x f w);
    }
      where
        untouched : (j : ℕ) (x : Prefix) → get_or gs j free ≡ free → Has h (set gs i (bucket k qs)) j x → ⊥
        untouched j x f w = free_not (sym f ∙ sym (get_or-set_other gs i j (bucket k qs) free (unlike j f)) ∙ w.1)

    module _ (recs : Prefix → List Record) where
      -- several are written
      several : (ps : List Prefix) → Ascending S.deepest 0 (2 ^ S.deepest) ps → NextFree gs i (map (page_of recs) ps)
          → ((p : Prefix) → Memᴰ p ps → prefix_on h p.bits (recs p) ≡ p.value) → Chosen S h c gs (written gs i (map (page_of recs) ps))
      unfolding written
      several [] a f named = subst (Chosen S h c gs) (set-get_or gs i free) (subst (λ g. Chosen S h c gs (set gs i g)) (sym e) (fitted rs))
      several (p ∷ ps) a f named = record {
        lowest = λ no_one _ _ _ _. absurd (no_one i (pfx k (prefix_on h k rs)) (rs, e, refl) (sym held));
        old = λ j x w o. (
          p,
          (recs p, subst (λ n. Holding hs n p.bits (recs p)) (the_one j x w o) first_here, named p (Memᴰ.head refl)),
          (λ l z y v. subst (Earlier S p) (sym (same l z y v)) (omega (arith, asc_first S.deepest (after S.deepest p) (2 ^ S.deepest) ps a.1 (of l z y v).which (of l z y v).among, first_lt_after S.deepest p))),
        );
        next = λ j l x y w z b. let u = (of j x y w).before l b (still l z) in
            (u.0, (recs u.0, u.2, named u.0 (Memᴰ.tail u.1)), subst (Earlier S u.0) (sym (same j x y w)) u.3);
      }
        where
          fs : List Page
          fs = set gs i (page_of recs p)

          hs : List Page
          hs = written fs (find is_free fs) (map (page_of recs) ps)

          first_here : Holding hs i p.bits (recs p)
          first_here = written_keeps recs fs (find is_free fs) (map (page_of recs) ps) f i p.bits (recs p) (set_holds gs i p.bits (recs p) there)

          still : (j : ℕ) → get_or gs j free ≡ free → get_or fs j free ≡ free
          still j y = get_or-set_other gs i j (page_of recs p) free (unlike j y) ∙ y

          of : (j : ℕ) (x : Prefix) → get_or gs j free ≡ free → (w : Has h hs j x) → Taken recs S.deepest ps fs hs j x.bits w.0
          of j x y w = taken recs S.deepest (after S.deepest p) (2 ^ S.deepest) ps a.1 fs f j x.bits w.0 (still j y) w.1

          -- its prefix is that of its records
          same : (j : ℕ) (x : Prefix) (y : get_or gs j free ≡ free) (w : Has h hs j x) → x ≡ (of j x y w).which
          same j x y w =
              let t = of j x y w in
              let b = bucket_one t.is in
              ap₂ pfx b.0 (sym w.2 ∙ ap₂ (λ n l. prefix_on h n l) b.0 b.1 ∙ named t.which (Memᴰ.tail t.among))

  module _ (new : place_of rows r.code ≡ none) (six : needs (rows_of h (r ∷ rows) S.deepest (top S.deepest (h r.code))) ≤ S.capacity)
      (seven : length (buckets S h (r ∷ rows)) ≤ length gs) where
    pub chosen : Chosen S h r.code gs (put_new S h gs r)
    unfolding put_new packed
    chosen = on (get_or gs (find (holds h (h c)) gs) free) refl
      where
        i : ℕ
        i = find (holds h (h c)) gs

        split : (k : ℕ) (rs : List Record) → Holding gs i k rs → S.capacity < needs (r ∷ map as_row rs)
            → Chosen S h c gs (written gs i (map (packed h (r ∷ map as_row rs)) (buckets S h (r ∷ map as_row rs))))
        split k rs e heavy =
            let qs : List Row = r ∷ map as_row rs in
            let its : Prefix → List Row = λ p. in_order (rows_of h qs p.bits p.value) in
            several k rs e (λ p. pack_from 8 (its p)) (buckets S h qs) (in_order_lem S h qs)
            (put_found S h small rows r gs s new six seven i k rs e (find_held S h rows gs s (h c) k rs e) heavy)
            (λ p m. (page_of_lem S h qs p.bits p.value (pack_from 8 (its p)) ((listed S h small qs p.bits p.value).0 m).0 (rows_packed 8 (its p))).1)

        tested : (k : ℕ) (rs : List Record) → Holding gs i k rs → (b : Bool) → Says b (needs (r ∷ map as_row rs) ≤ S.capacity)
            → Chosen S h c gs (pick b (set gs i (bucket k (added S rs r))) (written gs i (map (packed h (r ∷ map as_row rs)) (buckets S h (r ∷ map as_row rs)))))
        tested k rs e true t = fitted k rs e (added S rs r)
        tested k rs e false t = split k rs e (omega (arith, t))

        on : (g : Page) → get_or gs i free ≡ g → Chosen S h c gs (put_on S h gs r i g)
        on free e = fresh e (bucket_of (h c) (buckets S h (r ∷ rows_in gs)))
        on (bucket k rs) e = tested k rs e (fits_on S rs r) (fits_says S rs r (fits_on S rs r) refl)
