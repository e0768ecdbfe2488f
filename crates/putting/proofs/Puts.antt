-- PUT on an accepted store where a page holds the hash of the code: a known code, and a new one that fits. Over any page size and hash. Assumes nothing.
use mathlib.Core.Path.{◌≡◌, refl, sym, ap, subst, ◌∙◌}
use mathlib.Core.List.{List, ◌∷◌, ◌++◌, map, Memᴰ}
use mathlib.Core.Logic.{inl, inr, ⊎_elim}
use mathlib.Core.Option.{some, none}
use Prim.Native.Nat.{ℕ, ◌+◌, ◌-◌, ◌*◌, ◌≤◌, ◌<◌}
use native.Mathlib.Omega.{arith}
use native.Mathlib.Nat.{mul-le-mul_right}
use lib.ListN.{length, get_or, take, drop, set, length-set}
use Rattle.ground.proofs.Tests.{none_some}
use Rattle.ground.specs.Lists.{byte}
use Rattle.ground.specs.Ladder.{Answers}
use Rattle.ground.proofs.Sides.{side}
use Rattle.ground.proofs.Tables.{length_tab}
use Rattle.words.specs.Le.{le32}
use Rattle.words.specs.Moves.{Frame}
use Rattle.page.specs.Page.{Slotted, BucketPage, depth, count, frontier, code, place, rows, row_at}
use Rattle.words.specs.Folds.{Folded}
use Rattle.page.specs.Steps.{Overwritten}
use Rattle.page.specs.Packed.{Fitting, Added}
use Rattle.page.specs.Places as Places
use Rattle.partition.specs.Bits.{top}
use Rattle.partition.specs.declared.Shape.{Shape}
use Rattle.partition.specs.Partition.{Row, need, needs}
use Rattle.partition.specs.Listing.{insert, without, in_order, place_of}
use Rattle.partition.proofs.Tree.{pfx}
use Rattle.partition.proofs.Sorted.{by_code, in_order_reordered, order_put}
use Rattle.partition.proofs.Reorders.{turned, length_same, mem_reordered}
use Rattle.partition.proofs.Directory.{holds_top}
use Rattle.store.specs.Pages.{size, page, dir_depth, Page, free, bucket, contents, as_row, rows_held, set_page}
use Rattle.store.specs.Accepted.{Accepted}
use Rattle.store.specs.Moves.{find, holds, added, place_on, overwrite_on, overwritten, put_new}
use Rattle.store.specs.Tables.{replaced, new, Refusal6, Refusal7, put_accepted}
use Rattle.store.specs.Demands.{Sized, Hash}
use Rattle.store.proofs.Showing.Shows.{prefix_on, Holding, Shows}
use Rattle.store.proofs.Showing.Shown.{within_pages, page_row, find_only}
use Rattle.store.proofs.Accepted.Unique.{within, page_long}
use Rattle.store.proofs.Accepted.Spelled.{held_folded, one_more, one_less}
use Rattle.store.proofs.Showing.Showing.{accepted_shows, pages_held}
use Rattle.store.proofs.Accepted.Reading.{Naming, lookup_page, place_on_lem}
use Rattle.store.proofs.Put.OverShows.{over_one, prefix_over}
use Rattle.store.proofs.Remove.MoveRows.{over_shown}
use Rattle.store.proofs.Paging.PageTies.{slot_of, found_at, found_not, page_order, fits_needs, added_rows, overwritten_rows}
use Rattle.store.proofs.Paging.Records.{rows_added}
use Rattle.store.proofs.Showing.Rooms.{set_holds}
use Rattle.store.proofs.Demands.Said.{rows_few}
use Rattle.store.proofs.Put.PutCases.{fits_six, fits_seven, put_fits_is}
use Rattle.store.proofs.Put.PutRows.{put_shown}
use Rattle.store.specs.Counts.{buckets_at, Counts}
use Rattle.store.proofs.Accepted.Rules.{opened}
use Rattle.store.proofs.Accepted.Accepting.{Laid, accepted_laid, laid_becomes, recounted}
use Rattle.store.proofs.Counts.Counted.{over_count, over_rows, same_depth_count}
use Rattle.counts.specs.Tallies.{CountRaised}
use Rattle.counts.proofs.Raises.{inside_counts, counts_same, counts_more, word_kept}
use Rattle.store.proofs.Paging.Views.{page_lent, page_back, set_below, set_long}
use Rattle.directory.proofs.OnePage.{laid_set}
use Rattle.putting.specs.Put.{new_row, Homed}

-- the store as it comes back with page p
pub given_back : (S : Shape) (s : List ℕ) (p : ℕ) (q : List ℕ) → take (p * size S) s ++ (q ++ drop (p * size S + size S - p * size S) (drop (p * size S) s)) ≡ set_page S s p q
given_back S s p q = page_back S s q p (p * size S) (p * size S + size S) refl refl

-- page p as it is lent, and the store as it comes back with it, by the size n that was worked out
module _ (S : Shape) (s : List ℕ) (p n : ℕ) (e : n ≡ size S) where
  pub lent_by : take (p * n + n - p * n) (drop (p * n) s) ≡ page S s p
  lent_by = subst (λ m. take (p * m + m - p * m) (drop (p * m) s) ≡ page S s p) (sym e) (page_lent S s p)

  pub back_by : (q : List ℕ) → take (p * n) s ++ (q ++ drop (p * n + n - p * n) (drop (p * n) s)) ≡ set_page S s p q
  back_by q = page_back S s q p (p * n) (p * n + n) (ap (λ m. p * m) e) (ap (λ m. p * n + m) e)

  pub inside_by : p * size S + size S ≤ length s → p * n + n ≤ length s
  inside_by l = subst (λ m. p * m + m ≤ length s) (sym e) l

-- the page that the row's hash leads to
pub home_page : (S : Shape) (h : List ℕ → ℕ) → Hash h → (s : List ℕ) (p : ℕ) (c pl : List ℕ) → Homed S h s p c pl → Naming S h s (top (dir_depth s) (h c)) p
home_page S h hash s p c pl H =
    let e = H.home.names in
    subst (Naming S h s (top (dir_depth s) (h c))) e (lookup_page S h H.row.sized hash s H.row.accepted c (λ n. omega (arith, n, e, H.home.some))).0

-- is there
pub home_there : (S : Shape) (h : List ℕ → ℕ) → Hash h → (s : List ℕ) (p : ℕ) (c pl : List ℕ) → Homed S h s p c pl → p * size S + size S ≤ length s
home_there S h hash s p c pl H = within S s p (home_page S h hash s p c pl H).to

module _ (S : Shape) (h : List ℕ → ℕ) (sized : Sized S) (hash : Hash h) (s : List ℕ) (A : Accepted S h s) (c : List ℕ) (p : ℕ) (U : Naming S h s (top (dir_depth s) (h c)) p) where
  abbrev g : List ℕ
  g = page S s p

  abbrev gs : List Page
  gs = contents S s

  shows : Shows S h (rows_held S s) gs
  shows = accepted_shows S h sized hash s A

  slotted : Slotted g
  slotted = U.bytes.rules.rules

  long : length g ≡ size S
  long = page_long S s p U.to

  -- the page has the prefix of the code's hash
  pub begins : prefix_on h (depth g) (rows g) ≡ top (depth g) (h c)
  begins = sym ((holds_top (dir_depth s) (h c) (pfx (depth g) (prefix_on h (depth g) (rows g))) U.low).0 U.calls.bits)

  -- and what the map has for the code
  pub placed : place_of (rows_held S s) c ≡ place_of (map as_row (rows g)) c
  placed = place_on_lem S h (rows_held S s) gs shows c (p - 2) (depth g) (rows g) U.holding (sym begins)

  -- page 0 stays
  counts_below : (q : List ℕ) → length q ≡ size S → (k : ℕ) → 24 ≤ k → k < 80 → byte (set_page S s p q) k ≡ byte s k
  counts_below q m k a b = set_below S s p q U.to m k (omega (arith, mul-le-mul_right (size S) U.from, sized.least))

  -- and the number of rows can be one more
  row_more : (q : List ℕ) → length q ≡ size S → (28 + 4 * 0 ≤ length (set_page S s p q)) × (le32 (set_page S s p q) (24 + 4 * 0) + 1 < 4294967296)
  row_more q m =
      let e : le32 (set_page S s p q) 24 ≡ le32 s 24 = word_kept s (set_page S s p q) (counts_below q m) 0 (omega arith) in (
        omega (arith, set_long S s p q U.to m, within S s p U.to, sized.least),
        omega (arith, e, (opened S h s A).counts.rows, rows_few S h sized hash s A, pages_held S s, A.long.most, sized.whole, sized.most),
      )

  -- ---- a known code

  module _ (i : ℕ) (b : i < count g) (e : code g i ≡ c) (pl q : List ℕ) (O : Overwritten g i pl q) where
    abbrev known_row : Row
    known_row = new_row c pl

    known_rows : rows q ≡ map (place_on known_row) (rows g)
    known_rows = subst (λ x. rows q ≡ map (place_on (new_row x pl)) (rows g)) e (overwritten_rows g i pl q slotted b O)

    known_page : BucketPage q
    known_page = record {
      rules = O.page;
      some = omega (arith, length_tab (row_at q) (count q), length_tab (row_at g) (count g), ap length O.rows_of ∙ length-set (rows g) i _);
    }

    known_laid : Laid S h (set_page S s p q) (overwritten gs known_row)
    known_laid = subst (Laid S h (set_page S s p q)) (sym is)
        (laid_set S h sized s gs (accepted_laid S h sized hash s A) p (depth g) (rows g) U.from U.to U.holding q known_page (O.long ∙ long) O.deep
        (ap (prefix_on h (depth g)) known_rows ∙ prefix_over S h known_row (depth g) (rows g)))
      where
        here : find (holds h (h c)) gs ≡ p - 2
        here = find_only S h (rows_held S s) gs shows (h c) (p - 2) (depth g) (rows g) U.holding begins

        is : overwritten gs known_row ≡ set gs (p - 2) (bucket (depth g) (rows q))
        is =
            over_one S h known_row (rows_held S s) gs shows ∙ ap (λ j. set gs j (overwrite_on known_row (get_or gs j free))) here
            ∙ ap (λ x. set gs (p - 2) (overwrite_on known_row x)) U.holding ∙ ap (λ l. set gs (p - 2) (bucket (depth g) l)) (sym known_rows)

    pub put_known : ((k : ℕ) → byte (set_page S s p q) k < 256) → Answers (put_accepted S h s (new_row c pl)) (replaced (Places.place_from (place g i)), set_page S s p q)
    put_known small =
        let old : place_of (rows_held S s) c ≡ some (place g i) = placed ∙ found_at g slotted c i b e in
        inl (
          place g i,
          (
            old,
            (
              refl,
              laid_becomes S h sized hash (set_page S s p q) (known_row ∷ without (λ x. x.code) c (rows_held S s)) (overwritten gs known_row) known_laid
                  (over_shown S h sized hash s known_row (place g i) A old)
                  (one_more known_row _ (subst Folded e (U.bytes.folded i b)) (one_less c (rows_held S s) (held_folded S h sized hash s A))) s (set_long S s p q U.to (O.long ∙ long)) small
                  (counts_same S s (set_page S s p q) (overwritten gs known_row) (opened S h s A).counts (counts_below q (O.long ∙ long)) known_laid.holds (over_rows gs known_row) (λ k. over_count k gs known_row)),
            ),
          ),
        )

  -- ---- a new code that fits

  module _ (i : ℕ) (pl t q t' : List ℕ) (F : Fitting g i c pl) (D : Added g i c pl t q t') (folded : Folded c) where
    abbrev the_new_row : Row
    the_new_row = new_row c pl

    -- the page that insertion leaves
    record Page_now : Type 0 where
      page : Slotted q
      long : length q ≡ length g
      deep : depth q ≡ depth g

    page_now : Page_now
    page_now = ⊎_elim
        (λ l. let T = (D.tight l).0 in record { page = T.2.page; long = T.2.long ∙ T.1.long; deep = T.2.deep ∙ T.1.deep })
        (λ l. let I = (D.roomy l).0 in record { page = I.page; long = I.long; deep = I.deep })
        (side (length g) (frontier g + 4 * count g + (12 + length c)))

    absent : place_of (rows_held S s) c ≡ none
    absent = placed ∙ found_not g slotted c i F.belongs

    fits : needs (the_new_row ∷ map as_row (rows g)) ≤ S.capacity
    unfolding need
    fits = (fits_needs g slotted S the_new_row long).0 F.fits

    rows_now : rows q ≡ added S (rows g) the_new_row
    rows_now = added_rows S g i c pl t q t' long F D

    six : Refusal6 S h (rows_held S s) the_new_row → ⊥
    six x = omega (arith, fits_six S h hash (rows_held S s) gs shows the_new_row (p - 2) (depth g) (rows g) U.holding begins fits)

    seven : Refusal7 S h s (rows_held S s) the_new_row → ⊥
    seven x = omega (arith, fits_seven S h hash (rows_held S s) gs shows the_new_row (p - 2) (depth g) (rows g) U.holding begins fits, pages_held S s)

    later : Shows S h (the_new_row ∷ rows_held S s) (put_new S h gs the_new_row)
    later = put_shown S h sized hash s the_new_row A absent six seven

    is : put_new S h gs the_new_row ≡ set gs (p - 2) (bucket (depth g) (rows q))
    is =
        put_fits_is S h hash (rows_held S s) gs shows the_new_row (p - 2) (depth g) (rows g) U.holding begins fits
        ∙ ap (λ l. set gs (p - 2) (bucket (depth g) l)) (sym rows_now)

    there : Memᴰ the_new_row (map as_row (rows q))
    there =
        let l : List Row = map as_row (rows g) in
        let e : in_order (the_new_row ∷ l) ≡ map as_row (rows q) =
        order_put the_new_row l ∙ ap (insert by_code the_new_row) (page_order g slotted) ∙ sym (rows_added S (rows g) the_new_row) ∙ ap (map as_row) (sym rows_now) in
        subst (Memᴰ the_new_row) e (mem_reordered (turned (in_order_reordered (the_new_row ∷ l))) (Memᴰ.head refl))

    -- the page has the prefix that it had
    begins_now : prefix_on h (depth g) (rows q) ≡ prefix_on h (depth g) (rows g)
    begins_now =
        let holding : Holding (put_new S h gs the_new_row) (p - 2) (depth g) (rows q) =
        ap (λ l. get_or l (p - 2) free) is ∙ set_holds gs (p - 2) (depth g) (rows q) (within_pages gs (p - 2) (depth g) (rows g) U.holding) in
        sym ((page_row S h (the_new_row ∷ rows_held S s) (depth g) (rows q) (later.page (p - 2) (depth g) (rows q) holding) the_new_row).0 there).1 ∙ sym begins

    pub fitted_more : (28 + 4 * 0 ≤ length (set_page S s p q)) × (le32 (set_page S s p q) (24 + 4 * 0) + 1 < 4294967296)
    fitted_more = row_more q (page_now.long ∙ long)

    pub put_fitted : (u : List ℕ) → CountRaised (set_page S s p q) 0 u → ((k : ℕ) → byte u k < 256) → Answers (put_accepted S h s (new_row c pl)) (new, u)
    put_fitted u R small =
        let N = page_now in
        let Q : BucketPage q = record { rules = N.page; some = let w = slot_of q the_new_row there in omega (arith, w.1) } in
        let L : Laid S h (set_page S s p q) (put_new S h gs the_new_row) = subst (Laid S h (set_page S s p q)) (sym is)
        (laid_set S h sized s gs (accepted_laid S h sized hash s A) p (depth g) (rows g) U.from U.to U.holding q Q (N.long ∙ long) N.deep begins_now) in
        let F : Frame (set_page S s p q) 24 56 u = inside_counts (set_page S s p q) u 0 _ (omega arith) R in
        let M : Laid S h u (put_new S h gs the_new_row) = recounted S h sized (set_page S s p q) u (put_new S h gs the_new_row) F L in
        let C : Counts S u = counts_more S s (set_page S s p q) u (put_new S h gs the_new_row) (opened S h s A).counts (counts_below q (N.long ∙ long)) R M.holds (length_same later.same ∙ omega arith)
        (λ k. ap (buckets_at k) is ∙ same_depth_count k gs (p - 2) (depth g) (rows g) (rows q) (within_pages gs (p - 2) (depth g) (rows g) U.holding) U.holding) in
        inr (
          (λ _. none_some absent),
          inr (
            (λ _. six),
            inr (
              (λ _. seven),
              (refl, laid_becomes S h sized hash u (the_new_row ∷ rows_held S s) (put_new S h gs the_new_row) M later (one_more the_new_row _ folded (held_folded S h sized hash s A)) s (F.len ∙ set_long S s p q U.to (N.long ∙ long)) small C),
            ),
          ),
        )
