-- REMOVE on pages: what is left of the code's prefix decides whether its page is cleared, loses the record, or is joined; the pages show the rows left.
-- Assumes nothing.
use borrow.Author.Tests.{eqb-true}
use mathlib.Core.Path.{◌≡◌, refl, sym, ap, subst, ◌∙◌}
use mathlib.Core.Bool.{Bool, true, false, true≢false}
use mathlib.Core.List.Memᴰ
use mathlib.Core.List.{List, ◌∷◌, map}
use mathlib.Core.Logic.{◌⊎◌, inl, inr, ◌≢◌}
use mathlib.Core.Option.{some, none}
use Prim.Native.Nat.{ℕ, ◌^◌, ◌≤◌, ◌<◌}
use native.Mathlib.Decide.{ℕ_discrete}
use native.Mathlib.Omega.{arith}
use lib.Dec.{eqb}
use lib.ListN.{length, get_or, set, length-map, get_or-map, get_or-eq_default}
use lib.Seq.{get_or-set_same, get_or-set_other}
use Rattle.ground.proofs.Sides.{side}
use Rattle.words.proofs.Orders.{order_refl}
use Rattle.page.specs.Page.{Record}
use Rattle.partition.specs.Bits.{top}
use Rattle.partition.specs.declared.Shape.{Shape}
use Rattle.partition.specs.Partition.{Row, needs, rows_of, IsBucket, Fine, buckets}
use Rattle.partition.specs.Listing.{by, without, in_order, place_of}
use Rattle.partition.proofs.Bits.{top_step}
use Rattle.partition.proofs.Laws.{share_fewer, Shallowest, no_overlap, bucket_shallowest}
use Rattle.partition.proofs.Maps.{cut, cut_none, cut_same, cut_front, placed}
use Rattle.partition.proofs.Path.{fit_above}
use Rattle.partition.proofs.Reorders.{turned}
use Rattle.partition.proofs.Rows.{load, load_mono, load_on, rows_on}
use Rattle.partition.proofs.Sorted.{by_code, same_map, some_none, some_once, order_cut}
use Rattle.partition.proofs.Rising.{without_map}
use Rattle.partition.proofs.Store.{home, fine_drop}
use Rattle.partition.proofs.Tree.{pfx}
use Rattle.store.specs.Pages.{Page, free, bucket, as_row, depth_on, rows_in}
use Rattle.store.specs.Moves.{pick, find, within, holds, bucket_of, pack_from, packed, cleared_on, join_page, joined, remove_on, removed}
use Rattle.store.proofs.Showing.Shows.{first_code, prefix_on, OnPage, Holding, Shows}
use Rattle.store.proofs.Showing.Shown.{page_of_lem, within_on, within_pages, find_passes, find_least, shows_reordered}
use Rattle.store.proofs.Paging.Records.{rows_packed}
use Rattle.store.proofs.Put.PutKept.{Kept}
use Rattle.store.proofs.Showing.BucketOf.{shallowest_bucket, bucket_of_some, bucket_of_none}
use Rattle.store.proofs.Showing.Known.{Known, known}
use Rattle.store.proofs.Remove.Fewer.{at_least, Left, cleared, filled, Fewer, fewer_shows, fewer_kept}

-- a row's own code goes
cut_own : (r : Row) (l : List Row) → place_of l r.code ≡ none → cut r.code (r ∷ l) ≡ l
unfolding without
cut_own r l e = ap (λ o. by o (r ∷ cut r.code l) (cut r.code l) (r ∷ cut r.code l)) (order_refl r.code) ∙ cut_none r.code l e

-- ---- the three cases, with r the row and W the rows left

module _ (S : Shape) (h : List ℕ → ℕ) (small : (c : List ℕ) → h c < 2 ^ 32) (r : Row) (W : List Row) (gs : List Page) (s : Shows S h (r ∷ W) gs)
    (j : ℕ) (f : Shallowest S h W (h r.code) j) where
  abbrev x : ℕ
  x = h r.code

  abbrev here : ℕ
  here = find (holds h x) gs

  pub its : Known S h (r ∷ W) gs s r.code r.place
  its = known S h (r ∷ W) gs s r.code r.place (placed (r ∷ W) s.once r (Memᴰ.head refl))

  -- the page of the code is of the bucket of its hash
  its_page : OnPage S h (r ∷ W) its.depth its.records
  its_page = s.page here its.depth its.records its.there

  its_bucket : IsBucket S h (r ∷ W) its.depth (top its.depth x)
  its_bucket = subst (IsBucket S h (r ∷ W) its.depth) its.begins its_page.is

  not_deeper : j ≤ its.depth
  not_deeper = at_least S h small r W gs s j f its.depth its_bucket

  in_pages : here < length gs
  in_pages = within_pages gs here its.depth its.records its.there

  pub its_within : within h j (top j x) (get_or gs here free) ≡ true
  its_within =
      ap (within h j (top j x)) its.there
      ∙ (within_on h j (top j x) its.depth its.records its_page.some).1 (share_fewer (h (first_code its.records)) x j its.depth not_deeper its.begins)

  -- where the prefix is the page's own, no other page has it
  alone : j ≡ its.depth → (i : ℕ) → i ≢ here → get_or gs i free ≡ pick (within h j (top j x) (get_or gs i free)) free (get_or gs i free)
  alone d i n = go (get_or gs i free) refl
    where
      one : (k : ℕ) (rs : List Record) → Holding gs i k rs → (b : Bool) → within h j (top j x) (bucket k rs) ≡ b → bucket k rs ≡ pick b free (bucket k rs)
      one k rs e false t = refl
      one k rs e true t =
          let o = s.page i k rs e in
          let z : prefix_on h j rs ≡ top j x = (within_on h j (top j x) k rs o.some).0 t in
          let w : prefix_on h its.depth rs ≡ top its.depth x = subst (λ m. prefix_on h m rs ≡ top m x) d z in
          let q = no_overlap S h (r ∷ W) k (prefix_on h k rs) its.depth (top its.depth x) (h (first_code rs)) o.is its_bucket refl w in
          absurd (n (s.apart i here k rs its.records e (subst (λ m. Holding gs here m its.records) (sym q.0) its.there) (q.1 ∙ sym its.begins ∙ ap (λ m. prefix_on h m its.records) (sym q.0))))

      go : (g : Page) → get_or gs i free ≡ g → g ≡ pick (within h j (top j x) g) free g
      go free e = refl
      go (bucket k rs) e = one k rs e (within h j (top j x) (bucket k rs)) refl

  one_page : j ≡ its.depth → (g : Page) → Left S h small r W gs s j f g → Fewer S h small r W gs s j f here (set gs here g)
  one_page d g l = record {
    was = its_within;
    lowest = λ i t. sole i t (ℕ_discrete i here);
    left = subst (Left S h small r W gs s j f) (sym (get_or-set_same gs here g free in_pages)) l;
    others = λ i n. get_or-set_other gs here i g free n ∙ alone d i n;
  }
    where
      sole : (i : ℕ) → within h j (top j x) (get_or gs i free) ≡ true → Dec (i ≡ here) → here ≤ i
      sole i t (yes q) = omega arith
      sole i t (no n) = absurd (true≢false (sym t ∙ ap (within h j (top j x)) (alone d i n ∙ ap (λ b. pick b free (get_or gs i free)) t)))

  -- nothing left: the page's only row was this one
  its_own : needs (rows_of h W j (top j x)) ≡ 0 → j ≡ its.depth
  its_own z = go (side j its.depth)
    where
      go : (j < its.depth) ⊎ (its.depth ≤ j) → j ≡ its.depth
      go (inr l) = omega (arith, not_deeper)
      go (inl l) = absurd (omega (
        arith,
        z,
        load_on h r W j,
        load_on h r W its.depth,
        its_bucket.fit,
        fit_above (λ i. top i x) (top_step x) S.capacity (load h (r ∷ W)) (load_mono h (r ∷ W)) its.depth j (bucket_shallowest S h (r ∷ W) x its.depth its_bucket) l,
      ))

  -- what the pages are then
  abbrev pub Then : List Page → Type 0
  Then hs = (m : ℕ) × Fewer S h small r W gs s j f m hs

  pub clears : needs (rows_of h W j (top j x)) ≡ 0 → Then (set gs here free)
  clears z = (here, one_page (its_own z) free (cleared z))

  module _ (p : 0 < needs (rows_of h W j (top j x))) where
    left_bucket : IsBucket S h W j (top j x)
    left_bucket = shallowest_bucket S h W x j f p

    fills : (rs : List Record) → map as_row rs ≡ in_order (rows_of h W j (top j x)) → Left S h small r W gs s j f (bucket j rs)
    fills rs e = let m = page_of_lem S h W j (top j x) rs left_bucket e in filled rs m.0 m.1

    -- rows left in the page's own prefix: the record goes
    rows_left : j ≡ its.depth → map as_row (without (λ q. q.code) r.code its.records) ≡ in_order (rows_of h W j (top j x))
    rows_left d =
        without_map (λ q. q.code) by_code as_row (λ q. refl) r.code its.records ∙ ap (cut r.code) its_page.ordered
        ∙ ap (λ v. cut r.code (in_order (rows_of h (r ∷ W) its.depth v))) its.begins
        ∙ ap (λ k. cut r.code (in_order (rows_of h (r ∷ W) k (top k x)))) (sym d)
        ∙ sym (order_cut r.code (rows_of h (r ∷ W) j (top j x)) (some_once h j (top j x) (r ∷ W) s.once))
        ∙ ap (λ l. in_order (cut r.code l)) (rows_on h r W j)
        ∙ ap in_order (cut_own r (rows_of h W j (top j x)) (some_none h j (top j x) W r.code s.once.0))

    pub loses : j ≡ its.depth → Then (set gs here (cleared_on r.code (get_or gs here free)))
    loses d =
        let e : cleared_on r.code (get_or gs here free) ≡ bucket j (without (λ q. q.code) r.code its.records) =
        ap (cleared_on r.code) its.there ∙ ap (λ k. bucket k (without (λ q. q.code) r.code its.records)) (sym d) in
        subst (λ g. Then (set gs here g)) (sym e)
        (here, (one_page d (bucket j (without (λ q. q.code) r.code its.records)) (fills (without (λ q. q.code) r.code its.records) (rows_left d))))

    -- rows left in a shorter prefix: joined
    abbrev first : ℕ
    first = join_page h gs (pfx j (top j x))

    abbrev emptied : Page → Page
    emptied g = pick (within h j (top j x) g) free g

    first_in : first < length gs
    first_in = omega (arith, find_least (within h j (top j x)) gs here in_pages its_within, in_pages)

    -- a page past the last is of no prefix
    in_use : (i : ℕ) → within h j (top j x) (get_or gs i free) ≡ true → i < length gs
    in_use i t = go (side i (length gs))
      where
        go : (i < length gs) ⊎ (length gs ≤ i) → i < length gs
        go (inl l) = l
        go (inr l) = absurd (true≢false (sym t ∙ ap (within h j (top j x)) (get_or-eq_default gs free l)))

    pub joins : Then (joined h gs W (pfx j (top j x)))
    unfolding packed
    joins = (
      first,
      record {
        was = find_passes (within h j (top j x)) gs first_in;
        lowest = λ i t. find_least (within h j (top j x)) gs i (in_use i t) t;
        left = subst (Left S h small r W gs s j f) (sym (get_or-set_same (map emptied gs) first (packed h W (pfx j (top j x))) free (subst (λ n. first < n) (sym (length-map gs emptied)) first_in)))
            (fills (pack_from 8 (in_order (rows_of h W j (top j x)))) (rows_packed 8 (in_order (rows_of h W j (top j x)))));
        others = λ i n. get_or-set_other (map emptied gs) first i (packed h W (pfx j (top j x))) free n ∙ get_or-map emptied gs i free;
      },
    )

    -- which of the two it is
    some_left : Then (remove_on h gs r.code W here (some (pfx j (top j x))))
    some_left = go (eqb j (depth_on (get_or gs here free))) refl
      where
        go : (b : Bool) → eqb j (depth_on (get_or gs here free)) ≡ b
            → Then (pick b (set gs here (cleared_on r.code (get_or gs here free))) (joined h gs W (pfx j (top j x))))
        go true e = loses (eqb-true j (depth_on (get_or gs here free)) e ∙ ap depth_on its.there)
        go false e = joins

  -- REMOVE, by what is left of the prefix
  pub removes : Then (remove_on h gs r.code W here (bucket_of x (buckets S h W)))
  removes = go (side 0 (needs (rows_of h W j (top j x))))
    where
      left_fine : Fine S h W
      left_fine = fine_drop S h r W s.fine

      go : (0 < needs (rows_of h W j (top j x))) ⊎ (needs (rows_of h W j (top j x)) ≤ 0) → Then (remove_on h gs r.code W here (bucket_of x (buckets S h W)))
      go (inl p) = subst (λ o. Then (remove_on h gs r.code W here o)) (sym ((bucket_of_some S h W x j f small left_fine (pfx j (top j x))).1 (refl, p))) (some_left p)
      go (inr n) =
          let z : needs (rows_of h W j (top j x)) ≡ 0 = omega arith in
          subst (λ o. Then (remove_on h gs r.code W here o)) (sym ((bucket_of_none S h W x j f small left_fine).1 z)) (clears z)

-- REMOVE of a known code
module _ (S : Shape) (h : List ℕ → ℕ) (small : (c : List ℕ) → h c < 2 ^ 32) (rows : List Row) (gs : List Page) (c old : List ℕ) (s : Shows S h rows gs) (e : place_of rows c ≡ some old) where
  held : Shows S h (rows_in gs) gs
  held = shows_reordered S h gs (turned s.same) s

  abbrev row : Row
  row = record { code = c; place = old }

  pub front : Shows S h (row ∷ cut c (rows_in gs)) gs
  front = shows_reordered S h gs (cut_front c old (rows_in gs) held.once ((same_map s.same held.once).1 c ∙ e)) held

  pub depth : (j : ℕ) × (j ≤ S.deepest) × Shallowest S h (cut c (rows_in gs)) (h c) j
  depth = home S h (cut c (rows_in gs)) (fine_drop S h row (cut c (rows_in gs)) front.fine) (h c)

  pub made : Then S h small row (cut c (rows_in gs)) gs front depth.0 depth.2 (removed S h gs c)
  unfolding removed
  made = removes S h small row (cut c (rows_in gs)) gs front depth.0 depth.2

  pub remove_shows : Shows S h (without (λ q. q.code) c rows) (removed S h gs c)
  remove_shows =
      shows_reordered S h (removed S h gs c) (cut_same c s.same) (fewer_shows S h small row (cut c (rows_in gs)) gs front depth.0 depth.2 made.0 (removed S h gs c) made.1)

  -- a bucket whose depth and rows come out the same keeps its page and its records
  pub remove_kept : Kept gs (removed S h gs c)
  remove_kept = fewer_kept S h small row (cut c (rows_in gs)) gs front depth.0 depth.2 made.0 (removed S h gs c) made.1
