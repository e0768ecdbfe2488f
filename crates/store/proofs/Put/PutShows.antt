-- PUT of a new code: pages that show the rows show them with the new one, and a bucket that does not hold the code's hash keeps its page and records.
-- Assumes nothing.
use mathlib.Core.Path.{◌≡◌, refl, sym, ap, subst, subst₂, ◌∙◌}
use mathlib.Core.Bool.{Bool, true, false}
use mathlib.Core.List.Memᴰ
use mathlib.Core.List.{List, [], ◌∷◌, map, Memᴰ}
use mathlib.Core.Logic.{◌⊎◌, inl, inr, ◌≢◌}
use mathlib.Core.Option.{some, none}
use Prim.Native.Nat.{ℕ, ◌+◌, ◌^◌, ◌≤◌, ◌<◌}
use native.Mathlib.Nat.{le_refl}
use native.Mathlib.Omega.{arith}
use lib.ListN.{length, get_or, set, length-set}
use lib.Seq.{set-set, get_or-set_same}
use Rattle.ground.specs.Says.{Says}
use Rattle.page.specs.Page.{Record}
use Rattle.partition.specs.Bits.{top}
use Rattle.partition.specs.declared.Shape.{Shape}
use Rattle.partition.specs.Partition.{Row, Prefix, need, needs, rows_of, IsBucket, Fine, Reordered, front, buckets}
use Rattle.partition.specs.Listing.{insert, in_order, place_of, Once}
use Rattle.partition.proofs.Bits.{top_step}
use Rattle.partition.proofs.Tree.{Under, pfx}
use Rattle.partition.proofs.Path.{path_under}
use Rattle.partition.proofs.Frame.{dec_under, inside_of}
use Rattle.partition.proofs.Rows.{load, load_mono, load_on, rows_on, no_need, to_load, listed}
use Rattle.partition.proofs.Laws.{Shallowest, bucket_shallowest, reordered, outside, inside, add_stays, add_appears, left_joined, has_bucket, in_order_lem}
use Rattle.partition.proofs.Store.{fine_add, home, outside_rows, not_deeper}
use Rattle.partition.proofs.Members.{asc_distinct}
use Rattle.partition.proofs.Below.{load_same, order_below, below}
use Rattle.store.specs.Pages.{Page, free, bucket, as_row, rows_in}
use Rattle.store.specs.Moves.{pick, find, is_free, holds, bucket_of, pack_from, packed, added, written, new_bucket, fits_on, put_on, put_new}
use Rattle.store.proofs.Showing.Shows.{prefix_on, Holding, Shows}
use Rattle.store.proofs.Showing.Shown.{within_pages, Part, Any, page_of_lem, whole, shows_of, find_held, find_unheld, bucket_found}
use Rattle.store.proofs.Showing.Holder.{its_bucket, its_shallowest, its_order, its_rows, its_needs}
use Rattle.store.proofs.Showing.Rooms.{Its, bucket_one, set_other, fill, fill_keeps, clear, becomes, enough, find_free}
use Rattle.store.proofs.Paging.Records.{fits_says, rows_packed, rows_added}
use Rattle.store.proofs.Put.Written.{NextFree, New, AllWritten, write_all, written_over, next_free}

module _ (S : Shape) (h : List ℕ → ℕ) (small : (c : List ℕ) → h c < 2 ^ 32) (rows : List Row) (r : Row) where
  abbrev x : ℕ
  x = h r.code

  -- what the put makes of the pages gs
  pub record Puts (gs fs : List Page) : Type 0 where
    pub part : Part S h (r ∷ rows) Any fs
    pub keeps : (i k : ℕ) (rs : List Record) → Holding gs i k rs → prefix_on h k rs ≢ top k (h r.code) → Holding fs i k rs

  -- not at or below the prefix of j bits of the hash
  abbrev Out : ℕ → ℕ → ℕ → Type 0
  Out j l w = Under j (top j x) l w → ⊥

  self : (j : ℕ) → Under j (top j x) j (top j x)
  self j = path_under (λ i. top i x) (top_step x) j j (le_refl j)

  module _ (j : ℕ) (f : Shallowest S h rows x j) where
    -- the buckets outside that prefix stay as they are
    outer : (P : ℕ → ℕ → Type 0) (gs : List Page) → Part S h rows P gs → ((l w : ℕ) → IsBucket S h rows l w → P l w → Out j l w)
        → ((l w : ℕ) → IsBucket S h rows l w → Out j l w → P l w) → Part S h (r ∷ rows) (Out j) gs
    outer P gs p to from = becomes S h rows P gs p (r ∷ rows) (Out j)
        (λ l qs o u.
        let n : Out j l (prefix_on h l qs) = to l (prefix_on h l qs) o.is u in
        let b : IsBucket S h (r ∷ rows) l (prefix_on h l qs) = (outside S h r rows j f l (prefix_on h l qs) n).0 o.is in
        (record { some = o.some; is = b; ordered = o.ordered ∙ ap in_order (sym (outside_rows S h small r rows j f l (prefix_on h l qs) n b)) }, n))
        (λ l w b n. let a = (outside S h r rows j f l w n).1 b in (a, from l w a n))

    -- one bucket more, at that prefix, is all
    one_more : (gs : List Page) → Part S h (r ∷ rows) (Out j) gs → IsBucket S h (r ∷ rows) j (top j x) → (i : ℕ) → i < length gs → get_or gs i free ≡ free
        → (rs : List Record) → map as_row rs ≡ in_order (rows_of h (r ∷ rows) j (top j x)) → Part S h (r ∷ rows) Any (set gs i (bucket j rs))
    one_more gs p b i l e rs o =
        let on = page_of_lem S h (r ∷ rows) j (top j x) rs b o in
        becomes S h (r ∷ rows) (λ a c. Out j a c ⊎ Its S h j rs a c) (set gs i (bucket j rs))
        (fill S h (r ∷ rows) (Out j) gs p i j rs l e on.0 (λ n. n (subst (λ w. Under j (top j x) j w) (sym on.1) (self j)))) (r ∷ rows) Any
        (λ a qs y u. (y, tt)) (λ a c is _. (is, which on.1 a c is (dec_under j (top j x) a c)))
      where
        which : prefix_on h j rs ≡ top j x → (a c : ℕ) → IsBucket S h (r ∷ rows) a c → Dec (Under j (top j x) a c) → Out j a c ⊎ Its S h j rs a c
        which q a c is (no n) = inl n
        which q a c is (yes u) =
            let t = inside_of (λ k. top k x) (top_step x) S.capacity (load h (r ∷ rows)) (load_mono h (r ∷ rows)) j a c (bucket_shallowest S h (r ∷ rows) x j b) u (to_load S h (r ∷ rows) a c is) in
            inr (t.0, t.1 ∙ sym q)

  module _ (gs : List Page) (s : Shows S h rows gs) (new : place_of rows r.code ≡ none)
      (six : needs (rows_of h (r ∷ rows) S.deepest (top S.deepest (h r.code))) ≤ S.capacity) (seven : length (buckets S h (r ∷ rows)) ≤ length gs) where
    once : Once (r ∷ rows)
    once = (new, s.once)

    fine : Fine S h (r ∷ rows)
    fine = fine_add S h r rows s.fine six

    -- ---- the page i holds the hash

    module _ (i k : ℕ) (rs : List Record) (e : Holding gs i k rs) (held : prefix_on h k rs ≡ top k (h r.code)) where
      abbrev v : ℕ
      v = top k (h r.code)

      abbrev cleared : List Page
      cleared = set gs i free

      there : i < length gs
      there = within_pages gs i k rs e

      there' : i < length cleared
      there' = omega (arith, there, length-set gs i free)

      is_free_lem : get_or cleared i free ≡ free
      is_free_lem = get_or-set_same gs i free free there

      mine : IsBucket S h rows k v
      mine = its_bucket S h rows gs s x i k rs e held

      shallow : Shallowest S h rows x k
      shallow = its_shallowest S h rows gs s x i k rs e held

      same : Reordered (map as_row rs) (rows_of h rows k v)
      same = its_rows S h rows gs s x i k rs e held

      all_need : needs (r ∷ map as_row rs) ≡ need r + needs (rows_of h rows k v)
      all_need = its_needs S h rows gs s x i k rs e held r

      others : Part S h (r ∷ rows) (Out k) cleared
      others =
          outer k shallow (λ l w. Any l w × (Its S h k rs l w → ⊥)) cleared (clear S h rows Any gs (whole S h rows gs s) i k rs e)
          (λ l w b u y. let q = inside S h r rows k shallow l w y b in u.1 (q.0, q.1 ∙ sym held))
          (λ l w b n. (tt, λ t. n (subst₂ (λ a c. Under k v a c) (sym t.0) (sym (t.1 ∙ held)) (self k))))

      -- pages that do not hold the hash are not touched
      elsewhere : (m l : ℕ) (qs : List Record) → Holding gs m l qs → prefix_on h l qs ≢ top l x → Holding cleared m l qs
      elsewhere m l qs y n = set_other gs i free m l qs (λ q. n (its (bucket_one (sym (subst (λ a. Holding gs a l qs) q y) ∙ e)))) y
        where
          its : (l ≡ k) × (qs ≡ rs) → prefix_on h l qs ≡ top l x
          its w = ap (λ a. prefix_on h a qs) w.0 ∙ ap (λ t. prefix_on h k t) w.1 ∙ held ∙ ap (λ a. top a x) (sym w.0)

      -- it fits its bucket
      put_fitting : needs (r ∷ map as_row rs) ≤ S.capacity → Puts gs (set gs i (bucket k (added S rs r)))
      unfolding in_order
      put_fitting fits = subst (Puts gs) (set-set gs i free (bucket k (added S rs r))) (record {
        part = one_more k shallow cleared others now i there' is_free_lem (added S rs r) rows_now;
        keeps = λ m l qs y n. fill_keeps cleared i (bucket k (added S rs r)) is_free_lem m l qs (elsewhere m l qs y n);
      })
        where
          now : IsBucket S h (r ∷ rows) k v
          now = (add_stays S h r rows k shallow (to_load S h rows k v mine).pos (omega (arith, fits, all_need)) k v).0 mine

          rows_now : map as_row (added S rs r) ≡ in_order (rows_of h (r ∷ rows) k v)
          rows_now = rows_added S rs r ∙ ap (insert (λ q. q.code) r) (its_order S h rows gs s x i k rs e held) ∙ ap in_order (sym (rows_on h r rows k))

      -- it does not: the new buckets, worked out from the page's rows and the new one
      module _ (heavy : S.capacity < needs (r ∷ map as_row rs)) where
        abbrev page_rows : List Row
        page_rows = r ∷ map as_row rs

        abbrev news : List Prefix
        news = buckets S h page_rows

        recs : Prefix → List Record
        recs p = pack_from 8 (in_order (rows_of h page_rows p.bits p.value))

        too_much : S.capacity < need r + needs (rows_of h rows k v)
        too_much = omega (arith, all_need)

        not_shown : New S h small (r ∷ rows) fine recs (Out k) news
        unfolding recs
        not_shown y m =
            let b = (below S h small r rows k (map as_row rs) same mine too_much y.bits y.value).0 ((listed S h small page_rows y.bits y.value).0 m).0 in
            (b.0, (λ n. n b.1), rows_packed 8 _ ∙ order_below S h small r rows k (map as_row rs) same once y.bits y.value b.1)

        wrote : AllWritten S h small (r ∷ rows) fine recs (Out k) news cleared i
        wrote =
            write_all S h small (r ∷ rows) fine recs news (Out k) cleared i others
            (asc_distinct S.deepest 0 (2 ^ S.deepest) news (in_order_lem S h page_rows)) not_shown (omega (arith, seven, length-set gs i free)) (λ _. (there', is_free_lem))

        -- THE ROOM TEST: after it a free page is found at every step
        pub put_found : NextFree gs i (map (packed h (r ∷ map as_row rs)) (buckets S h (r ∷ map as_row rs)))
        unfolding packed recs
        put_found = next_free gs i (map (packed h page_rows) news) wrote.found

        some_new : 0 < length (map (packed h page_rows) news)
        some_new =
            let deep : k ≤ S.deepest = not_deeper S h rows s.fine k v mine in
            let u : Under k v S.deepest (top S.deepest x) = path_under (λ i. top i x) (top_step x) k S.deepest deep in
            let b = has_bucket S h page_rows r (Memᴰ.head refl) (omega (arith, load_same S h small r rows k (map as_row rs) same S.deepest (top S.deepest x) u, six)) in
            go (pfx b.0 (top b.0 x)) news ((listed S h small page_rows b.0 (top b.0 x)).1 (b.2, b.1))
          where
            go : (y : Prefix) (l : List Prefix) → Memᴰ y l → 0 < length (map (packed h page_rows) l)
            go y [] m = absurd (Memᴰ.not-nil m)
            go y (z ∷ l) m = omega arith

        put_splitting : Puts gs (written gs i (map (packed h (r ∷ map as_row rs)) (buckets S h (r ∷ map as_row rs))))
        unfolding packed recs
        put_splitting = subst (Puts gs) (written_over gs i (map (packed h page_rows) news) some_new) (record {
          part = becomes S h (r ∷ rows) (λ l w. Out k l w ⊎ Memᴰ (pfx l w) news) (written cleared i (map (packed h page_rows) news)) wrote.part (r ∷ rows) Any
              (λ l qs o u. (o, tt)) (λ l w b _. (b, which l w b (dec_under k v l w)));
          keeps = λ m l qs y n. wrote.keeps m l qs (elsewhere m l qs y n);
        })
          where
            which : (l w : ℕ) → IsBucket S h (r ∷ rows) l w → Dec (Under k v l w) → Out k l w ⊎ Memᴰ (pfx l w) news
            which l w b (no n) = inl n
            which l w b (yes u) =
                inr ((listed S h small page_rows l w).1 ((below S h small r rows k (map as_row rs) same mine too_much l w).1 (b, u), not_deeper S h (r ∷ rows) fine l w b))

    -- ---- no bucket holds the hash

    alone : (k : ℕ) → rows_of h (r ∷ []) k (top k x) ≡ r ∷ []
    unfolding rows_of
    alone k = rows_on h r [] k

    put_unheld : ((k : ℕ) → IsBucket S h rows k (top k (h r.code)) → ⊥) → Puts gs (new_bucket h gs r (bucket_of (h r.code) (buckets S h (r ∷ rows_in gs))))
    unfolding packed
    put_unheld none_holds = subst (λ o. Puts gs (new_bucket h gs r o)) (sym named) (record {
      part = one_more j shallow gs others now (find is_free gs) room.0 room.1 recs (rows_packed 8 _ ∙ ap in_order (alone j ∙ sym (rows_on h r rows j ∙ ap (λ l. r ∷ l) (no_need (rows_of h rows j (top j x)) vacant))));
      keeps = λ m l qs y n. fill_keeps gs (find is_free gs) (bucket j recs) room.1 m l qs y;
    })
      where
        at : (j : ℕ) × (j ≤ S.deepest) × Shallowest S h rows x j
        at = home S h rows s.fine x

        j : ℕ
        j = at.0

        shallow : Shallowest S h rows x j
        shallow = at.2

        vacant : needs (rows_of h rows j (top j x)) ≡ 0
        vacant = let n : ¬ (0 < needs (rows_of h rows j (top j x))) = λ p. none_holds j (left_joined S h r rows j shallow p) in omega arith

        now : IsBucket S h (r ∷ rows) j (top j x)
        now = (add_appears S h r rows j shallow vacant (omega (arith, six, load_on h r rows S.deepest)) j (top j x)).1 (inr (refl, refl))

        named : bucket_of x (buckets S h (r ∷ rows_in gs)) ≡ some (pfx j (top j x))
        named = ap (bucket_of x) (reordered S h (front r s.same)) ∙ bucket_found S h small (r ∷ rows) fine x j now

        others : Part S h (r ∷ rows) (Out j) gs
        others =
            outer j shallow Any gs (whole S h rows gs s)
            (λ l w b u y. let q = inside S h r rows j shallow l w y b in none_holds j (subst₂ (λ a c. IsBucket S h rows a c) q.0 q.1 b)) (λ l w b n. tt)

        recs : List Record
        recs = pack_from 8 (in_order (rows_of h (r ∷ []) j (top j x)))

        room : (find is_free gs < length gs) × (get_or gs (find is_free gs) free ≡ free)
        room = find_free gs (omega (
          arith,
          enough S h small (r ∷ rows) fine (Out j) gs others (pfx j (top j x) ∷ []) ((λ m. Memᴰ.not-nil m), tt)
              (λ y m. subst (λ z. IsBucket S h (r ∷ rows) z.bits z.value × (Out j z.bits z.value → ⊥)) (sym (Memᴰ.eq_of_singleton m)) (now, λ n. n (self j))) seven,
        ))

    -- ---- the three cases

    pub puts : Puts gs (put_new S h gs r)
    unfolding put_new
    puts = on (get_or gs (find (holds h x) gs) free) refl
      where
        i : ℕ
        i = find (holds h x) gs

        fitted : (k : ℕ) (rs : List Record) → Holding gs i k rs → (b : Bool) → Says b (needs (r ∷ map as_row rs) ≤ S.capacity)
            → Puts gs (pick b (set gs i (bucket k (added S rs r))) (written gs i (map (packed h (r ∷ map as_row rs)) (buckets S h (r ∷ map as_row rs)))))
        fitted k rs e true t = put_fitting i k rs e (find_held S h rows gs s x k rs e) t
        fitted k rs e false t = put_splitting i k rs e (find_held S h rows gs s x k rs e) (omega (arith, t))

        on : (g : Page) → get_or gs (find (holds h x) gs) free ≡ g → Puts gs (put_on S h gs r (find (holds h x) gs) g)
        on free e = put_unheld (find_unheld S h rows gs s x e)
        on (bucket k rs) e = fitted k rs e (fits_on S rs r) (fits_says S rs r (fits_on S rs r) refl)

    pub put_shows : Shows S h (r ∷ rows) (put_new S h gs r)
    put_shows = shows_of S h (r ∷ rows) (put_new S h gs r) once fine puts.part
