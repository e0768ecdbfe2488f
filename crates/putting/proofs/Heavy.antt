-- PUT of a new code that does not fit the page that holds its hash: refusals 6 and 7 from that page's rows, else the page is split. Over any page size and hash.
-- Assumes nothing.
use mathlib.Core.Path.{◌≡◌, refl, sym, ap, subst, ◌∙◌}
use mathlib.Core.List.Memᴰ
use mathlib.Core.List.{List, [], ◌∷◌, map, Memᴰ}
use mathlib.Core.Logic.{◌⊎◌, inl, inr, ⊎_elim, ◌↔◌}
use mathlib.Core.Option.{none}
use Prim.Native.Nat.{ℕ, suc, ◌+◌, ◌-◌, ◌/◌, ◌^◌, ◌≤◌, ◌<◌}
use native.Mathlib.Omega.{arith}
use lib.ListN.{length, get_or, take, length-map, length-set}
use lib.Pow.{pow_mono}
use lib.Seq.{get_or-set_same, get_or-set_other}
use Rattle.ground.proofs.Tests.{none_some}
use Rattle.ground.specs.Lists.{byte}
use Rattle.ground.specs.Ladder.{Answers}
use Rattle.ground.proofs.Sides.{side}
use Rattle.words.specs.Le.{le32}
use Rattle.page.specs.Page.{Slotted, Belongs, depth, rows}
use Rattle.partition.specs.Bits.{top}
use Rattle.partition.specs.declared.Shape.{Shape}
use Rattle.partition.specs.Partition.{Row, need, needs, rows_of, buckets}
use Rattle.partition.specs.Listing.{place_of}
use Rattle.partition.proofs.Bits.{top_lt}
use Rattle.partition.proofs.Reorders.{length_same, needs_same}
use Rattle.partition.proofs.Rows.{same_load}
use Rattle.partition.proofs.Sizes.{twelve}
use Rattle.store.specs.Pages.{size, pages, page, dir_depth, entry_at, Page, bucket, contents, as_row, rows_in, rows_held, deepest_in}
use Rattle.store.specs.Accepted.{Calls, Accepted}
use Rattle.store.specs.Moves.{packed, written, put_new, frees}
use Rattle.store.specs.Counts.{one_at, buckets_at}
use Rattle.store.specs.Tables.{new, refused, Refusal6, Refusal7, put_accepted}
use Rattle.store.specs.Demands.{Sized, Hash}
use Rattle.store.proofs.Showing.Shows.{prefix_on, Shows}
use Rattle.store.proofs.Accepted.Rules.{opened}
use Rattle.store.proofs.Showing.Shown.{page_row}
use Rattle.store.proofs.Showing.Showing.{first_code_lem, accepted_shows, pages_held}
use Rattle.store.proofs.Accepted.Unique.{within, page_long}
use Rattle.store.proofs.Accepted.Spelled.{held_folded, one_more}
use Rattle.store.proofs.Accepted.Reading.{Naming, place_on_lem}
use Rattle.store.proofs.Paging.PageTies.{found_not, fits_needs}
use Rattle.store.proofs.Put.PutCases.{here_six, splits_seven, put_splits_is}
use Rattle.store.proofs.Put.PutRows.{put_shown}
use Rattle.store.proofs.Put.EveryStep.{Roomy, packed_used}
use Rattle.store.proofs.Counts.Ones.{ones}
use Rattle.store.proofs.Counts.Counted.{split_count}
use Rattle.store.proofs.Counts.Words.{buckets_few}
use Rattle.store.proofs.Demands.Said.{rows_few}
use Rattle.counts.specs.Tallies.{SameCounts, BucketsCounted, CountsNow, one_less}
use Rattle.counts.proofs.Raises.{word_kept, buckets_read, buckets_less}
use Rattle.directory.specs.Directory.{CallsFor, EntryFor, none as unnamed, names, PrefixNamed, Directed, Settleable, Recounted, Rewritten}
use Rattle.directory.proofs.Directories.{calls_same}
use Rattle.directory.proofs.Laying.{directable}
use Rattle.directory.proofs.Renews.{prefix_pages, prefix_holds, prefix_kept, one_calls, renewed}
use Rattle.putting.specs.Put.{new_row, Puttable, Crowded}
use Rattle.putting.specs.Split.{keyed, with_new, below, Source, taken_next, untaken, Room, NewPage, pages_below, CountedBelow, SplitCounted, Writable, BucketsWritten}
use Rattle.putting.proofs.Puts.{home_page, begins}
use Rattle.putting.proofs.Weighs.{load_any, below_shared, below_all}
use Rattle.putting.proofs.Counting.{same_depths}
use Rattle.directory.proofs.Recounts.{same_contents, directed_then, recounted_now}
use Rattle.directory.proofs.Settles.{unwritten, settling, settleable, settled}
use Rattle.putting.proofs.Splits.{first_given, rewritten_then, rewritten_self, long_then}

-- what is left of a page that the first takes
taken_some : (p : ℕ) (ns : List Page) → untaken p ns ≡ 0 → 2 ≤ p → 0 < length ns
taken_some p [] e l = absurd (omega (arith, e, l))
taken_some p (n ∷ ns) e l = omega arith

module _ (S : Shape) (h : List ℕ → ℕ) (hash : Hash h) (s : List ℕ) (p i : ℕ) (c pl : List ℕ) (C : Crowded S h s p i c pl) where
  abbrev P : Puttable S h s c pl
  P = C.row.row

  abbrev sized : Sized S
  sized = P.sized

  abbrev A : Accepted S h s
  A = P.accepted

  pub home : Naming S h s (top (dir_depth s) (h c)) p
  home = home_page S h hash s p c pl C.row

  abbrev B : Belongs (page S s p) i c
  B = C.belongs

  abbrev g : List ℕ
  g = page S s p

  abbrev r : Row
  r = new_row c pl

  -- the page's rows and the new one
  abbrev rs : List Row
  rs = with_new g r

  abbrev gs : List Page
  gs = contents S s

  shows : Shows S h (rows_held S s) gs
  shows = accepted_shows S h sized hash s A

  slotted : Slotted g
  slotted = home.bytes.rules.rules

  starts : prefix_on h (depth g) (rows g) ≡ top (depth g) (h c)
  starts = begins S h sized hash s A c p home

  absent : place_of (rows_held S s) c ≡ none
  absent = place_on_lem S h (rows_held S s) gs shows c (p - 2) (depth g) (rows g) home.holding (sym starts) ∙ found_not g slotted c i B

  heavy : S.capacity < needs rs
  unfolding need
  heavy = ⊎_elim (λ l. l) (λ l. absurd (omega (arith, C.tight, (fits_needs g slotted S r (page_long S s p home.to)).1 l))) (side S.capacity (needs rs))

  pub shallow : depth (page S s p) ≤ S.deepest
  shallow = omega (arith, home.low, (opened S h s A).page0.depth)

  -- there is room in an array of the counts for those of the new buckets
  pub few_counted : (l : List ℕ) → length l ≡ 14 → SameCounts s l → (n : ℕ) → n ≤ 2 ^ S.deepest → (j : ℕ) → j ≤ 12 → get_or l (suc j) 0 + n < 4294967296
  few_counted l long L n b j m =
      let e : 2 ^ S.deepest ≤ 2 ^ 12 = pow_mono (twelve S sized) in
      omega (arith, e, b, (buckets_read S s l (opened S h s A).counts long L).each j m, buckets_few j gs, pages_held S s, A.long.most, sized.whole, sized.most)

  -- the page's rows and the new one, whatever its place: they share the page's bits, and so their buckets lie below these
  module _ (o : List ℕ) where
    abbrev os : List Row
    os = with_new g (new_row c o)

    shared : (q : Row) → Memᴰ q os → top (depth g) (h q.code) ≡ top (depth g) (h c)
    shared q m = ⊎_elim
        (λ e. ap (λ y. top (depth g) (h y.code)) e)
        (λ t. ((page_row S h (rows_held S s) (depth g) (rows g) (shows.page (p - 2) (depth g) (rows g) home.holding) q).0 t).1 ∙ starts)
        (Memᴰ.cases_cons m)

    over : S.capacity < needs os
    unfolding needs need
    over = heavy

    lower : below S h os (depth g) (top (depth g) (h c)) ≡ below S h os 0 0
    lower = below_shared S h os (h c) (depth g) (hash c) shallow shared over

  -- refusal 6
  deep : needs (rows_of h (r ∷ rows_held S s) S.deepest (top S.deepest (h c))) ≡ needs (rows_of h (with_new g (keyed c)) S.deepest (top S.deepest (h c)))
  deep =
      here_six S h hash (rows_held S s) gs shows r (p - 2) (depth g) (rows g) home.holding starts
      ∙ load_any h r (keyed c) refl (map as_row (rows g)) (map as_row (rows g)) S.deepest (top S.deepest (h c)) refl

  pub heavy_six : S.capacity < needs (rows_of h (with_new (page S s p) (keyed c)) S.deepest (top S.deepest (h c))) → Answers (put_accepted S h s (new_row c pl)) (refused 6, s)
  heavy_six o = inr ((λ _. none_some absent), inl (tt, (omega (arith, deep, o), refl)))

  module _ (fine : needs (rows_of h (with_new (page S s p) (keyed c)) S.deepest (top S.deepest (h c))) ≤ S.capacity) where
    six : Refusal6 S h (rows_held S s) r → ⊥
    six x = omega (arith, deep, fine)

    -- refusal 7
    many : length (buckets S h rs) ≡ length (below S h (with_new g (keyed c)) (depth g) (top (depth g) (h c)))
    many =
        ap length (same_load S h rs (with_new g (keyed c)) (λ k v. load_any h r (keyed c) refl (map as_row (rows g)) (map as_row (rows g)) k v refl)
        ∙ sym (below_all S h (with_new g (keyed c))) ∙ sym (lower []))

    seven_is : (length (buckets S h (r ∷ rows_held S s)) ≤ length gs) ↔ (length (buckets S h rs) ≤ suc (frees gs))
    seven_is = splits_seven S h hash (rows_held S s) gs shows r (p - 2) (depth g) (rows g) home.holding starts heavy

    pub heavy_seven : frees (contents S s) + 1 < length (below S h (with_new (page S s p) (keyed c)) (depth (page S s p)) (top (depth (page S s p)) (h c))) → Answers (put_accepted S h s (new_row c pl)) (refused 7, s)
    heavy_seven o =
        let full : pages S s - 2 < length (buckets S h (r ∷ rows_held S s)) = ⊎_elim
        (λ l. l)
        (λ l. absurd (omega (arith, many, o, seven_is.0 (omega (arith, l, pages_held S s)))))
        (side (pages S s - 2) (length (buckets S h (r ∷ rows_held S s)))) in
        inr ((λ _. none_some absent), inr ((λ _. six), inl (tt, (full, refl))))

    -- the buckets that are written
    abbrev ns : List Page
    ns = pages_below S h rs (depth g) (top (depth g) (h c))

    news : ns ≡ map (packed h rs) (buckets S h rs)
    news = ap (map (packed h rs)) (lower pl ∙ below_all S h rs)

    count : length ns ≡ length (buckets S h rs)
    count = ap length news ∙ length-map (buckets S h rs) (packed h rs)

    -- as many as are counted
    pub as_many : length (pages_below S h (with_new (page S s p) (new_row c pl)) (depth (page S s p)) (top (depth (page S s p)) (h c)))
        ≡ length (below S h (with_new (page S s p) (keyed c)) (depth (page S s p)) (top (depth (page S s p)) (h c)))
    as_many = count ∙ many

    module _ (room : Roomy (contents S s) (p - 2) (pages_below S h (with_new (page S s p) (new_row c pl)) (depth (page S s p)) (top (depth (page S s p)) (h c)))) where
      seven : Refusal7 S h s (rows_held S s) r → ⊥
      seven x = omega (arith, seven_is.1 (omega (arith, count, room.many)), pages_held S s)

      pub source : Source (page S s p) i c pl
      source = record { page = slotted; belongs = B; natural = P.natural; good = P.good }

      pub writable : Writable S h (with_new (page S s p) (new_row c pl)) (depth (page S s p)) (top (depth (page S s p)) (h c)) s p
      writable = record {
        prefix = record { sized = sized; deep = shallow; bits = top_lt (h c) (depth g) (hash c) };
        long = A.long;
        sound = unwritten S sized h hash s A;
        from = λ _. home.from;
        to = home.to;
        room = λ m l f. subst (λ j. 0 < frees (written gs j (take m ns))) (sym (first_given gs p home.from)) (room.step m (f (omega (arith, home.from))) l);
      }

      -- the entries that the page called for name none
      module _ (s₁ : List ℕ) (N : PrefixNamed S s (dir_depth s) (depth (page S s p)) (top (depth (page S s p)) (h c)) 0 s₁) where
        abbrev d : ℕ
        d = dir_depth s

        abbrev v : ℕ
        v = top (depth g) (h c)

        same_held : contents S s₁ ≡ gs
        same_held = prefix_holds S s s₁ d (depth g) v 0 N

        same_pages : pages S s₁ ≡ pages S s
        same_pages = ap (λ m. m / size S) N.old.len

        kept : Rewritten S s s₁
        kept = prefix_kept S s s₁ d (depth g) v 0 N (unwritten S sized h hash s A)

        pub writable_then : Writable S h (with_new (page S s p) (new_row c pl)) (depth (page S s p)) (top (depth (page S s p)) (h c)) s₁ p
        writable_then =
            let W = writable in
            record {
              prefix = W.prefix;
              long = long_then S s s₁ N.old.len W.long;
              sound = rewritten_self S s s₁ kept;
              from = W.from;
              to = omega (arith, W.to, same_pages);
              room = subst (λ x. Room x p ns) (sym same_held) W.room;
            }

        module _ (t : List ℕ) (n : ℕ) (W : BucketsWritten S h (dir_depth s) (with_new (page S s p) (new_row c pl)) (depth (page S s p)) (top (depth (page S s p)) (h c)) s₁ p t n) where
          holds : contents S t ≡ put_new S h gs r
          holds =
              W.held ∙ (λ x. written (same_held x) (taken_next (same_held x) p) ns) ∙ (λ x. written gs (first_given gs p home.from x) (news x))
              ∙ sym (put_splits_is S h hash (rows_held S s) gs shows r (p - 2) (depth g) (rows g) home.holding starts heavy)

          shown : Shows S h (r ∷ rows_held S s) (contents S t)
          shown = rw holds (put_shown S h sized hash s r A absent six seven)

          pub split_kept : Rewritten S s t
          split_kept = rewritten_then S s s₁ t kept W.pages

          -- page p is taken, since there is a row more
          all_taken : n ≡ 0
          unfolding needs need
          all_taken = ⊎_elim
              (λ l. let e : contents S t ≡ gs = ap (contents S) (W.named.left l).0 ∙ same_held in absurd (omega (arith, needs_same shown.same, ap (λ x. needs (rows_in x)) e)))
              (λ l. omega arith)
              (side 0 n)

          -- the page called for what its prefix calls for
          old_calls : (i : ℕ) → CallsFor S h s d i p → Calls d (depth g) v i
          old_calls i x = subst (λ y. Calls d (depth g) y i) (sym (first_code_lem h g home.bytes.rules) ∙ starts) x.calls

          calls_old : (i : ℕ) → Calls d (depth g) v i → CallsFor S h s d i p
          calls_old i x = record { used = home.bytes.rules.rules.one; calls = subst (λ y. Calls d (depth g) y i) (sym (sym (first_code_lem h g home.bytes.rules) ∙ starts)) x }

          before : (q : ℕ) → 2 ≤ q → q < pages S s → page S s₁ q ≡ page S s q
          before q a b = prefix_pages S s s₁ d (depth g) v 0 N q a b

          each : (q : ℕ) → 2 ≤ q → q < pages S s → (page S t q ≡ page S s₁ q) ⊎ NewPage S h s₁ d (depth g) v p t q
          each q a b = W.named.each q a (omega (arith, b, same_pages))

          module _ (same : deepest_in (contents S t) ≡ dir_depth s) where
            low : (q : ℕ) → 2 ≤ q → q < pages S s → byte (page S t q) 0 ≡ 1 → depth (page S t q) ≤ d
            low q a b u = omega (arith, same, ((directable S t (pages S s) (settling S sized h hash s A t split_kept)).pages q a b).depths u)

            its_pages : (q : ℕ) → 2 ≤ q → q < pages S s
                → (page S t q ≡ page S s q) ⊎ (((i : ℕ) → CallsFor S h s d i q → Calls d (depth g) v i) × ((i : ℕ) → CallsFor S h t d i q → Calls d (depth g) v i))
            its_pages q a b = ⊎_elim
                (λ e. inl (e ∙ before q a b))
                (λ M. inr (
                  (λ i x. let e : q ≡ p = M.was (ap (λ y. byte y 0) (before q a b) ∙ x.used) in old_calls i (subst (CallsFor S h s d i) e x)),
                  (λ i x. M.calls (low q a b x.used) i x),
                ))
                (each q a b)

            others : (i : ℕ) → i < S.entries → (Calls d (depth g) v i → ⊥) → entry_at S t i ≡ entry_at S s i
            others i l f = ⊎_elim
                (λ e. ⊎_elim (λ y. absurd (f y.0)) (λ y. e ∙ y.1) (N.entry i l))
                (λ E. absurd (f E.under))
                (W.named.entries i l)

            -- an entry that is left names none, and no page calls for it
            uncalled : (i : ℕ) → i < S.entries → Calls d (depth g) v i → entry_at S t i ≡ 0 → (q : ℕ) → 2 ≤ q → q < pages S s → CallsFor S h t d i q → ⊥
            uncalled i l x z q a b y = ⊎_elim
                (λ e.
                let o : entry_at S s i ≡ q = one_calls S sized h s A i q l a b (calls_same S h s t d i q (e ∙ before q a b) y) in
                let m : entry_at S s i ≡ p = one_calls S sized h s A i p l home.from home.to (calls_old i x) in
                let w : q ≡ p = sym o ∙ m in
                let u = subst (CallsFor S h t d i) w y in
                omega (arith, z, home.from, (W.named.at_page (omega (arith, home.from)) all_taken).named (low p home.from home.to u.used) i u))
                (λ M. omega (arith, z, a, M.named (low q a b y.used) i y))
                (each q a b)

            own : (i : ℕ) → i < S.entries → Calls d (depth g) v i → EntryFor S h t d (pages S s) i (entry_at S t i)
            own i l x = ⊎_elim
                (λ e. let z : entry_at S t i ≡ 0 = e ∙ ⊎_elim (λ y. y.1) (λ y. absurd (y.0 x)) (N.entry i l) in unnamed z (uncalled i l x z))
                (λ E. names E.from (omega (arith, E.to, same_pages)) E.calls)
                (W.named.entries i l)

            split_directed : Directed S h t (dir_depth s) (pages S s) t
            split_directed = renewed S sized h s A (depth g) v t split_kept (record { pages = its_pages; others = others; own = own })

          -- ---- the counts

          held_then : contents S t ≡ written gs (p - 2) ns
          held_then = W.held ∙ (λ x. written (same_held x) (taken_next (same_held x) p) ns) ∙ (λ x. written gs (first_given gs p home.from x) ns)

          -- the same buckets, whatever the new row's place
          same_below : below S h (with_new g (keyed c)) (depth g) v ≡ below S h rs (depth g) v
          same_below =
              lower [] ∙ below_all S h (with_new g (keyed c)) ∙ sym (same_load S h rs (with_new g (keyed c)) (λ k v. load_any h r (keyed c) refl (map as_row (rows g)) (map as_row (rows g)) k v refl))
              ∙ sym (below_all S h rs) ∙ sym (lower pl)

          some_new : 0 < length ns
          some_new = taken_some p ns (sym W.then ∙ all_taken) home.from

          inside : p - 2 < length gs
          inside = omega (arith, home.from, home.to, pages_held S s)

          low_depth : depth g ≤ 12
          low_depth = omega (arith, shallow, twelve S sized)

          as_was : (i : ℕ) → 24 ≤ i → i < 80 → byte t i ≡ byte s i
          as_was i a b = split_kept.low i (omega (arith, sized.least))

          -- the array that is counted in
          module _ (l : List ℕ) (long : length l ≡ 14) (L : SameCounts s l) (l₁ : List ℕ) (B : CountedBelow S h (with_new (page S s p) (keyed c)) (depth (page S s p)) (top (depth (page S s p)) (h c)) l l₁) where
            before_split : BucketsCounted gs l
            before_split = buckets_read S s l (opened S h s A).counts long L

            split_then : (j : ℕ) → buckets_at j (contents S t) + one_at j (bucket (depth g) (rows g)) ≡ buckets_at j gs + buckets_at j (pages_below S h (with_new g (keyed c)) (depth g) v)
            split_then j = omega (
              arith,
              ap (buckets_at j) held_then,
              split_count j gs (p - 2) (depth g) (rows g) home.holding inside ns some_new (packed_used h rs (below S h rs (depth g) v)) room.many,
              ap (λ ps. buckets_at j (map (packed h rs) ps)) same_below,
              same_depths h j (with_new g (keyed c)) rs (below S h (with_new g (keyed c)) (depth g) v),
            )

            one_there : 1 ≤ get_or l₁ (1 + depth g) 0
            one_there =
                let e : suc (depth g) ≡ 1 + depth g = omega arith in
                omega (arith, ap (λ j. get_or l₁ j 0) e, ap (λ j. get_or l j 0) e, B.each (depth g) low_depth, (buckets_less gs (p - 2) (depth g) (rows g) l inside home.holding low_depth before_split).0)

            pub split_counted : SplitCounted t (depth (page S s p)) l₁
            split_counted = record {
              room = omega (arith, split_kept.long, within S s p home.to, sized.least);
              deep = low_depth;
              array = B.long;
              one = one_there;
              few = omega (arith, word_kept s t as_was 0 (omega arith), (opened S h s A).counts.rows, rows_few S h sized hash s A, pages_held S s, A.long.most, sized.whole, sized.most);
            }

            now_counted : BucketsCounted (contents S t) (one_less l₁ (1 + depth g))
            now_counted = record {
              long = length-set l₁ (1 + depth g) _ ∙ B.long;
              each = λ j b. ⊎_elim
                  (λ o. let q : suc j ≡ 1 + depth g = omega (arith, o.0) in
                  omega (arith, ap (λ m. get_or (one_less l₁ (1 + depth g)) m 0) q, get_or-set_same l₁ (1 + depth g) (get_or l₁ (1 + depth g) 0 - 1) 0 (omega (arith, B.long, low_depth)), ap (λ m. get_or l₁ m 0) q, B.each j b, before_split.each j b, split_then j, o.1))
                  (λ o. omega (arith, get_or-set_other l₁ (1 + depth g) (suc j) (get_or l₁ (1 + depth g) 0 - 1) 0 (λ q. o.0 (omega (arith, q))), B.each j b, before_split.each j b, split_then j, o.1))
                  (ones j (depth g) (rows g));
            }

            pub split_recounted : (t' : List ℕ) → CountsNow t (le32 t 24 + 1) (one_less l₁ (1 + depth (page S s p))) t' → Recounted S t t'
            split_recounted t' N = recounted_now S sized t (le32 t 24 + 1) (one_less l₁ (1 + depth g)) t' now_counted
                (omega (arith, word_kept s t as_was 0 (omega arith), (opened S h s A).counts.rows, length_same shown.same)) N

          -- and the counts are true
          module _ (t' : List ℕ) (R : Recounted S t t') where
            pub split_settleable : Settleable S t' (pages S s)
            split_settleable = settleable S sized h hash s A t split_kept t' R.old R.counts

            pub split_directed_then : deepest_in (contents S t') ≡ dir_depth s → Directed S h t' (dir_depth s) (pages S s) t'
            split_directed_then e =
                let l : pages S t ≡ pages S s = ap (λ m. m / size S) split_kept.long in
                directed_then S sized t t' R.old h (dir_depth s) (pages S s) (omega (arith, l)) (split_directed (ap deepest_in (sym (same_contents S sized t t' R.old)) ∙ e))

            pub heavy_new : (u : List ℕ) → Directed S h t' (deepest_in (contents S t')) (pages S s) u → ((k : ℕ) → byte u k < 256)
                → Answers (put_accepted S h s (new_row c pl)) (new, u)
            heavy_new u D b =
                inr (
                  (λ _. none_some absent),
                  inr (
                    (λ _. six),
                    inr (
                      (λ _. seven),
                      (refl, rw (← holds) (settled S sized h hash s A t split_kept t' R.old R.counts u D (r ∷ rows_held S s) shown (one_more r _ P.folded (held_folded S h sized hash s A)) b)),
                    ),
                  ),
                )
