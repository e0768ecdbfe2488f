-- REMOVE on an accepted store: where the code's row stands, what is left of its prefix, and the three writes. Over any page size and hash. Assumes nothing.
use mathlib.Core.Path.{◌≡◌, refl, sym, ap, subst, subst₂, ◌∙◌}
use mathlib.Core.List.{List, [], ◌∷◌, ◌++◌, map, Memᴰ}
use mathlib.Core.Bool.{Bool, true, false}
use mathlib.Core.Logic.{◌⊎◌, inl, inr, ⊎_elim}
use mathlib.Core.Option.{some}
use Prim.Native.Nat.{ℕ, suc, ◌+◌, ◌-◌, ◌*◌, ◌/◌, ◌^◌, ◌≤◌, ◌<◌}
use native.Mathlib.Omega.{arith}
use native.Mathlib.Nat.{mul-le-mul_right}
use native.Mathlib.Decide.{ℕ_discrete}
use lib.ListN.{length, get_or, set, replicate, length-replicate, length-map}
use lib.Pow.{pow_mono}
use lib.Seq.{get_or-set_same}
use borrow.Author.Tests.{eqb-true}
use Rattle.ground.proofs.Tests.{untrue}
use Rattle.ground.specs.Lists.{byte}
use Rattle.ground.proofs.Sides.{side}
use Rattle.ground.proofs.Tables.{length_tab}
use Rattle.page.specs.Page.{Record, Slotted, BucketPage, depth, count, code, place, rows, row_at}
use Rattle.page.specs.Steps.{Removed}
use Rattle.page.proofs.Sums.{len_of_code}
use Rattle.partition.specs.Bits.{top}
use Rattle.partition.specs.Partition.{Row, need, needs, rows_of, IsBucket, Reordered}
use Rattle.partition.proofs.Directory.{entry_hash}
use Rattle.partition.proofs.Sizes.{twelve}
use Rattle.partition.proofs.Sum.{prefix_row}
use Rattle.partition.specs.Listing.{without, in_order, place_of, Once}
use Rattle.partition.proofs.Bits.{top_step, top_lt}
use Rattle.partition.proofs.Laws.{Shallowest, share_fewer, bucket_shallowest}
use Rattle.partition.proofs.Maps.{cut, cut_none, cut_front, cut_length, cut_same, cut_gone, once_remove}
use Rattle.partition.proofs.Path.{fit_above}
use Rattle.partition.proofs.Reorders.{length_same, needs_same, rows_same, mem_reordered}
use Rattle.partition.proofs.Rising.{tab_in, tab_member, without_member, without_map}
use Rattle.partition.proofs.Rows.{load, load_mono, rows_on, some_need}
use Rattle.partition.proofs.Sorted.{by_code, order_same, in_order_reordered, some_none, some_once}
use Rattle.partition.specs.declared.Shape.{Shape}
use Rattle.store.specs.Pages.{size, pages, Page, free, bucket, page, read, entry_at, dir_depth, contents, as_row, rows_in, rows_held, deepest_in, set_page}
use Rattle.store.specs.Accepted.{Bucket, Stands, unused, used, Calls}
use Rattle.words.specs.Le.{le32}
use Rattle.words.specs.Moves.{Frame}
use Rattle.words.proofs.Bytes.{le32_same}
use Rattle.store.specs.Moves.{pick, find, holds, within, pack_from, packed, cleared_on, removed}
use Rattle.store.specs.Tables.{Becomes}
use Rattle.store.specs.Counts.{one_at, buckets_at}
use Rattle.store.specs.Demands.{Sized, Hash}
use Rattle.store.proofs.Accepted.Rules.{opened}
use Rattle.store.proofs.Counts.Counted.{set_count, same_depth_count}
use Rattle.store.proofs.Counts.Ones.{ones}
use Rattle.store.proofs.Counts.Words.{counts_word}
use Rattle.counts.specs.Tallies.{BucketsCounted, CountsNow, CountLowered}
use Rattle.counts.proofs.Deepest.{deepest_low, none_above}
use Rattle.counts.proofs.Raises.{inside_counts, inside_both, other_count, word_kept, counts_down}
use Rattle.removal.proofs.Lowers.{counts_fewer}
use Rattle.store.proofs.Showing.Shows.{first_code, prefix_on, Holding, OnPage, Shows}
use Rattle.store.proofs.Showing.Shown.{within_on, within_pages, find_least, find_passes}
use Rattle.store.proofs.Accepted.Named.{calls_hash}
use Rattle.store.proofs.Accepted.Unique as Unique
use Rattle.store.proofs.Accepted.Unique.{read_zero, read_used, held, page_long}
use Rattle.store.proofs.Accepted.Owner.{entry_within}
use Rattle.store.proofs.Showing.Showing.{first_of, first_code_lem, calls_top, accepted_shows, pages_held}
use Rattle.store.proofs.Showing.Known.{Known, only_page}
use Rattle.store.proofs.Showing.Holder as Holder
use Rattle.store.proofs.Showing.Rooms.{bucket_one}
use Rattle.store.proofs.Remove.MoveRows.{remove_shown}
use Rattle.store.proofs.Remove.RemoveCases as Cases
use Rattle.store.proofs.Showing.Within.{one_depth, rows_within}
use Rattle.store.proofs.Accepted.Spelled.{AllFolded, held_folded, one_less}
use Rattle.store.proofs.Accepted.Accepting.{Laid, accepted_laid, laid_becomes, recounted}
use Rattle.store.proofs.Paging.PageTies.{row_in, zeros, read_cleared, page_once, found_at, removed_rows}
use Rattle.store.proofs.Paging.Views.{set_long, set_same, set_other, set_below, set_contents}
use Rattle.directory.specs.Directory.{CallsFor, none, names, PrefixNamed, Directed, SoundPage, free as vacant, used as occupied, Settleable, Recounted, Rewritten}
use Rattle.directory.proofs.Directories.{calls_same}
use Rattle.directory.proofs.Laying.{on_page}
use Rattle.directory.proofs.Renews.{packed_bits, prefix_pages, prefix_holds, prefix_kept, one_calls, entry_calls, renewed}
use Rattle.joining.specs.Prefix.{Climbed}
use Rattle.joining.specs.Join.{others_in, OfPrefix, NamedBy, Joinable, joined_pages, Rejoined}
use Rattle.removal.specs.Remove.{Leaving, rows_left, Fits}
use Rattle.directory.proofs.OnePage.{laid_set}
use Rattle.directory.proofs.Recounts.{same_contents, directed_then, recounted_now}
use Rattle.directory.proofs.Settles.{unwritten, settling, settleable, settled}
use Rattle.joining.proofs.Prefixes.{within_used}
use Rattle.joining.proofs.Gathers.{cut_append, cut_same as cut_key}

-- pages cleared have no more buckets
cleared_few : (f : Page → Bool) (k : ℕ) (gs : List Page) → buckets_at k (map (λ g. pick (f g) free g) gs) ≤ buckets_at k gs
unfolding buckets_at
cleared_few f k [] = omega arith
cleared_few f k (g ∷ gs) = omega (arith, go (f g), cleared_few f k gs)
  where
    go : (b : Bool) → one_at k (pick b free g) ≤ one_at k g
    go true = omega arith
    go false = omega arith

module _ (S : Shape) (sized : Sized S) (h : List ℕ → ℕ) (hash : Hash h) (s : List ℕ) (p i : ℕ) (c : List ℕ) (L : Leaving S h s p i c) where
  abbrev g : List ℕ
  g = page S s p

  abbrev k : ℕ
  k = depth g

  abbrev gs : List Page
  gs = contents S s

  abbrev rs : List Row
  rs = rows_held S s

  abbrev x : ℕ
  x = h c

  abbrev old : List ℕ
  old = place g i

  shows : Shows S h rs gs
  shows = accepted_shows S h sized hash s L.accepted

  slotted : Slotted g
  slotted = L.rules.rules

  long : length g ≡ size S
  long = page_long S s p L.to

  holding : Holding gs (p - 2) k (rows g)
  holding = held S s p L.from L.to ∙ read_used g L.rules

  -- the page found for the code's hash
  pub here : find (holds h x) gs ≡ p - 2
  here =
      ap (λ y. find (holds h (h y)) gs) (sym L.coded)
      ∙ only_page S h rs gs shows (p - 2) k (rows g) holding (as_row (row_at g i)) (row_in g i L.slot)

  abbrev its : Known S h rs gs shows c old
  its = Cases.its S h rs gs c old shows L.known

  same : (its.depth ≡ k) × (its.records ≡ rows g)
  same = bucket_one (sym its.there ∙ ap (λ j. get_or gs j free) here ∙ holding)

  begins : prefix_on h k (rows g) ≡ top k x
  begins = subst₂ (λ d r. prefix_on h d r ≡ top d x) same.0 same.1 its.begins

  -- it is not deeper than the directory
  pub page_low : depth (page S s p) ≤ dir_depth s
  page_low = go ((opened S h s L.accepted).stands p L.from L.to)
    where
      go : Stands S h s p → k ≤ dir_depth s
      go (unused z _) = absurd (omega (arith, z 0, slotted.one))
      go (used _ l _) = l

  -- a bucket page is not deeper than there can be
  pub page_shallow : SoundPage S (page S s p) → depth (page S s p) ≤ S.deepest
  page_shallow (vacant z) = absurd (omega (arith, z 0, slotted.one))
  page_shallow (occupied b d) = d

  -- no bucket is deeper than the directory
  not_deeper : (m : ℕ) → dir_depth s < m → buckets_at m gs ≡ 0
  not_deeper m l = none_above gs (dir_depth s) (omega (arith, (accepted_laid S h sized hash s L.accepted).deep)) m l

  -- ---- going up

  sum : (j : ℕ) → needs (rows_of h rs j (top j x)) ≡ 12 + length c + needs (rows_of h (rows_left S s c) j (top j x))
  sum = Cases.needs_left S h rs gs c old shows L.known

  pub its_bucket : IsBucket S h (rows_held S s) (depth (page S s p)) (top (depth (page S s p)) (h c))
  its_bucket = Holder.its_bucket S h rs gs shows x (p - 2) k (rows g) holding begins

  pub climbed_fits : (need j : ℕ) → need ≡ 12 + length c → Climbed S h (rows_held S s) (h c) (depth (page S s p)) need j → Fits S h s c j
  climbed_fits need j e C = record {
    fit = ⊎_elim
        (λ l. omega (arith, C.fit l, sum j))
        (λ l. let q : its.depth ≡ j = omega (arith, same.0, C.most) in subst (λ d. needs (rows_of h (rows_left S s c) d (top d x)) ≤ S.capacity) q (Cases.fits_here S h rs gs c old shows L.known))
        (side j k);
    over = λ m q. omega (arith, C.over m q, sum m);
  }

  -- ---- what is left on the page

  abbrev rest : List Row
  rest = cut c (map as_row (rows g))

  found : place_of (map as_row (rows g)) c ≡ some old
  found = found_at g slotted c i L.slot L.coded

  many : count g ≡ suc (length rest)
  many = sym (length-map (rows g) as_row ∙ length_tab (row_at g) (count g)) ∙ cut_length c old (map as_row (rows g)) (page_once g slotted) found

  -- the rows left of the page's prefix are those left on the page
  rest_needs : needs (rows_of h (rows_left S s c) k (top k x)) ≡ needs rest
  unfolding need needs
  rest_needs =
      let w = sum k in
      let y : needs (map as_row (rows g)) ≡ needs (rows_of h rs k (top k x)) = needs_same (Holder.its_rows S h rs gs shows x (p - 2) k (rows g) holding begins) in
      let z : needs (map as_row (rows g)) ≡ 12 + length c + needs rest = needs_same (cut_front c old (map as_row (rows g)) (page_once g slotted) found) in
      omega arith

  bucket_page : Bucket h g
  bucket_page = go ((opened S h s L.accepted).stands p L.from L.to)
    where
      go : Stands S h s p → Bucket h g
      go (unused z _) = absurd (omega (arith, z 0, slotted.one))
      go (used b _ _) = b

  module _ (j : ℕ) (F : Fits S h s c j) where
    shallow : Shallowest S h (rows_left S s c) x j
    shallow = record { fit = F.fit; above = F.over }

    spelled : AllFolded (rows_left S s c)
    spelled = one_less c rs (held_folded S h sized hash s L.accepted)

    -- the pages then
    after : Shows S h (rows_left S s c) (removed S h gs c)
    after = remove_shown S h sized hash s c old L.accepted L.known

    one_left : length rs ≡ suc (length (rows_left S s c))
    one_left = cut_length c old rs shows.once L.known

    -- there is a row to lose, and one less then
    pub some_rows : le32 s 24 ≡ suc (length (rows_left S s c))
    some_rows = (opened S h s L.accepted).counts.rows ∙ one_left

    pub rows_then : (t : List ℕ) → contents S t ≡ removed S h gs c → length (rows_held S t) + 1 ≡ le32 s 24
    rows_then t e = omega (arith, some_rows, ap (λ y. length (rows_in y)) e, length_same after.same)

    -- ---- rows left at the page's own depth: the record goes

    module _ (own : j ≡ k) (two : 2 ≤ count g) (q : List ℕ) (R : Removed g i q) where
      rows_left_lem : rows q ≡ without (λ r. r.code) c (rows g)
      rows_left_lem = removed_rows g i q slotted L.slot R ∙ ap (λ y. without (λ r. r.code) y (rows g)) L.coded

      fewer : count q ≡ length rest
      fewer = sym (length-map (rows q) as_row ∙ length_tab (row_at q) (count q)) ∙ ap length (ap (map as_row) rows_left_lem ∙ without_map (λ r. r.code) by_code as_row (λ r. refl) c (rows g))

      kept : BucketPage q
      kept = record { rules = R.page; some = omega (arith, many, fewer) }

      -- the first code is one that was there
      was_there : (m : ℕ) × (m < count g) × (row_at q 0 ≡ row_at g m)
      was_there = tab_member (row_at g) (count g) (row_at q 0)
          (without_member (λ r. r.code) c (rows g) (row_at q 0) (subst (Memᴰ (row_at q 0)) rows_left_lem (tab_in (row_at q) (count q) 0 (omega (arith, kept.some)))))

      still : prefix_on h k (rows q) ≡ prefix_on h k (rows g)
      still =
          let w = was_there in
          ap (λ y. top k (h y)) (first_of (row_at q) (count q) (omega (arith, kept.some)))
          ∙ ap (λ r. top k (h r.code)) w.2
          ∙ bucket_page.share w.0 0 w.1 (omega (arith, L.slot))
          ∙ sym (first_code_lem h g L.rules)

      written : removed S h gs c ≡ set gs (p - 2) (bucket k (rows q))
      written =
          Cases.removed_loses S h rs gs c old shows L.known hash j shallow positive (own ∙ sym same.0)
          ∙ ap (λ m. set gs m (cleared_on c (get_or gs m free))) here
          ∙ ap (λ y. set gs (p - 2) (cleared_on c y)) holding
          ∙ ap (λ l. set gs (p - 2) (bucket k l)) (sym rows_left_lem)
        where
          positive : 0 < needs (rows_of h (rows_left S s c) j (top j x))
          positive = omega (arith, ap (λ d. needs (rows_of h (rows_left S s c) d (top d x))) own, rest_needs, (some_need rest).0 (omega (arith, many)))

      abbrev s₁ : List ℕ
      s₁ = set_page S s p q

      -- page 0 stays
      counts_below : (m : ℕ) → 24 ≤ m → m < 80 → byte s₁ m ≡ byte s m
      counts_below m a b = set_below S s p q L.to (R.long ∙ long) m (omega (arith, mul-le-mul_right (size S) L.from, sized.least))

      -- and the number of rows can be one less
      pub row_less : (28 + 4 * 0 ≤ length (set_page S s p q)) × (1 ≤ le32 (set_page S s p q) (24 + 4 * 0))
      row_less =
          let e : le32 s₁ 24 ≡ le32 s 24 = word_kept s s₁ counts_below 0 (omega arith) in (
            omega (arith, set_long S s p q L.to (R.long ∙ long), Unique.within S s p L.to, sized.least),
            omega (arith, e, (opened S h s L.accepted).counts.rows, one_left),
          )

      pub loses : (u : List ℕ) → CountLowered (set_page S s p q) 0 u → ((m : ℕ) → byte u m < 256) → Becomes S h s (removed S h gs c) u
      loses u D small =
          let F : Frame s₁ 24 56 u = inside_counts s₁ u 0 _ (omega arith) D in
          let M : Laid S h u (removed S h gs c) = recounted S h sized s₁ u (removed S h gs c) F (subst (Laid S h s₁) (sym written)
          (laid_set S h sized s gs (accepted_laid S h sized hash s L.accepted) p k (rows g) L.from L.to holding q kept (R.long ∙ long) R.deep still)) in
          laid_becomes S h sized hash u (rows_left S s c) (removed S h gs c) M after spelled s (F.len ∙ set_long S s p q L.to (R.long ∙ long)) small
          (counts_fewer S s s₁ u (removed S h gs c) (opened S h s L.accepted).counts counts_below D M.holds (omega (arith, length_same after.same, one_left))
          (λ m. ap (buckets_at m) written ∙ same_depth_count m gs (p - 2) k (rows g) (rows q) (within_pages gs (p - 2) k (rows g) holding) holding))

    -- pages written anew, counted and settled
    module _ {t t' : List ℕ} (W : Rewritten S s t) (N : Recounted S t t') where
      pub can_settle : Settleable S t' (pages S s)
      can_settle = settleable S sized h hash s L.accepted t W t' N.old N.counts

      -- none is deeper than the directory was
      pub low_then : ((m : ℕ) → dir_depth s < m → buckets_at m (contents S t) ≡ 0) → deepest_in (contents S t') ≤ dir_depth s
      low_then f = subst (λ y. deepest_in y ≤ dir_depth s) (sym (same_contents S sized t t' N.old)) (deepest_low (contents S t) (dir_depth s) f)

      pub directed_still : Directed S h t (dir_depth s) (pages S s) t → Directed S h t' (dir_depth s) (pages S s) t'
      directed_still D =
          let l : pages S t ≡ pages S s = ap (λ n. n / size S) W.long in
          directed_then S sized t t' N.old h (dir_depth s) (pages S s) (omega (arith, l)) D

      pub settles : {u : List ℕ} → contents S t ≡ removed S h gs c → Directed S h t' (deepest_in (contents S t')) (pages S s) u → ((m : ℕ) → byte u m < 256) → Becomes S h s (removed S h gs c) u
      settles {u} holds_then D small =
          subst (λ l. Becomes S h s l u) holds_then
          (settled S sized h hash s L.accepted t W t' N.old N.counts u D (rows_left S s c) (subst (Shows S h (rows_left S s c)) (sym holds_then) after) spelled small)

    -- ---- nothing left on the page: it is cleared

    module _ (own : j ≡ k) (one : count g ≡ 1) where
      abbrev t : List ℕ
      t = set_page S s p (replicate (size S) 0)

      zero_long : length (replicate {A = ℕ} (size S) 0) ≡ size S
      zero_long = length-replicate {A = ℕ} (size S) 0

      pub clear_written : Rewritten S s t
      clear_written =
          let before = unwritten S sized h hash s L.accepted in
          record {
            long = set_long S s p (replicate (size S) 0) L.to zero_long;
            low = λ m l. set_below S s p (replicate (size S) 0) L.to zero_long m (omega (arith, mul-le-mul_right (size S) L.from));
            sound = λ y a b. go y a b (before.sound y a b) (ℕ_discrete y p);
          }
        where
          go : (y : ℕ) → 2 ≤ y → y < pages S s → SoundPage S (page S s y) → Dec (y ≡ p) → SoundPage S (page S t y)
          go y a b w (yes e) = subst (SoundPage S) (sym (ap (page S t) e ∙ set_same S s p (replicate (size S) 0) L.to zero_long)) (vacant (zeros (size S)))
          go y a b w (no n) = subst (SoundPage S) (sym (set_other S s p (replicate (size S) 0) L.to zero_long y n)) w

      pub clear_holds : contents S t ≡ removed S h gs c
      clear_holds =
          set_contents S s p (replicate (size S) 0) L.to zero_long L.from ∙ ap (set gs (p - 2)) (read_cleared (size S)) ∙ ap (λ m. set gs m free) (sym here)
          ∙ sym (Cases.removed_clears S h rs gs c old shows L.known hash j shallow nothing)
        where
          none_needed : needs rest ≡ 0
          none_needed = ⊎_elim (λ l. absurd (omega (arith, many, (some_need rest).1 l))) (λ l. omega arith) (side 0 (needs rest))

          nothing : needs (rows_of h (rows_left S s c) j (top j x)) ≡ 0
          nothing = ap (λ d. needs (rows_of h (rows_left S s c) d (top d x))) own ∙ rest_needs ∙ none_needed

      -- and the entries that its prefix calls for name nothing
      module _ {u : List ℕ} (N : PrefixNamed S t (dir_depth s) k (top k x) 0 u) where
        pub clear_kept : Rewritten S s u
        clear_kept =
            let e : pages S t ≡ pages S s = ap (λ n. n / size S) clear_written.long in
            let K = prefix_kept S t u (dir_depth s) k (top k x) 0 N (record { long = refl; low = λ m l. refl; sound = λ q a b. clear_written.sound q a (omega (arith, b, e)) }) in
            record { long = K.long ∙ clear_written.long; low = λ m l. K.low m l ∙ clear_written.low m l; sound = λ q a b. K.sound q a (omega (arith, b, e)) }

        pub clear_then : contents S u ≡ removed S h gs c
        clear_then = prefix_holds S t u (dir_depth s) k (top k x) 0 N ∙ clear_holds

        -- page 0 is as it was, and its counts can be one less
        as_was : (m : ℕ) → 24 ≤ m → m < 80 → byte u m ≡ byte s m
        as_was m a b = clear_kept.low m (omega (arith, sized.least))

        room_then : 80 ≤ length u
        room_then = omega (arith, clear_kept.long, Unique.within S s p L.to, sized.least)

        low_k : k ≤ 12
        low_k = omega (arith, page_low, (opened S h s L.accepted).page0.depth, twelve S sized)

        inside : p - 2 < length gs
        inside = within_pages gs (p - 2) k (rows g) holding

        one_gone : (m : ℕ) → buckets_at m (removed S h gs c) + one_at m (bucket k (rows g)) ≡ buckets_at m gs
        one_gone m =
            let e : contents S t ≡ set gs (p - 2) free = set_contents S s p (replicate (size S) 0) L.to zero_long L.from ∙ ap (set gs (p - 2)) (read_cleared (size S)) in
            omega (arith, ap (buckets_at m) (sym clear_holds ∙ e), set_count m gs (p - 2) free inside, ap (one_at m) holding)

        pub clear_row : (28 + 4 * 0 ≤ length u) × (1 ≤ le32 u (24 + 4 * 0))
        clear_row = (omega (arith, room_then), omega (arith, word_kept s u as_was 0 (omega arith), some_rows))

        pub clear_bucket : (w : List ℕ) → CountLowered u 0 w → (28 + 4 * (1 + k) ≤ length w) × (1 ≤ le32 w (24 + 4 * (1 + k)))
        clear_bucket w R =
            let e : suc k ≡ 1 + k = omega arith in
            let now : le32 u (24 + 4 * suc k) ≡ buckets_at k gs = word_kept s u as_was (suc k) (omega (arith, low_k)) ∙ counts_word S s (opened S h s L.accepted).counts (suc k) (omega (arith, low_k)) in (
              omega (arith, R.old.len, room_then, low_k),
              ⊎_elim
                  (λ o. omega (arith, other_count u w 0 _ (omega arith) R (1 + k) (λ z. omega (arith, z)), ap (λ y. le32 u (24 + 4 * y)) e, now, one_gone k, o.1))
                  (λ o. absurd (o.0 refl))
                  (ones k k (rows g)),
            )

        pub clear_none : (m : ℕ) → dir_depth s < m → buckets_at m (contents S u) ≡ 0
        clear_none m l = omega (arith, one_gone m, not_deeper m l, ap (buckets_at m) clear_then)

        pub clear_recounted : (w t' : List ℕ) → CountLowered u 0 w → CountLowered w (1 + k) t' → Recounted S u t'
        clear_recounted w t' R D =
            let E : Frame u 24 56 t' = inside_both u w t' 0 (1 + k) _ _ (omega arith) (omega (arith, low_k)) R D in
            record {
              old = E;
              counts = counts_down S s u w t' (removed S h gs c) k (rows g) (opened S h s L.accepted).counts as_was low_k R D (same_contents S sized u t' E ∙ clear_then)
                  (omega (arith, length_same after.same, one_left)) one_gone;
            }

        still_there : (q : ℕ) → 2 ≤ q → q < pages S s → page S u q ≡ page S t q
        still_there q a b = prefix_pages S t u (dir_depth s) k (top k x) 0 N q a (subst (λ n. q < n / size S) (sym clear_written.long) b)

        other_page : (q : ℕ) → 2 ≤ q → q < pages S s → (q ≡ p → ⊥) → page S u q ≡ page S s q
        other_page q a b n = still_there q a b ∙ set_other S s p (replicate (size S) 0) L.to zero_long q n

        -- the cleared page calls for nothing
        calls_nothing : (m : ℕ) → CallsFor S h u (dir_depth s) m p → ⊥
        calls_nothing m w =
            let e : page S u p ≡ replicate (size S) 0 = still_there p L.from L.to ∙ set_same S s p (replicate (size S) 0) L.to zero_long in
            omega (arith, w.used, ap (λ l. byte l 0) e, zeros (size S) 0)

        own_bits : top k (h (code g 0)) ≡ top k x
        own_bits = sym (first_code_lem h g L.rules) ∙ begins

        pub clear_directed : Directed S h u (dir_depth s) (pages S s) u
        clear_directed = renewed S sized h s L.accepted k (top k x) u clear_kept (record {
          pages = λ q a b. page_then q a b (ℕ_discrete q p);
          others = λ m l n. ⊎_elim
              (λ w. absurd (n w.0))
              (λ w. w.1 ∙ le32_same s t (size S + 4 * m) (λ e b. set_below S s p (replicate (size S) 0) L.to zero_long (size S + 4 * m + e) (omega (arith, sized.whole, mul-le-mul_right (size S) L.from))))
              (N.entry m l);
          own = λ m l w. ⊎_elim (λ o. none o.1 (λ q a b f. nobody m l w q a b f (ℕ_discrete q p))) (λ o. absurd (o.0 w)) (N.entry m l);
        })
          where
            page_then : (q : ℕ) → 2 ≤ q → q < pages S s → Dec (q ≡ p)
                → (page S u q ≡ page S s q) ⊎ (((m : ℕ) → CallsFor S h s (dir_depth s) m q → Calls (dir_depth s) k (top k x) m) × ((m : ℕ) → CallsFor S h u (dir_depth s) m q → Calls (dir_depth s) k (top k x) m))
            page_then q a b (yes e) = inr (
              (λ m w. subst (λ z. Calls (dir_depth s) k z m) own_bits (subst (CallsFor S h s (dir_depth s) m) e w).calls),
              (λ m w. absurd (calls_nothing m (subst (CallsFor S h u (dir_depth s) m) e w))),
            )
            page_then q a b (no n) = inl (other_page q a b n)

            -- of the other pages none called for an entry of this one's
            nobody : (m : ℕ) → m < S.entries → Calls (dir_depth s) k (top k x) m → (q : ℕ) → 2 ≤ q → q < pages S s → CallsFor S h u (dir_depth s) m q → Dec (q ≡ p) → ⊥
            nobody m l w q a b f (yes e) = calls_nothing m (subst (CallsFor S h u (dir_depth s) m) e f)
            nobody m l w q a b f (no n) =
                let mine = one_calls S sized h s L.accepted m p l L.from L.to (record { used = slotted.one; calls = subst (λ z. Calls (dir_depth s) k z m) (sym own_bits) w }) in
                n (sym (one_calls S sized h s L.accepted m q l a b (calls_same S h s u (dir_depth s) m q (other_page q a b n) f)) ∙ mine)

    -- ---- rows left at a smaller depth: joined

    module _ (less : j < k) where
      abbrev v : ℕ
      v = top j x

      -- the rows of the pages of the prefix, the code's left out, are the rows left of the prefix
      others : others_in h j v c gs ≡ cut c (rows_of h rs j v)
      others = ap (cut c) (sym (rows_within S h rs gs shows x j (one_depth S h rs x j k its_bucket (omega arith))))

      others_left : Reordered (others_in h j v c gs) (rows_of h (rows_left S s c) j v)
      others_left =
          let r : Row = record { code = c; place = old } in
          let front : Reordered (rows_of h rs j v) (r ∷ rows_of h (rows_left S s c) j v) = subst (Reordered (rows_of h rs j v)) (rows_on h r (rows_left S s c) j) (rows_same h j v (cut_front c old rs shows.once L.known)) in
          let gone : cut c (r ∷ rows_of h (rows_left S s c) j v) ≡ rows_of h (rows_left S s c) j v =
          cut_append c (r ∷ []) (rows_of h (rows_left S s c) j v) ∙ ap (λ l. l ++ cut c (rows_of h (rows_left S s c) j v)) (cut_key r c refl) ∙ cut_none c (rows_of h (rows_left S s c) j v) (some_none h j v (rows_left S s c) c (cut_gone c rs)) in
          subst₂ Reordered (sym others) gone (cut_same c front)

      once : Once (others_in h j v c gs)
      once = subst Once (sym others) (once_remove c (rows_of h rs j v) (some_once h j v rs shows.once))

      -- with the row they did not fit
      positive : 0 < needs (rows_of h (rows_left S s c) j v)
      positive = omega (
        arith,
        fit_above (λ m. top m x) (top_step x) S.capacity (load h rs) (load_mono h rs) k j (bucket_shallowest S h rs x k its_bucket) less,
        sum j,
        ap length L.coded,
        len_of_code g i slotted L.slot,
        slotted.long i L.slot,
      )

      -- a page of the prefix is named by an entry that the prefix calls for
      named : (q : ℕ) → OfPrefix S h s (pages S s) j v q → NamedBy S s j v q
      named q o = go ((opened S h s L.accepted).stands q o.from o.to)
        where
          go : Stands S h s q → NamedBy S s j v q
          go (unused z _) = untrue (sym (ap (within h j v) (read_zero (page S s q) z)) ∙ o.is)
          go (used b low f) =
              let y : ℕ = h (code (page S s q) 0) in
              let d : ℕ = dir_depth s in
              let m = depth (page S s q) in
              let t : top j y ≡ v = eqb-true (top j y) v (sym (within_used h j v (page S s q) b.rules) ∙ o.is) in
              record {
                entry = top d y;
                calls = calls_top d j v y (omega (arith, less, page_low)) (top_lt x j (hash c)) t;
                names = (f (top d y) (entry_within S h sized hash s (opened S h s L.accepted).page0.depth y (hash (code (page S s q) 0)))).1
                    (calls_top d m (top m y) y low (top_lt y m (hash (code (page S s q) 0))) refl);
              }

      -- and what such an entry names is a page of the prefix
      module _ (e : ℕ) (w : Calls (dir_depth s) j v e) (from : 2 ≤ entry_at S s e) (to : entry_at S s e < pages S s) (b : Bucket h (page S s (entry_at S s e))) (low : depth (page S s (entry_at S s e)) ≤ dir_depth s)
          (f : CallsFor S h s (dir_depth s) e (entry_at S s e)) where
        abbrev there : List ℕ
        there = page S s (entry_at S s e)

        abbrev its_hash : ℕ
        its_hash = e * 2 ^ (32 - dir_depth s)

        small : dir_depth s ≤ 32
        small = omega (arith, (opened S h s L.accepted).page0.depth, twelve S sized)

        entry_bits : top j its_hash ≡ v
        entry_bits = calls_hash (dir_depth s) j v e small (omega (arith, less, page_low)) w

        page_bits : prefix_on h (depth there) (rows there) ≡ top (depth there) its_hash
        page_bits = first_code_lem h there b.rules ∙ sym (calls_hash (dir_depth s) (depth there) (top (depth there) (h (code there 0))) e small low f.calls)

        on : OnPage S h rs (depth there) (rows there)
        on = shows.page (entry_at S s e - 2) (depth there) (rows there) (held S s (entry_at S s e) from to ∙ read_used there b.rules)

        no_shorter : j ≤ depth there
        no_shorter = ⊎_elim
            (λ l. one_depth S h rs x j k its_bucket (omega arith) (depth there) (subst (IsBucket S h rs (depth there)) (page_bits ∙ share_fewer its_hash x (depth there) j (omega arith) entry_bits) on.is))
            (λ l. l)
            (side (depth there) j)

        entry_of : OfPrefix S h s (pages S s) j v (entry_at S s e)
        entry_of = record {
          from = from;
          to = to;
          is = ap (within h j v) (read_used there b.rules) ∙ (within_on h j v (depth there) (rows there) on.some).1 (share_fewer (h (first_code (rows there))) its_hash j (depth there) no_shorter page_bits ∙ entry_bits);
        }

      names_of : (e : ℕ) → Calls (dir_depth s) j v e → (entry_at S s e ≡ 0 → ⊥) → OfPrefix S h s (pages S s) j v (entry_at S s e)
      names_of e w z = ⊎_elim (λ n. absurd (z n)) (λ r. go r ((opened S h s L.accepted).stands (entry_at S s e) r.0 r.1)) ((opened S h s L.accepted).page1.range e inside)
        where
          inside : e < S.entries
          inside = let m : 2 ^ dir_depth s ≤ 2 ^ S.deepest = pow_mono (opened S h s L.accepted).page0.depth in omega (arith, m, w.below, sized.deep)

          go : (2 ≤ entry_at S s e) × (entry_at S s e < pages S s) → Stands S h s (entry_at S s e) → OfPrefix S h s (pages S s) j v (entry_at S s e)
          go r (unused _ n) = absurd (n e inside refl)
          go r (used b low _) = entry_of e w r.0 r.1 b low (entry_calls S sized h s L.accepted e inside r.0 r.1)

      pub joinable : Joinable S h s (pages S s) (h c) j c
      joinable = record {
        prefix = record {
          sized = sized;
          sound = settling S sized h hash s L.accepted s (unwritten S sized h hash s L.accepted);
          deep = (opened S h s L.accepted).page0.depth;
          bits = omega (arith, less, page_low);
          named = named;
          names = names_of;
        };
        housed = record { once = once; fit = omega (arith, needs_same others_left, F.fit) };
        some = omega (arith, needs_same others_left, positive);
        there = omega (arith, find_least (within h j v) gs (p - 2) inside (ap (within h j v) holding ∙ (within_on h j v k (rows g) (shows.page (p - 2) k (rows g) holding).some).1 (share_fewer (h (first_code (rows g))) x j k (omega arith) begins)), inside);
      }
        where
          inside : p - 2 < length gs
          inside = within_pages gs (p - 2) k (rows g) holding

      -- a page of the prefix is no shallower, and what it calls for the prefix calls for
      module _ (q : ℕ) (from : 2 ≤ q) (to : q < pages S s) (is : within h j v (read (page S s q)) ≡ true) where
        abbrev d : ℕ
        d = dir_depth s

        abbrev y : ℕ
        y = h (code (page S s q) 0)

        abbrev m : ℕ
        m = depth (page S s q)

        bucket_of : Bucket h (page S s q) × (m ≤ d)
        bucket_of = go ((opened S h s L.accepted).stands q from to)
          where
            go : Stands S h s q → Bucket h (page S s q) × (m ≤ d)
            go (unused z _) = absurd (untrue (sym (ap (within h j v) (read_zero (page S s q) z)) ∙ is))
            go (used b low _) = (b, low)

        its_bits : top j y ≡ v
        its_bits = eqb-true (top j y) v (sym (within_used h j v (page S s q) bucket_of.0.rules) ∙ is)

        its_deep : j ≤ m
        its_deep = ⊎_elim
            (λ l. one_depth S h rs x j k its_bucket (omega arith) m
            (subst (IsBucket S h rs m) (first_code_lem h (page S s q) bucket_of.0.rules ∙ share_fewer y x m j (omega arith) its_bits)
            (shows.page (q - 2) m (rows (page S s q)) (held S s q from to ∙ read_used (page S s q) bucket_of.0.rules)).is))
            (λ l. l)
            (side m j)

        calls_prefix : (i : ℕ) → CallsFor S h s d i q → Calls d j v i
        calls_prefix i w =
            let e : ℕ = i * 2 ^ (32 - d) in
            let small : d ≤ 32 = omega (arith, (opened S h s L.accepted).page0.depth, twelve S sized) in
            let t : top m e ≡ top m y = calls_hash d m (top m y) i small bucket_of.1 w.calls in
            subst (Calls d j v) (entry_hash d i small) (calls_top d j v e (omega (arith, less, page_low)) (top_lt x j (hash c)) (share_fewer e y j m its_deep t ∙ its_bits))

      module _ {t : List ℕ} {low : ℕ} (R : Rejoined S h s (pages S s) j v c low t) where
        pub join_written : Rewritten S s t
        join_written = record { long = R.long; low = λ i l. R.start i (omega arith); sound = R.sound }

        pub join_holds : contents S t ≡ removed S h gs c
        unfolding packed
        join_holds =
            R.holds ∙ ap (λ l. set (map (λ y. pick (within h j v y) free y) gs) (find (within h j v) gs) (bucket j (pack_from 8 l))) (order_same others_left once)
            ∙ sym (Cases.removed_joins S h rs gs c old shows L.known hash j shallow positive (λ e. omega (arith, e, same.0)))

        -- the page that the rows are on: of the prefix before, and its bucket then
        inside_low : find (within h j v) gs < length gs
        inside_low = joinable.there

        pub low_from : 2 ≤ low
        low_from = omega (arith, R.lowest)

        pub low_to : low < pages S s
        low_to = omega (arith, R.lowest, inside_low, pages_held S s)

        low_of : within h j v (read (page S s low)) ≡ true
        low_of =
            let e : low - 2 ≡ find (within h j v) gs = omega (arith, R.lowest) in
            ap (within h j v) (sym (held S s low low_from low_to) ∙ ap (λ n. get_or gs n free) e) ∙ find_passes (within h j v) gs inside_low

        now_low : BucketPage (page S t low) × (depth (page S t low) ≡ j) × (rows (page S t low) ≡ pack_from 8 (in_order (others_in h j v c gs))) × (j ≤ S.deepest)
        now_low =
            let e : low - 2 + 2 ≡ low = omega (arith, low_from) in
            let i : low - 2 ≡ find (within h j v) gs = omega (arith, R.lowest) in
            subst (λ q. BucketPage (page S t q) × (depth (page S t q) ≡ j) × (rows (page S t q) ≡ pack_from 8 (in_order (others_in h j v c gs))) × (j ≤ S.deepest)) e
            (on_page S t (pages S s) (settling S sized h hash s L.accepted t join_written) (low - 2) j (pack_from 8 (in_order (others_in h j v c gs)))
            (ap (λ l. get_or l (low - 2) free) R.holds ∙ ap (λ n. get_or (joined_pages h j v c gs) n free) i
            ∙ get_or-set_same (map (λ y. pick (within h j v y) free y) gs) (find (within h j v) gs) (bucket j (pack_from 8 (in_order (others_in h j v c gs)))) free (omega (arith, inside_low, length-map gs (λ y. pick (within h j v y) free y))))
            (omega (arith, low_to, e)))

        low_bits : top j (h (code (page S t low) 0)) ≡ v
        low_bits =
            let l : List Row = in_order (others_in h j v c gs) in
            let some : 0 < length (pack_from 8 l) = omega (arith, ap length now_low.2, length_tab (row_at (page S t low)) (count (page S t low)), now_low.0.some) in
            sym (subst (λ n. top n (h (first_code (rows (page S t low)))) ≡ top n (h (code (page S t low) 0))) now_low.1 (first_code_lem h (page S t low) now_low.0))
            ∙ ap (λ z. top j (h (first_code z))) now_low.2
            ∙ packed_bits h j v l (λ r w. (prefix_row h (rows_left S s c) j v r (mem_reordered others_left (mem_reordered (in_order_reordered (others_in h j v c gs)) w))).1) some

        -- and its entries named
        module _ {u : List ℕ} (N : PrefixNamed S t (dir_depth s) j v low u) where
          pub join_kept : Rewritten S s u
          join_kept =
              let K = prefix_kept S t u (dir_depth s) j v low N (record { long = refl; low = λ i l. refl; sound = λ q a b. R.sound q a (omega (arith, b, same_pages)) }) in
              record { long = K.long ∙ R.long; low = λ i l. K.low i l ∙ R.start i (omega arith); sound = λ q a b. K.sound q a (omega (arith, b, same_pages)) }
            where
              same_pages : pages S t ≡ pages S s
              same_pages = ap (λ n. n / size S) R.long

          pub join_then : contents S u ≡ removed S h gs c
          join_then = prefix_holds S t u (dir_depth s) j v low N ∙ join_holds

          unmoved : (q : ℕ) → 2 ≤ q → q < pages S s → page S u q ≡ page S t q
          unmoved q a b = prefix_pages S t u (dir_depth s) j v low N q a (subst (λ n. q < n / size S) (sym R.long) b)

          low_calls : (i : ℕ) → CallsFor S h u (dir_depth s) i low → Calls (dir_depth s) j v i
          low_calls i w =
              let w₁ = calls_same S h t u (dir_depth s) i low (unmoved low low_from low_to) w in
              subst (λ z. Calls (dir_depth s) j z i) low_bits (subst (λ n. Calls (dir_depth s) n (top n (h (code (page S t low) 0))) i) now_low.1 w₁.calls)

          calls_low : (i : ℕ) → Calls (dir_depth s) j v i → CallsFor S h u (dir_depth s) i low
          calls_low i w = calls_same S h u t (dir_depth s) i low (sym (unmoved low low_from low_to)) (record {
            used = now_low.0.rules.one;
            calls = subst (λ n. Calls (dir_depth s) n (top n (h (code (page S t low) 0))) i) (sym now_low.1) (subst (λ z. Calls (dir_depth s) j z i) (sym low_bits) w);
          })

          renewed_pages : (q : ℕ) → 2 ≤ q → q < pages S s
              → (page S u q ≡ page S s q) ⊎ (((i : ℕ) → CallsFor S h s (dir_depth s) i q → Calls (dir_depth s) j v i) × ((i : ℕ) → CallsFor S h u (dir_depth s) i q → Calls (dir_depth s) j v i))
          renewed_pages q a b = go (ℕ_discrete q low) (within h j v (read (page S s q))) refl
            where
              go : Dec (q ≡ low) → (z : Bool) → within h j v (read (page S s q)) ≡ z
                  → (page S u q ≡ page S s q) ⊎ (((i : ℕ) → CallsFor S h s (dir_depth s) i q → Calls (dir_depth s) j v i) × ((i : ℕ) → CallsFor S h u (dir_depth s) i q → Calls (dir_depth s) j v i))
              go (yes e) z f = inr (
                (λ i w. calls_prefix low low_from low_to low_of i (subst (CallsFor S h s (dir_depth s) i) e w)),
                (λ i w. low_calls i (subst (CallsFor S h u (dir_depth s) i) e w)),
              )
              go (no n) true f = inr (
                (λ i w. calls_prefix q a b f i w),
                (λ i w. let g : page S u q ≡ replicate (size S) 0 = unmoved q a b ∙ R.rest q a b n ∙ ap (λ z. pick z (replicate (size S) 0) (page S s q)) f in
                    absurd (omega (arith, w.used, ap (λ l. byte l 0) g, zeros (size S) 0))),
              )
              go (no n) false f = inl (unmoved q a b ∙ R.rest q a b n ∙ ap (λ z. pick z (replicate (size S) 0) (page S s q)) f)

          entry_before : (i : ℕ) → i < S.entries → entry_at S t i ≡ entry_at S s i
          entry_before i l = le32_same s t (size S + 4 * i) (λ n b. R.start (size S + 4 * i + n) (omega (arith, sized.whole)))

          pub join_directed : Directed S h u (dir_depth s) (pages S s) u
          join_directed = renewed S sized h s L.accepted j v u join_kept (record {
            pages = renewed_pages;
            others = λ i l n. ⊎_elim (λ w. absurd (n w.0)) (λ w. w.1 ∙ entry_before i l) (N.entry i l);
            own = λ i l w. ⊎_elim (λ o. rw o.1 (names low_from low_to (calls_low i w))) (λ o. absurd (o.0 w)) (N.entry i l);
          })

          -- a joined bucket is not deeper than the directory was, and the others are as they were
          pub join_none : (m : ℕ) → dir_depth s < m → buckets_at m (contents S u) ≡ 0
          join_none m l =
              let cs : List Page = map (λ y. pick (within h j v y) free y) gs in
              let rs : List Record = pack_from 8 (in_order (others_in h j v c gs)) in
              let w = set_count m cs (find (within h j v) gs) (bucket j rs) (omega (arith, inside_low, length-map gs (λ y. pick (within h j v y) free y))) in
              ⊎_elim
              (λ o. absurd (omega (arith, o.0, l, less, page_low)))
              (λ o. omega (arith, ap (buckets_at m) (prefix_holds S t u (dir_depth s) j v low N ∙ R.holds), w, o.1, cleared_few (within h j v) m gs, not_deeper m l))
              (ones m j rs)

          -- and the counts written anew
          pub join_recounted : (m : ℕ) (tallies w : List ℕ) → BucketsCounted (contents S t) tallies → m ≡ le32 s 24 - 1 → CountsNow u m tallies w → Recounted S u w
          join_recounted m tallies w B e C = recounted_now S sized u m tallies w (subst (λ gs. BucketsCounted gs tallies) (sym (prefix_holds S t u (dir_depth s) j v low N)) B)
              (omega (arith, e, rows_then u join_then)) C
