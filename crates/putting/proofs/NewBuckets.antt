-- PUT of a new code where no page holds its hash: a bucket of the row alone in the lowest free page, or refusal 7. Over any page size and hash. Assumes nothing.
use mathlib.Core.Path.{◌≡◌, refl, sym, ap, subst, subst₂, ◌∙◌}
use mathlib.Core.Bool.{true≢false}
use mathlib.Core.List.{List, [], ◌∷◌}
use mathlib.Core.Logic.{◌⊎◌, inl, inr, ⊎_elim, ◌↔◌}
use mathlib.Core.Option.{none}
use Prim.Native.Nat.{ℕ, suc, ◌+◌, ◌-◌, ◌*◌, ◌/◌, ◌^◌, ◌≤◌, ◌<◌}
use native.Mathlib.Omega.{arith}
use native.Mathlib.Decide.{ℕ_discrete}
use lib.ListN.{length, get_or, set}
use Rattle.ground.proofs.Tests.{none_some}
use Rattle.ground.specs.Lists.{byte}
use Rattle.ground.specs.Ladder.{Answers}
use Rattle.ground.proofs.Sides.{side}
use Rattle.words.specs.Le.{le32}
use Rattle.words.specs.Moves.{Frame}
use Rattle.page.specs.Page.{Record, depth, code}
use Rattle.page.specs.Packed.{Started}
use Rattle.partition.specs.Bits.{top}
use Rattle.partition.specs.declared.Shape.{Shape}
use Rattle.partition.specs.Partition.{Row, need, needs, rows_of, buckets}
use Rattle.partition.specs.Listing.{place_of}
use Rattle.partition.proofs.Bits.{top_step}
use Rattle.partition.proofs.Path.{path_le}
use Rattle.partition.proofs.Reorders.{length_same}
use Rattle.partition.proofs.Rows.{load, load_mono}
use Rattle.partition.proofs.Sizes.{twelve}
use Rattle.store.specs.Pages.{size, pages, page, dir_depth, entry_at, Page, free, bucket, contents, rows_held, deepest_in, set_page}
use Rattle.store.specs.Accepted.{Calls, Accepted}
use Rattle.store.specs.Moves.{find, is_free, record_at, put_new, frees}
use Rattle.store.specs.Counts.{one_at, buckets_at}
use Rattle.store.specs.Tables.{new, refused, Refusal6, Refusal7, put_accepted}
use Rattle.store.specs.Demands.{Sized, Hash}
use Rattle.store.proofs.Accepted.Rules.{opened}
use Rattle.store.proofs.Showing.Shows.{prefix_on, Shows}
use Rattle.store.proofs.Showing.Showing.{first_code_lem, accepted_shows, pages_held}
use Rattle.store.proofs.Showing.Rooms.{bucket_one, held_set, fill_keeps, find_free}
use Rattle.store.proofs.Accepted.Named.{deepest_le, deepest_bound}
use Rattle.store.proofs.Accepted.Accepting.{accepted_laid}
use Rattle.store.proofs.Paging.Depths.{kind_byte}
use Rattle.store.proofs.Paging.Views.{set_same, set_other, set_entry as entry_kept}
use Rattle.store.proofs.Accepted.Unique.{within, page_long}
use Rattle.store.proofs.Accepted.Spelled.{held_folded, one_more}
use Rattle.store.proofs.Accepted.Reading.{entry_of, lookup_none}
use Rattle.store.proofs.Counts.Counted.{set_count}
use Rattle.store.proofs.Counts.Words.{counts_word, buckets_few}
use Rattle.store.proofs.Demands.Said.{rows_few}
use Rattle.store.proofs.Put.PutCases.{unheld_six, unheld_seven, put_unheld_is}
use Rattle.store.proofs.Put.PutRows.{put_shown}
use Rattle.store_check.proofs.Naming.{room as room_for}
use Rattle.counts.specs.Tallies.{CountRaised}
use Rattle.counts.proofs.Raises.{other_count, word_kept, inside_both, counts_up}
use Rattle.directory.specs.Directory.{CallsFor, EntryFor, names, PrefixNamed, Directed, Recounted, Rewritten}
use Rattle.directory.proofs.Frees.{used_page}
use Rattle.directory.proofs.Renews.{prefix_pages, prefix_holds, prefix_kept, renewed}
use Rattle.putting.specs.Put.{new_row, Puttable, Homeless, Unset, Vacant}
use Rattle.directory.proofs.Vacancy.{off, set_entry, some_row}
use Rattle.directory.proofs.Recounts.{same_contents, directed_then}
use Rattle.directory.proofs.Settles.{rewritten_set, set_holds, unwritten, settled}
use Rattle.putting.proofs.Splits.{rewritten_then, rewritten_self}

-- a free page that gets a bucket no deeper than the deepest leaves the largest depth
deepest_filled : (gs : List Page) (i k : ℕ) (rs : List Record) → i < length gs → get_or gs i free ≡ free → k ≤ deepest_in gs → deepest_in (set gs i (bucket k rs)) ≡ deepest_in gs
deepest_filled gs i k rs b f l =
    let g : Page = bucket k rs in
    let most : deepest_in (set gs i g) ≤ deepest_in gs =
    deepest_le (set gs i g) (deepest_in gs) (λ j m qs x. ⊎_elim (λ y. omega (arith, l, (bucket_one y.1).0)) (λ y. deepest_bound gs j m qs y.1) (held_set gs i g b j m qs x)) in
    let least : deepest_in gs ≤ deepest_in (set gs i g) =
    deepest_le gs (deepest_in (set gs i g)) (λ j m qs x. deepest_bound (set gs i g) j m qs (fill_keeps gs i g f j m qs x)) in
    omega (arith, most, least)

module _ (S : Shape) (h : List ℕ → ℕ) (hash : Hash h) (s : List ℕ) (x : ℕ) (c pl : List ℕ) (O : Homeless S h s x c pl) where
  abbrev P : Puttable S h s c pl
  P = O.row

  abbrev sized : Sized S
  sized = P.sized

  abbrev A : Accepted S h s
  A = P.accepted

  unnamed : entry_of S h s c ≡ 0
  unnamed = ap (λ y. entry_at S s (top (dir_depth s) y)) (sym O.hash) ∙ O.none

  abbrev r : Row
  r = new_row c pl

  abbrev gs : List Page
  gs = contents S s

  shows : Shows S h (rows_held S s) gs
  shows = accepted_shows S h sized hash s A

  abbrev d : ℕ
  d = dir_depth s

  low_d : d ≤ S.deepest
  low_d = (opened S h s A).page0.depth

  -- the entry of the hash is the only one that all its bits call for
  pub own_unset : Unset S s (dir_depth s) (dir_depth s) (top (dir_depth s) (h c))
  own_unset i q =
      let z : d - d ≡ 0 = omega arith in
      let e : i / 2 ^ 0 ≡ top d (h c) = subst (λ n. i / 2 ^ n ≡ top d (h c)) z q.bits in
      let j : i ≡ top d (h c) = omega (arith, e) in
      ap (entry_at S s) j ∙ unnamed

  -- a prefix that has no row
  unset_all : (j : ℕ) → j ≤ d → needs (rows_of h (rows_held S s) j (top j (h c))) ≤ 0 → Unset S s d j (top j (h c))
  unset_all j l z i q =
      let b : i < S.entries = omega (arith, q.below, room_for S sized d low_d) in
      ⊎_elim (λ p. absurd (omega (arith, some_row S h sized hash s A c unnamed j i l b q (λ e. omega (arith, p, e))))) (λ p. omega (arith, p)) (side 0 (entry_at S s i))

  absent : place_of (rows_held S s) c ≡ none
  absent = lookup_none S h sized hash s A c unnamed

  small : need r ≤ S.capacity
  unfolding need
  small = omega (arith, P.good.most, sized.least)

  six : Refusal6 S h (rows_held S s) r → ⊥
  unfolding need
  six x = omega (arith, unheld_six S h hash (rows_held S s) gs shows r (off S h sized hash s A c unnamed), P.good.most, sized.least)

  seven : (length (buckets S h (r ∷ rows_held S s)) ≤ length gs) ↔ (0 < frees gs)
  seven = unheld_seven S h hash (rows_held S s) gs shows r (off S h sized hash s A c unnamed) small

  -- no page is free
  pub unheld_full : frees (contents S s) ≡ 0 → Answers (put_accepted S h s (new_row c pl)) (refused 7, s)
  unheld_full e =
      inr ((λ _. none_some absent), inr ((λ _. six), inl (tt, (⊎_elim (λ l. omega (arith, pages_held S s)) (λ l. absurd (omega (arith, seven.0 (omega (arith, pages_held S s, l)), e))) (side (pages S s - 2) (length (buckets S h (r ∷ rows_held S s)))), refl))))

  -- one is
  module _ (some : 0 < frees (contents S s)) (k : ℕ) (K : Vacant S s (dir_depth s) (h c) k) (f : ℕ) (e : f ≡ 2 + find is_free (contents S s)) (to : f < pages S s) (q : List ℕ) (Q : Started (page S s f) k c pl q) where
    room : Refusal7 S h s (rows_held S s) r → ⊥
    room x = omega (arith, pages_held S s, seven.1 some)

    bare : needs (rows_of h (rows_held S s) k (top k (h c))) ≡ 0
    bare = ⊎_elim
        (λ l. let w = set_entry S h sized hash s A k (top k (h c)) K.low l in absurd (w.2 (K.unset w.0 w.1)))
        (λ l. omega arith)
        (side 0 (needs (rows_of h (rows_held S s) k (top k (h c)))))

    above : (i : ℕ) → i < k → 0 < needs (rows_of h (rows_held S s) i (top i (h c)))
    above i l =
        let j : k ≡ suc (k - 1) = omega arith in
        ⊎_elim
        (λ p. omega (arith, p, path_le (λ n. top n (h c)) (top_step (h c)) S.capacity (load h (rows_held S s)) (load_mono h (rows_held S s)) i (k - 1) (omega arith)))
        (λ z. absurd (K.above (k - 1) j (unset_all (k - 1) (omega (arith, K.low)) z)))
        (side 0 (needs (rows_of h (rows_held S s) (k - 1) (top (k - 1) (h c)))))

    is : put_new S h gs r ≡ set gs (find is_free gs) (bucket k (record_at 8 r ∷ []))
    is = put_unheld_is S h hash (rows_held S s) gs shows r (off S h sized hash s A c unnamed) small k bare above

    pub wrote : Rewritten S s (set_page S s f q)
    wrote = rewritten_set S s s (unwritten S sized h hash s A) f (omega arith) to q Q.page (Q.long ∙ page_long S s f to) (omega (arith, Q.deep, K.low, low_d))

    holds : contents S (set_page S s f q) ≡ put_new S h gs r
    holds =
        let i : f - 2 ≡ find is_free gs = omega arith in
        set_holds S s s (unwritten S sized h hash s A) f (omega arith) to q Q.page (Q.long ∙ page_long S s f to) (omega (arith, Q.deep, K.low, low_d))
        ∙ (λ x. set gs (i x) (bucket (Q.deep x) (Q.rows_of x))) ∙ sym is

    -- and its entries name it
    module _ (t : List ℕ) (N : PrefixNamed S (set_page S s f q) (dir_depth s) k (top k (h c)) f t) where
      abbrev s₁ : List ℕ
      s₁ = set_page S s f q

      abbrev v : ℕ
      v = top k (h c)

      long : length q ≡ size S
      long = Q.long ∙ page_long S s f to

      kept : Rewritten S s t
      kept = rewritten_then S s s₁ t wrote (prefix_kept S s₁ t d k v f N (rewritten_self S s s₁ wrote))

      holds_then : contents S t ≡ put_new S h gs r
      holds_then = prefix_holds S s₁ t d k v f N ∙ holds

      pages_then : (j : ℕ) → 2 ≤ j → j < pages S s → page S t j ≡ page S s₁ j
      pages_then j a b = prefix_pages S s₁ t d k v f N j a (subst (λ n. j < n / size S) (sym wrote.long) b)

      its : page S t f ≡ q
      its = pages_then f (omega arith) to ∙ set_same S s f q to long

      begins : top (depth q) (h (code q 0)) ≡ v
      begins = sym (first_code_lem h q Q.page) ∙ (λ x. prefix_on h (Q.deep x) (Q.rows_of x))

      -- the page calls for what its prefix calls for
      now_calls : (i : ℕ) → CallsFor S h t d i f → Calls d k v i
      now_calls i x = subst₂ (λ l w. Calls d l w i) Q.deep begins (subst (λ g. Calls d (depth g) (top (depth g) (h (code g 0))) i) its x.calls)

      calls_now : (i : ℕ) → Calls d k v i → CallsFor S h t d i f
      calls_now i x = record {
        used = ap (λ g. byte g 0) its ∙ Q.page.rules.one;
        calls = subst (λ g. Calls d (depth g) (top (depth g) (h (code g 0))) i) (sym its) (subst₂ (λ l w. Calls d l w i) (sym Q.deep) (sym begins) x);
      }

      was_free : byte (page S s f) 0 ≡ 1 → ⊥
      was_free b =
          let i : f - 2 ≡ find is_free gs = omega arith in
          true≢false (sym (ap is_free (find_free gs some).1) ∙ ap (λ j. is_free (get_or gs j free)) (sym i) ∙ used_page S s f (omega arith) to (λ y. omega (arith, y, b, kind_byte S s f)))

      each : (j : ℕ) → 2 ≤ j → j < pages S s
          → (page S t j ≡ page S s j) ⊎ (((i : ℕ) → CallsFor S h s d i j → Calls d k v i) × ((i : ℕ) → CallsFor S h t d i j → Calls d k v i))
      each j a b = go (ℕ_discrete j f)
        where
          go : Dec (j ≡ f) → (page S t j ≡ page S s j) ⊎ (((i : ℕ) → CallsFor S h s d i j → Calls d k v i) × ((i : ℕ) → CallsFor S h t d i j → Calls d k v i))
          go (yes w) = inr ((λ i x. absurd (was_free (subst (λ m. byte (page S s m) 0 ≡ 1) w x.used))), (λ i x. now_calls i (subst (CallsFor S h t d i) w x)))
          go (no n) = inl (pages_then j a b ∙ set_other S s f q to long j n)

      others : (i : ℕ) → i < S.entries → (Calls d k v i → ⊥) → entry_at S t i ≡ entry_at S s i
      others i l n = ⊎_elim (λ y. absurd (n y.0)) (λ y. y.1 ∙ entry_kept S s f q to long (omega arith) i (omega (arith, sized.whole))) (N.entry i l)

      own : (i : ℕ) → i < S.entries → Calls d k v i → EntryFor S h t d (pages S s) i (entry_at S t i)
      own i l x = ⊎_elim
          (λ y. names (omega (arith, y.1)) (omega (arith, y.1, to)) (subst (CallsFor S h t d i) (sym y.1) (calls_now i x)))
          (λ y. absurd (y.0 x))
          (N.entry i l)

      -- the depth stays, since the bucket is no deeper
      same_depth : deepest_in (contents S t) ≡ dir_depth s
      same_depth =
          let now : dir_depth s ≡ deepest_in gs = (accepted_laid S h sized hash s A).deep in
          let at = find_free gs some in
          ap deepest_in (holds_then ∙ is) ∙ deepest_filled gs (find is_free gs) k (record_at 8 r ∷ []) at.0 at.1 (omega (arith, K.low, now)) ∙ sym now

      directed : Directed S h t (deepest_in (contents S t)) (pages S s) t
      directed = subst (λ n. Directed S h t n (pages S s) t) (sym same_depth) (renewed S sized h s A k v t kept (record { pages = each; others = others; own = own }))

      -- page 0 is as it was, and its counts can be one more
      as_was : (i : ℕ) → 24 ≤ i → i < 80 → byte t i ≡ byte s i
      as_was i a b = kept.low i (omega (arith, sized.least))

      long_then : 80 ≤ length t
      long_then = omega (arith, kept.long, within S s f to, sized.least)

      low_k : k ≤ 12
      low_k = omega (arith, K.low, low_d, twelve S sized)

      pub row_more : (28 + 4 * 0 ≤ length t) × (le32 t (24 + 4 * 0) + 1 < 4294967296)
      row_more = (
        omega (arith, long_then),
        omega (arith, word_kept s t as_was 0 (omega arith), (opened S h s A).counts.rows, rows_few S h sized hash s A, pages_held S s, A.long.most, sized.whole, sized.most),
      )

      pub bucket_more : (u : List ℕ) → CountRaised t 0 u → (28 + 4 * (1 + k) ≤ length u) × (le32 u (24 + 4 * (1 + k)) + 1 < 4294967296)
      bucket_more u R =
          let q : suc k ≡ 1 + k = omega arith in
          let now : le32 t (24 + 4 * suc k) ≡ buckets_at k gs = word_kept s t as_was (suc k) (omega (arith, low_k)) ∙ counts_word S s (opened S h s A).counts (suc k) (omega (arith, low_k)) in (
            omega (arith, R.old.len, long_then, low_k),
            omega (arith, other_count t u 0 _ (omega arith) R (1 + k) (λ z. omega (arith, z)), ap (λ j. le32 t (24 + 4 * j)) q, now, buckets_few k gs, pages_held S s, A.long.most, sized.whole, sized.most),
          )

      pub recounted_new : (u w : List ℕ) → CountRaised t 0 u → CountRaised u (1 + k) w → Recounted S t w
      recounted_new u w R D =
          let F : Frame t 24 56 w = inside_both t u w 0 (1 + k) _ _ (omega arith) (omega (arith, low_k)) R D in
          let at = find_free gs some in
          let g : Page = bucket k (record_at 8 r ∷ []) in
          record {
            old = F;
            counts = counts_up S s t u w (put_new S h gs r) k (record_at 8 r ∷ []) (opened S h s A).counts as_was low_k R D (same_contents S sized t w F ∙ holds_then)
                (length_same (put_shown S h sized hash s r A absent six room).same ∙ omega arith)
                (λ i. omega (arith, ap (buckets_at i) is, set_count i gs (find is_free gs) g at.0, ap (one_at i) at.1));
          }

      -- and the counts are true
      module _ (u : List ℕ) (R : Recounted S t u) where
        directed_now : Directed S h u (deepest_in (contents S u)) (pages S s) u
        directed_now =
            let l : pages S t ≡ pages S s = ap (λ n. n / size S) kept.long in
            subst (λ gs. Directed S h u (deepest_in gs) (pages S s) u) (sym (same_contents S sized t u R.old))
            (directed_then S sized t u R.old h (deepest_in (contents S t)) (pages S s) (omega (arith, l)) directed)

        pub unheld_new : ((i : ℕ) → byte u i < 256) → Answers (put_accepted S h s (new_row c pl)) (new, u)
        unheld_new b =
            inr (
              (λ _. none_some absent),
              inr (
                (λ _. six),
                inr (
                  (λ _. room),
                  (refl, rw (← holds_then) (settled S sized h hash s A t kept u R.old R.counts u directed_now (r ∷ rows_held S s) (rw holds_then (put_shown S h sized hash s r A absent six room)) (one_more r _ P.folded (held_folded S h sized hash s A)) b)),
                ),
              ),
            )
