-- Records as a page's bytes: records that lie apart within a page, in code order, are the rows of a page that keeps the rules. Assumes nothing.
use mathlib.Core.Path.{◌≡◌, refl, sym, ap, subst, ◌∙◌}
use mathlib.Core.List.{List, [], ◌∷◌, ◌++◌}
use mathlib.Core.Logic.{◌⊎◌, inl, inr, ⊎_elim}
use Prim.Native.Nat.{ℕ, zero, suc, ◌+◌, ◌-◌, ◌*◌, ◌/◌, ◌^◌, ◌≤◌, ◌<◌}
use native.Mathlib.Decide.{map_dec, dec_le, dec_lt}
use native.Mathlib.Omega.{arith}
use lib.ListN.{length, get_or-append, get_or-eq_default}
use lib.Seq.{get_or-append-add}
use Rattle.ground.specs.Lists.{byte, part, tab, total}
use Rattle.ground.proofs.Parts.{part_is}
use Rattle.ground.proofs.Sides.{side}
use Rattle.ground.proofs.Tables.{length_tab, get_d_tab, tab_same, total_same}
use Rattle.words.specs.Le.{le16, le32, bytes}
use Rattle.words.specs.Codes.{Before}
use Rattle.words.proofs.Bytes.{le32_moved, Small, small_append, small_bytes}
use Rattle.page.specs.Page.{Slotted, Natural, Record, In, rows, row_at, depth, count, frontier, free, word, off, len, kind, slot_need, place, code}
use Rattle.store.specs.Moves.{frontier_of}
use Rattle.store.proofs.Result.Decisions.{both, some}
use Rattle.store.proofs.Paging.Slotwise.{Highest, highest}

-- byte k is of the record
pub record Of (r : Record) (k : ℕ) : Type 0 where
  pub from : r.start ≤ k
  pub to : k < r.start + (8 + length r.code)

-- a place and a code that a page may hold
pub record Storable (pl c : List ℕ) : Type 0 where
  pub natural : Natural pl
  pub some : 1 ≤ length c
  pub most : length c ≤ 64
  pub placed : Small pl
  pub coded : Small c

-- the records f 0, f 1, .. f (n - 1) can lie in a page of z bytes and depth d
pub record Lay (z d n : ℕ) (f : ℕ → Record) : Type 0 where
  pub least : 16 ≤ z
  pub most : z ≤ 16384
  pub deep : d < 256
  pub after : (i : ℕ) → i < n → 8 ≤ (f i).start
  pub good : (i : ℕ) → i < n → Storable (f i).place (f i).code
  pub room : frontier_of (tab f n) + 4 * n ≤ z
  pub apart : (i j k : ℕ) → i < n → j < n → Of (f i) k → Of (f j) k → i ≡ j
  pub ascending : (i j : ℕ) → i < j → j < n → Before (f i).code (f j).code
  pub fit : total (λ i. 12 + length (f i).code) n ≤ z - 8

-- the number in four bytes comes back
pub le32_of : (w : ℕ) → w < 2 ^ 32 → le32 (bytes 4 w) 0 ≡ w
unfolding bytes le32 le16
le32_of w l = omega arith

of_or_not : (r : Record) (k : ℕ) → Dec (Of r k)
of_or_not r k = map_dec (λ t. search) (λ x. search) (both (dec_le r.start k) (dec_lt k (r.start + (8 + length r.code))))

module _ (z d n : ℕ) (f : ℕ → Record) where
  abbrev F : ℕ
  F = frontier_of (tab f n)

  abbrev needed : ℕ
  needed = total (λ i. 12 + length (f i).code) n

  abbrev head : List ℕ
  head = 1 ∷ d ∷ (bytes 2 n ++ (bytes 2 F ++ bytes 2 (z - 8 - needed)))

  abbrev Owned : ℕ → Type 0
  Owned k = (i : ℕ) × (i < n) × Of (f i) k

  owned : (k : ℕ) → Dec (Owned k)
  owned k = some n (λ i. Of (f i) k) (λ i l. of_or_not (f i) k)

  -- byte k of a record, or 0
  abbrev own : (k : ℕ) → Dec (Owned k) → ℕ
  own k (yes w) = byte ((f w.0).place ++ (f w.0).code) (k - (f w.0).start)
  own k (no _) = 0

  abbrev slot_word : ℕ → ℕ
  slot_word i = (f i).start + 16384 * (8 + length (f i).code) + 268435456

  abbrev slot_byte : ℕ → ℕ
  slot_byte k = byte (bytes 4 (slot_word ((z - 1 - k) / 4))) (k + 4 * ((z - 1 - k) / 4 + 1) - z)

  abbrev at : (k : ℕ) → (k < 8) ⊎ (8 ≤ k) → (k + 4 * n < z) ⊎ (z ≤ k + 4 * n) → ℕ
  at k (inl a) y = byte head k
  at k (inr a) (inl b) = own k (owned k)
  at k (inr a) (inr b) = slot_byte k

  -- header, records, slots
  pub encode : List ℕ
  encode = tab (λ k. at k (side k 8) (side (k + 4 * n) z)) z

  module _ (L : Lay z d n f) where
    abbrev g : List ℕ
    g = encode

    H : Highest f n F
    H = highest f n

    pub encode_long : length g ≡ z
    unfolding encode
    encode_long = length_tab (λ k. at k (side k 8) (side (k + 4 * n) z)) z

    byte_is : (k : ℕ) → k < z → byte g k ≡ at k (side k 8) (side (k + 4 * n) z)
    unfolding encode
    byte_is k l = get_d_tab (λ k. at k (side k 8) (side (k + 4 * n) z)) z k 0 l

    head_is : (k : ℕ) → k < 8 → byte g k ≡ byte head k
    head_is k l = byte_is k (omega (arith, L.least)) ∙ go (side k 8) (side (k + 4 * n) z)
      where
        go : (x : (k < 8) ⊎ (8 ≤ k)) (y : (k + 4 * n < z) ⊎ (z ≤ k + 4 * n)) → at k x y ≡ byte head k
        go (inl a) y = refl
        go (inr a) y = absurd (omega arith)

    mid_is : (k : ℕ) → 8 ≤ k → k + 4 * n < z → byte g k ≡ own k (owned k)
    mid_is k l m = byte_is k (omega arith) ∙ go (side k 8) (side (k + 4 * n) z)
      where
        go : (x : (k < 8) ⊎ (8 ≤ k)) (y : (k + 4 * n < z) ⊎ (z ≤ k + 4 * n)) → at k x y ≡ own k (owned k)
        go (inl a) y = absurd (omega arith)
        go (inr a) (inl b) = refl
        go (inr a) (inr b) = absurd (omega arith)

    slot_is : (k : ℕ) → k < z → z ≤ k + 4 * n → byte g k ≡ slot_byte k
    slot_is k l m = byte_is k l ∙ go (side k 8) (side (k + 4 * n) z)
      where
        go : (x : (k < 8) ⊎ (8 ≤ k)) (y : (k + 4 * n < z) ⊎ (z ≤ k + 4 * n)) → at k x y ≡ slot_byte k
        go (inl a) y = absurd (omega (arith, H.least, L.room))
        go (inr a) (inl b) = absurd (omega arith)
        go (inr a) (inr b) = refl

    -- ---- the header

    pub encode_deep : depth g ≡ d
    encode_deep = head_is 1 (omega arith)

    counted : count g ≡ n
    unfolding le16 bytes
    counted = omega (arith, head_is 2 (omega arith), head_is 3 (omega arith), L.room, L.most)

    fronted : frontier g ≡ F
    unfolding le16 bytes
    fronted = omega (arith, head_is 4 (omega arith), head_is 5 (omega arith), L.room, L.most)

    freed : free g ≡ z - 8 - needed
    unfolding le16 bytes
    freed = omega (arith, head_is 6 (omega arith), head_is 7 (omega arith), L.most)

    -- ---- slots

    ends : (i : ℕ) → i < n → (f i).start + (8 + length (f i).code) + 4 * n ≤ z
    ends i l = omega (arith, H.most i l, L.room)

    word_is : (i : ℕ) → i < n → word g i ≡ slot_word i
    unfolding word
    word_is i l =
        let r : Storable (f i).place (f i).code = L.good i l in
        let m : 4 * (i + 1) ≤ z = omega (arith, ends i l) in
        rw encode_long (le32_moved (bytes 4 (slot_word i)) g (z - 4 * (i + 1)) 0 (λ j b.
        let e : (z - 1 - (z - 4 * (i + 1) + j)) / 4 ≡ i = omega arith in
        let q : z - 4 * (i + 1) + j + 4 * (i + 1) - z ≡ 0 + j = omega arith in
        slot_is (z - 4 * (i + 1) + j) (omega arith) (omega arith) ∙ ap (λ t. byte (bytes 4 (slot_word t)) (z - 4 * (i + 1) + j + 4 * (t + 1) - z)) e ∙ ap (byte (bytes 4 (slot_word i))) q)
        ∙ le32_of (slot_word i) (omega (arith, ends i l, L.most, r.most)))

    off_is : (i : ℕ) → i < n → off g i ≡ (f i).start
    unfolding off
    off_is i l = omega (arith, word_is i l, ends i l, L.most)

    len_is : (i : ℕ) → i < n → len g i ≡ 8 + length (f i).code
    unfolding len
    len_is i l = omega (arith, word_is i l, ends i l, L.most, (L.good i l).most)

    kind_is : (i : ℕ) → i < n → kind g i ≡ 1
    unfolding kind
    kind_is i l = omega (arith, word_is i l, ends i l, L.most, (L.good i l).most)

    in_of : (i k : ℕ) → i < n → In g i k → Of (f i) k
    in_of i k l x = record { from = omega (arith, off_is i l, x.from); to = omega (arith, off_is i l, len_is i l, x.to) }

    of_in : (i k : ℕ) → i < n → Of (f i) k → In g i k
    of_in i k l x = record { from = omega (arith, off_is i l, x.from); to = omega (arith, off_is i l, len_is i l, x.to) }

    -- ---- records

    own_in : (i k : ℕ) → i < n → Of (f i) k → byte g k ≡ byte ((f i).place ++ (f i).code) (k - (f i).start)
    own_in i k l x = mid_is k (omega (arith, x.from, L.after i l)) (omega (arith, x.to, ends i l)) ∙ go (owned k)
      where
        go : (w : Dec (Owned k)) → own k w ≡ byte ((f i).place ++ (f i).code) (k - (f i).start)
        go (yes w) = ap (λ j. byte ((f j).place ++ (f j).code) (k - (f j).start)) (L.apart w.0 i k w.1 l w.2 x)
        go (no u) = absurd (u (i, l, x))

    own_none : (k : ℕ) → 8 ≤ k → k + 4 * n < z → ((i : ℕ) → i < n → Of (f i) k → ⊥) → byte g k ≡ 0
    own_none k l m u = mid_is k l m ∙ go (owned k)
      where
        go : (w : Dec (Owned k)) → own k w ≡ 0
        go (yes w) = absurd (u w.0 w.1 w.2)
        go (no _) = refl

    place_is : (i : ℕ) → i < n → place g i ≡ (f i).place
    unfolding place
    place_is i l =
        let r : Storable (f i).place (f i).code = L.good i l in
        let p : length (f i).place ≡ 8 = r.natural.long in
        rw (off_is i l) (subst (λ m. part g (f i).start m ≡ (f i).place) p (part_is g (f i).start (f i).place (omega (arith, ends i l, encode_long)) (λ j b.
        let e : (f i).start + j - (f i).start ≡ j = omega arith in
        own_in i ((f i).start + j) l (record { from = omega arith; to = omega arith }) ∙ ap (byte ((f i).place ++ (f i).code)) e ∙ get_or-append (f i).place (f i).code 0 j b)))

    code_is : (i : ℕ) → i < n → code g i ≡ (f i).code
    unfolding code
    code_is i l =
        let p : length (f i).place ≡ 8 = (L.good i l).natural.long in
        let q : len g i - 8 ≡ length (f i).code = omega (arith, len_is i l) in
        rw (off_is i l, q) (part_is g ((f i).start + 8) (f i).code (omega (arith, ends i l, encode_long)) (λ j b.
        let e : (f i).start + 8 + j - (f i).start ≡ length (f i).place + j = omega arith in
        own_in i ((f i).start + 8 + j) l (record { from = omega arith; to = omega arith }) ∙ ap (byte ((f i).place ++ (f i).code)) e ∙ get_or-append-add (f i).place (f i).code j 0))

    small : (k : ℕ) → byte g k < 256
    small k = ⊎_elim (λ l. subst (λ v. v < 256) (sym (byte_is k l)) (go (side k 8) (side (k + 4 * n) z))) (λ l. subst (λ v. v < 256) (sym (get_or-eq_default g 0 (omega (arith, encode_long)))) (omega arith)) (side k z)
      where
        record_small : (w : Dec (Owned k)) → own k w < 256
        record_small (yes w) = (small_append (L.good w.0 w.1).placed (L.good w.0 w.1).coded).at (k - (f w.0).start)
        record_small (no _) = omega arith

        first : (i : ℕ) → byte (1 ∷ d ∷ []) i < 256
        first zero = omega arith
        first (suc zero) = L.deep
        first (suc (suc i)) = omega arith

        tops : (k : ℕ) → byte head k < 256
        tops = (small_append {l = 1 ∷ d ∷ []} (record { at = first }) (small_append (small_bytes 2 n) (small_append (small_bytes 2 F) (small_bytes 2 (z - 8 - needed))))).at

        go : (x : (k < 8) ⊎ (8 ≤ k)) (y : (k + 4 * n < z) ⊎ (z ≤ k + 4 * n)) → at k x y < 256
        go (inl a) y = tops k
        go (inr a) (inl b) = record_small (owned k)
        go (inr a) (inr b) = (small_bytes 4 (slot_word ((z - 1 - k) / 4))).at (k + 4 * ((z - 1 - k) / 4 + 1) - z)

    below : (i : ℕ) → i < count g → i < n
    below i l = omega (arith, counted)

    -- THE BYTES KEEP THE RULES
    pub encode_slotted : Slotted g
    encode_slotted = record {
      least = omega (arith, encode_long, L.least);
      most = omega (arith, encode_long, L.most);
      bytes = small;
      one = head_is 0 (omega arith);
      room = omega (arith, counted, fronted, encode_long, L.room);
      kinds = λ i l. kind_is i (below i l);
      short = λ i l. omega (arith, len_is i (below i l), (L.good i (below i l)).some);
      long = λ i l. omega (arith, len_is i (below i l), (L.good i (below i l)).most);
      after = λ i l. omega (arith, off_is i (below i l), L.after i (below i l));
      inside = λ i l. omega (arith, off_is i (below i l), len_is i (below i l), fronted, H.most i (below i l));
      start = omega (arith, fronted, H.least);
      empty = λ e. ⊎_elim (λ l. absurd (let w = H.reached l in omega (arith, w.1, counted))) (λ l. omega (arith, fronted, H.least)) (side 8 F);
      top = λ l. let w = H.reached (omega (arith, H.most 0 (omega (arith, counted)), L.after 0 (omega (arith, counted)))) in
          (w.0, omega (arith, w.1, counted), omega (arith, w.2, off_is w.0 w.1, len_is w.0 w.1, fronted));
      places = λ i l. rw (place_is i (below i l)) (L.good i (below i l)).natural;
      apart = λ i j k a b x y. L.apart i j k (below i a) (below j b) (in_of i k (below i a) x) (in_of j k (below j b) y);
      ascending = λ i j a b. rw (code_is i (omega (arith, counted)), code_is j (below j b)) (L.ascending i j a (below j b));
      unused =
          let t : total (slot_need g) n ≡ needed = total_same (slot_need g) (λ i. 12 + length (f i).code) n (λ i l. omega (arith, len_is i l)) in
          omega (arith, freed, ap (total (slot_need g)) counted, t, encode_long, L.fit);
      clear = λ k a b u. own_none k a (omega (arith, counted, encode_long)) (λ i l x. u i (omega (arith, counted)) (of_in i k l x));
    }

    -- and their rows are the records
    pub encode_rows : rows g ≡ tab f n
    encode_rows = ap (tab (row_at g)) counted ∙ tab_same (row_at g) f n (λ i l. λ k. record { start = off_is i l k; place = place_is i l k; code = code_is i l k })

    pub encode_some : 0 < n → 1 ≤ count g
    encode_some l = omega (arith, counted)
