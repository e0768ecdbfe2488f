-- An insertion leaves a page that satisfies the rules, with the row put in. Assumes nothing.
use Prim.Native.Nat.{ℕ, suc, ◌+◌, ◌*◌, ◌-◌, ◌/◌, ◌%◌, ◌≤◌, ◌<◌}
use mathlib.Core.Path.{◌≡◌, ap, ◌∙◌}
use mathlib.Core.Logic.{⊎_elim}
use mathlib.Core.List.{List}
use native.Mathlib.Omega.{arith}
use native.Mathlib.Numerals.{add-one}
use lib.ListN.{length}
use Rattle.ground.specs.Lists.{byte, tab, total, insert_at}
use Rattle.ground.proofs.Sides.{side}
use Rattle.ground.proofs.Parts.{part_same}
use Rattle.words.specs.Codes.{Before}
use Rattle.page.specs.Page.{Natural, In, Record, rows, row_at, slot_need, word, off, len, kind, place, code, count, frontier}
use Rattle.page.specs.Steps.{Insertable, Inserted}
use Rattle.ground.proofs.Tables.{tab_insert, total_insert}
use Rattle.page.proofs.Slots.{Lies, lies}
use Rattle.page.proofs.Painted.{Painted}

-- slot i of q is slot j of p
pub record Same (q : List ℕ) (i : ℕ) (p : List ℕ) (j : ℕ) : Type 0 where
  pub off_is : off q i ≡ off p j
  pub len_is : len q i ≡ len p j
  pub kind_is : kind q i ≡ kind p j
  pub place_is : place q i ≡ place p j
  pub code_is : code q i ≡ code p j

-- two slots with one word, in lists of one length that agree on the record
pub same_word : {p q : List ℕ} {i j : ℕ} → word q i ≡ word p j → length q ≡ length p → 8 ≤ len p j → off p j + len p j ≤ length p
    → ((k : ℕ) → In p j k → byte q k ≡ byte p k) → Same q i p j
unfolding off len kind place code
same_word {p} {q} {i} {j} e l h m b = record {
  off_is = ap (λ w. w % 16384) e;
  len_is = ap (λ w. w / 16384 % 16384) e;
  kind_is = ap (λ w. w / 268435456) e;
  place_is = rw e (part_same p q (off p j) 8 (omega arith) (omega arith) (λ k g n. b k (record { from = g; to = omega arith })));
  code_is = rw e (part_same p q (off p j + 8) (len p j - 8) (omega arith) (omega arith) (λ k g n. b k (record { from = omega arith; to = omega arith })));
}

pub same_in : {p q : List ℕ} {i j k : ℕ} → Same q i p j → In q i k → In p j k
same_in {p} {q} {i} {j} {k} e h = record { from = omega (arith, e.off_is, h.from); to = omega (arith, e.off_is, e.len_is, h.to) }

pub in_same : {p q : List ℕ} {i j k : ℕ} → Same q i p j → In p j k → In q i k
in_same {p} {q} {i} {j} {k} e h = record { from = omega (arith, e.off_is, h.from); to = omega (arith, e.off_is, e.len_is, h.to) }

pub same_before : {p q : List ℕ} {i j i' j' : ℕ} → Same q i p j → Same q i' p j' → Before (code p j) (code p j') → Before (code q i) (code q i')
same_before e e' h = rw (e.code_is, e'.code_is) h

pub row_same : {p q : List ℕ} (i j : ℕ) → Same q i p j → row_at q i ≡ row_at p j
row_same i j e = λ k. record { start = e.off_is k; place = e.place_is k; code = e.code_is k }

-- what a slot's numbers must be, for a page whose frontier is f
pub record SlotNumbers (f o l k : ℕ) (pl : List ℕ) : Type 0 where
  pub kind_one : k ≡ 1
  pub short : 9 ≤ l
  pub long : l ≤ 72
  pub after : 8 ≤ o
  pub inside : o + l ≤ f
  pub natural : Natural pl

-- where slot i of q comes from
data From (p : List ℕ) (s : ℕ) (q : List ℕ) (i : ℕ) : Type 0 where
  below : i < s → Same q i p i → From p s q i
  here : i ≡ s → From p s q i
  above : (j : ℕ) → i ≡ j + 1 → s ≤ j → j < count p → Same q i p j → From p s q i

module _ (p : List ℕ) (s : ℕ) (c pl q : List ℕ) (I : Insertable p s c pl) (P : Painted p s c pl q) (bytes : (k : ℕ) → byte q k < 256) where
  old_bytes : (j k : ℕ) → j < count p → In p j k → byte q k ≡ byte p k
  old_bytes j k h m = let l : Lies p j = lies j I.page h in P.kept k (omega (arith, m.from)) (omega (arith, m.to))

  same_of : (i j : ℕ) → j < count p → word q i ≡ word p j → Same q i p j
  same_of i j h e = let l : Lies p j = lies j I.page h in same_word e P.len (omega arith) (omega arith) (λ k m. old_bytes j k h m)

  lower : (i : ℕ) → i < s → Same q i p i
  lower i h = same_of i i (omega (arith, I.belongs.within)) (P.lower i h)

  upper : (j : ℕ) → s ≤ j → j < count p → Same q (j + 1) p j
  upper j h m = same_of (j + 1) j m (P.upper j h m)

  from : (i : ℕ) → i < count q → From p s q i
  from i h = ⊎_elim (λ lt. below lt (lower i lt)) (λ ge. ⊎_elim
      (λ gt. let e : (i - 1) + 1 ≡ i = omega arith in
      above (i - 1) (omega arith) (omega arith) (omega (arith, P.counted)) (rw e at (upper (i - 1) (omega arith) (omega (arith, P.counted)))))
      (λ le. here (omega arith))
      (side s i)) (side i s)

  new_off : off q s ≡ frontier p
  unfolding off
  new_off = omega (arith, P.new, I.room, I.page.most)

  new_len : len q s ≡ 8 + length c
  unfolding len
  new_len = omega (arith, P.new, I.room, I.page.most, I.good.most)

  new_kind : kind q s ≡ 1
  unfolding kind
  new_kind = omega (arith, P.new, I.room, I.page.most, I.good.most)

  new_place : place q s ≡ pl
  unfolding place
  new_place = rw new_off P.placed

  new_code : code q s ≡ c
  unfolding code
  new_code = let e : len q s - 8 ≡ length c = omega (arith, new_len) in rw (new_off, e) P.coded

  fine_old : (i j : ℕ) → j < count p → Same q i p j → SlotNumbers (frontier q) (off q i) (len q i) (kind q i) (place q i)
  fine_old i j h e = let l : Lies p j = lies j I.page h in record {
    kind_one = e.kind_is ∙ I.page.kinds j h;
    short = omega (arith, e.len_is);
    long = omega (arith, e.len_is);
    after = omega (arith, e.off_is);
    inside = omega (arith, e.len_is, e.off_is, P.fronted);
    natural = rw e.place_is (I.page.places j h);
  }

  fine_new : SlotNumbers (frontier q) (off q s) (len q s) (kind q s) (place q s)
  fine_new = record {
    kind_one = new_kind;
    short = omega (arith, new_len, I.good.least);
    long = omega (arith, new_len, I.good.most);
    after = omega (arith, new_off, I.page.start);
    inside = omega (arith, new_off, new_len, P.fronted);
    natural = rw new_place I.natural;
  }

  fine : (i : ℕ) → From p s q i → SlotNumbers (frontier q) (off q i) (len q i) (kind q i) (place q i)
  fine i (below h e) = fine_old i i (omega (arith, I.belongs.within)) e
  fine i (here e) = rw e fine_new
  fine i (above j f h m e) = fine_old i j m e

  -- an old record and the new one have no byte together
  clash : (i j k : ℕ) → j < count p → Same q i p j → In q i k → In q s k → ⊥
  clash i j k h e a b = let l : Lies p j = lies j I.page h in omega (arith, e.len_is, e.off_is, new_off, a.to, b.from)

  -- two old records that have a byte together are one
  one_old : (i i' j j' k : ℕ) → j < count p → j' < count p → Same q i p j → Same q i' p j' → In q i k → In q i' k → j ≡ j'
  one_old i i' j j' k h h' e e' a b = I.page.apart j j' k h h' (same_in e a) (same_in e' b)

  apart : (i i' k : ℕ) → From p s q i → From p s q i' → In q i k → In q i' k → i ≡ i'
  apart i i' k (below h e) (below h' e') a b = one_old i i' i i' k (omega (arith, I.belongs.within)) (omega (arith, I.belongs.within)) e e' a b
  apart i i' k (below h e) (here f') a b = absurd (clash i i k (omega (arith, I.belongs.within)) e a (rw f' at b))
  apart i i' k (below h e) (above j' f' h' m' e') a b = omega (arith, one_old i i' i j' k (omega (arith, I.belongs.within)) m' e e' a b)
  apart i i' k (here f) (below h' e') a b = absurd (clash i' i' k (omega (arith, I.belongs.within)) e' b (rw f at a))
  apart i i' k (here f) (here f') a b = omega arith
  apart i i' k (here f) (above j' f' h' m' e') a b = absurd (clash i' j' k m' e' b (rw f at a))
  apart i i' k (above j f h m e) (below h' e') a b = omega (arith, one_old i i' j i' k m (omega (arith, I.belongs.within)) e e' a b)
  apart i i' k (above j f h m e) (here f') a b = absurd (clash i j k m e a (rw f' at b))
  apart i i' k (above j f h m e) (above j' f' h' m' e') a b = omega (arith, one_old i i' j j' k m m' e e' a b)

  ascending : (i i' : ℕ) → i < i' → From p s q i → From p s q i' → Before (code q i) (code q i')
  ascending i i' l (below h e) (below h' e') = same_before e e' (I.page.ascending i i' l (omega (arith, I.belongs.within)))
  ascending i i' l (below h e) (here f') = rw (e.code_is, f', new_code) (I.belongs.left i h)
  ascending i i' l (below h e) (above j' f' h' m' e') = same_before e e' (I.page.ascending i j' (omega arith) m')
  ascending i i' l (here f) (below h' e') = absurd (omega arith)
  ascending i i' l (here f) (here f') = absurd (omega arith)
  ascending i i' l (here f) (above j' f' h' m' e') = rw (e'.code_is, f, new_code) (I.belongs.right j' h' m')
  ascending i i' l (above j f h m e) (below h' e') = absurd (omega arith)
  ascending i i' l (above j f h m e) (here f') = absurd (omega arith)
  ascending i i' l (above j f h m e) (above j' f' h' m' e') = same_before e e' (I.page.ascending j j' (omega arith) m')

  -- each old slot is a slot of q
  still : (j k : ℕ) → j < count p → ((i : ℕ) → i < count q → In q i k → ⊥) → In p j k → ⊥
  still j k h out a = ⊎_elim
      (λ lt. out j (omega (arith, P.counted)) (in_same (lower j lt) a))
      (λ ge. out (j + 1) (omega (arith, P.counted)) (in_same (upper j ge h) a))
      (side j s)

  clear : (k : ℕ) → 8 ≤ k → k + 4 * count q < length q → ((i : ℕ) → i < count q → In q i k → ⊥) → byte q k ≡ 0
  clear k h m out =
      let was : byte p k ≡ 0 = I.page.clear k h (omega (arith, P.counted, P.len)) (λ j n a. still j k n out a) in
      ⊎_elim (λ lt. P.kept k h lt ∙ was)
      (λ ge. ⊎_elim
      (λ lt. absurd (out s (omega (arith, P.counted, I.belongs.within)) (record { from = omega (arith, new_off); to = omega (arith, new_off, new_len) })))
      (λ ge'. P.gap k ge' (omega (arith, P.counted, P.len)) ∙ was)
      (side k (frontier p + 8 + length c)))
      (side k (frontier p))

  count_suc : count q ≡ suc (count p)
  count_suc = omega (arith, P.counted)

  needs_sum : total (slot_need q) (count q) ≡ 12 + length c + total (slot_need p) (count p)
  needs_sum =
      let t : total (slot_need q) (suc (count p)) ≡ slot_need q s + total (slot_need p) (count p) =
      total_insert (slot_need p) (slot_need q) (count p) s I.belongs.within
      (λ i h. omega (arith, (lower i h).len_is))
      (λ i h m. let e : i + 1 ≡ suc i = add-one i in omega (arith, rw e at (upper i h m).len_is)) in
      rw count_suc (omega (arith, t, new_len))

  rows_are : rows q ≡ insert_at s (record { start = frontier p; place = pl; code = c }) (rows p)
  rows_are =
      let t : tab (row_at q) (suc (count p)) ≡ insert_at s (row_at q s) (rows p) =
      tab_insert (row_at p) (row_at q) (count p) s I.belongs.within
      (λ i h. row_same i i (lower i h))
      (λ i h m. let e : i + 1 ≡ suc i = add-one i in row_same (suc i) i (rw e at (upper i h m))) in
      let r : ◌≡◌ {A = Record} (row_at q s) (record { start = frontier p; place = pl; code = c }) = λ k. record { start = new_off k; place = new_place k; code = new_code k } in
      rw count_suc (t ∙ ap (λ x. insert_at s x (rows p)) r)

  pub inserted : Inserted p s c pl q
  inserted = record {
    page = record {
      least = omega (arith, P.len, I.page.least);
      most = omega (arith, P.len, I.page.most);
      bytes = bytes;
      one = P.low 0 (omega arith) ∙ I.page.one;
      room = omega (arith, P.counted, P.fronted, P.len, I.room);
      kinds = λ i h. (fine i (from i h)).kind_one;
      short = λ i h. (fine i (from i h)).short;
      long = λ i h. (fine i (from i h)).long;
      after = λ i h. (fine i (from i h)).after;
      inside = λ i h. (fine i (from i h)).inside;
      start = omega (arith, P.fronted, I.page.start);
      empty = λ h. absurd (omega (arith, P.counted));
      top = λ h. (s, omega (arith, P.counted, I.belongs.within), omega (arith, new_off, new_len, P.fronted));
      places = λ i h. (fine i (from i h)).natural;
      apart = λ i j k h m a b. apart i j k (from i h) (from j m) a b;
      ascending = λ i j l h. ascending i j l (from i (omega arith)) (from j h);
      unused = omega (arith, needs_sum, P.freed, P.len, I.fits, I.page.unused);
      clear = clear;
    };
    long = P.len;
    deep = P.low 1 (omega arith);
    rows_of = rows_are;
  }
