-- A place overwritten leaves a page that satisfies the rules, with that place. Assumes nothing.
use Prim.Native.Nat.{ℕ, ◌+◌, ◌*◌, ◌-◌, ◌/◌, ◌%◌, ◌≤◌, ◌<◌}
use mathlib.Core.Path.{◌≡◌, ap, ◌∙◌}
use mathlib.Core.Logic.{⊎_elim}
use mathlib.Core.List.{List}
use native.Mathlib.Omega.{arith}
use lib.ListN.{length, set}
use Rattle.ground.specs.Lists.{byte, tab, total}
use Rattle.ground.proofs.Sides.{side, same}
use Rattle.ground.proofs.Parts.{part_same}
use Rattle.ground.proofs.Tables.{tab_set, total_same}
use Rattle.words.specs.Moves.{Frame, Copied}
use Rattle.words.proofs.Bytes.{le16_below, le32_above, copied_part}
use Rattle.page.specs.Page.{Natural, In, Record, rows, row_at, slot_need, word, off, len, kind, place, code, count, frontier, free, slot_at}
use Rattle.page.specs.Steps.{Overwritable, Overwritten}
use Rattle.page.proofs.Slots.{Lies, lies}
use Rattle.page.proofs.Painted.{word_at}

module _ (p : List ℕ) (s : ℕ) (pl q : List ℕ) (O : Overwritable p s pl) (C : Copied p (off p s) pl q) (bytes : (k : ℕ) → byte q k < 256) where
  old : Frame p (off p s) 8 q
  old = rw O.natural.long at C.old

  here : Lies p s
  here = lies s O.page O.within

  counted : count q ≡ count p
  counted = le16_below 2 old (omega (arith, here))

  fronted : frontier q ≡ frontier p
  fronted = le16_below 4 old (omega (arith, here))

  freed : free q ≡ free p
  freed = le16_below 6 old (omega (arith, here))

  words : (i : ℕ) → i < count p → word q i ≡ word p i
  unfolding word
  words i h = word_at p q i (word p i) old.len (le32_above (slot_at p i) old (omega (arith, here)))

  offs : (i : ℕ) → i < count p → off q i ≡ off p i
  unfolding off
  offs i h = ap (λ w. w % 16384) (words i h)

  lens : (i : ℕ) → i < count p → len q i ≡ len p i
  unfolding len
  lens i h = ap (λ w. w / 16384 % 16384) (words i h)

  kinds : (i : ℕ) → i < count p → kind q i ≡ kind p i
  unfolding kind
  kinds i h = ap (λ w. w / 268435456) (words i h)

  in_p : (i k : ℕ) → i < count p → In q i k → In p i k
  in_p i k h a = record { from = omega (arith, offs i h, a.from); to = omega (arith, offs i h, lens i h, a.to) }

  in_q : (i k : ℕ) → i < count p → In p i k → In q i k
  in_q i k h a = record { from = omega (arith, offs i h, a.from); to = omega (arith, offs i h, lens i h, a.to) }

  -- a byte that is none of slot s's place
  kept : (k : ℕ) → (off p s ≤ k → k < off p s + 8 → ⊥) → byte q k ≡ byte p k
  kept k n = ⊎_elim (λ lt. old.below k lt) (λ ge. old.above k (⊎_elim (λ lt. absurd (n ge lt)) (λ g. g) (side k (off p s + 8)))) (side k (off p s))

  -- a byte of another slot's record
  other : (i k : ℕ) → i < count p → (i ≡ s → ⊥) → In p i k → byte q k ≡ byte p k
  other i k h ne a = kept k (λ f t. ne (O.page.apart i s k h O.within a (record { from = f; to = omega (arith, here) })))

  places : (i : ℕ) → i < count p → (i ≡ s → ⊥) → place q i ≡ place p i
  unfolding place
  places i h ne = let l : Lies p i = lies i O.page h in
      rw (offs i h) (part_same p q (off p i) 8 (omega arith) (omega (arith, old.len)) (λ k f t. other i k h ne (record { from = f; to = omega arith })))

  place_new : place q s ≡ pl
  unfolding place
  place_new = rw (offs s O.within) (rw O.natural.long at (copied_part pl C (omega (arith, here, old.len, O.natural.long))))

  code_byte : (i k : ℕ) → i < count p → off p i + 8 ≤ k → k < off p i + len p i → byte q k ≡ byte p k
  code_byte i k h f t = ⊎_elim (λ e. old.above k (rw e at f)) (λ ne. other i k h ne (record { from = omega arith; to = t })) (same i s)

  codes : (i : ℕ) → i < count p → code q i ≡ code p i
  unfolding code
  codes i h = let l : Lies p i = lies i O.page h in
      rw (offs i h, lens i h) (part_same p q (off p i + 8) (len p i - 8) (omega arith) (omega (arith, old.len)) (λ k f t. code_byte i k h f (omega arith)))

  natural : (i : ℕ) → i < count p → Natural (place q i)
  natural i h = ⊎_elim (λ e. let x : i ≡ s = e in rw x (rw place_new O.natural)) (λ ne. rw (places i h ne) (O.page.places i h)) (same i s)

  clear : (k : ℕ) → 8 ≤ k → k + 4 * count q < length q → ((i : ℕ) → i < count q → In q i k → ⊥) → byte q k ≡ 0
  clear k h m out =
      kept k (λ f t. out s (omega (arith, counted, O.within)) (in_q s k O.within (record { from = f; to = omega (arith, here) })))
      ∙ O.page.clear k h (omega (arith, counted, old.len)) (λ i n a. out i (omega (arith, counted)) (in_q i k n a))

  needs_sum : total (slot_need q) (count p) ≡ total (slot_need p) (count p)
  needs_sum = total_same (slot_need q) (slot_need p) (count p) (λ i h. omega (arith, lens i h))

  rows_are : rows q ≡ set (rows p) s (record { start = off p s; place = pl; code = code p s })
  rows_are =
      let t : tab (row_at q) (count p) ≡ set (rows p) s (row_at q s) = tab_set (row_at p) (row_at q) (count p) s O.within
      (λ i h ne. λ k. record { start = offs i h k; place = places i h ne k; code = codes i h k }) in
      let r : ◌≡◌ {A = Record} (row_at q s) (record { start = off p s; place = pl; code = code p s }) = λ k. record { start = offs s O.within k; place = place_new k; code = codes s O.within k } in
      rw counted (t ∙ ap (λ x. set (rows p) s x) r)

  -- a slot of q is one of p
  was : (i : ℕ) → i < count q → i < count p
  was i h = omega (arith, counted)

  pub overwritten : Overwritten p s pl q
  overwritten = record {
    page = record {
      least = omega (arith, old.len, O.page.least);
      most = omega (arith, old.len, O.page.most);
      bytes = bytes;
      one = old.below 0 (omega (arith, here)) ∙ O.page.one;
      room = omega (arith, counted, fronted, old.len, O.page.room);
      kinds = λ i h. kinds i (was i h) ∙ O.page.kinds i (was i h);
      short = λ i h. omega (arith, lens i (was i h), O.page.short i (was i h));
      long = λ i h. omega (arith, lens i (was i h), O.page.long i (was i h));
      after = λ i h. omega (arith, offs i (was i h), O.page.after i (was i h));
      inside = λ i h. omega (arith, offs i (was i h), lens i (was i h), fronted, O.page.inside i (was i h));
      start = omega (arith, fronted, O.page.start);
      empty = λ h. absurd (omega (arith, counted, O.within));
      top = λ h.
          let t : (i : ℕ) × (i < count p) × (off p i + len p i ≡ frontier p) = O.page.top (omega (arith, O.within)) in
          (t.0, omega (arith, counted, t.1), omega (arith, offs t.0 t.1, lens t.0 t.1, fronted, t.2));
      places = λ i h. natural i (was i h);
      apart = λ i j k h m a b. O.page.apart i j k (was i h) (was j m) (in_p i k (was i h) a) (in_p j k (was j m) b);
      ascending = λ i j l h. rw (codes i (omega (arith, was j h)), codes j (was j h)) (O.page.ascending i j l (was j h));
      unused = rw counted (omega (arith, needs_sum, freed, old.len, O.page.unused));
      clear = clear;
    };
    long = old.len;
    deep = old.below 1 (omega (arith, here));
    rows_of = rows_are;
  }
