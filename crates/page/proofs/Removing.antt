-- A removal leaves a page that satisfies the rules, without the row. Assumes nothing.
use Prim.Native.Nat.{ℕ, suc, ◌+◌, ◌*◌, ◌-◌, ◌≤◌, ◌<◌}
use mathlib.Core.Path.{◌≡◌, ◌∙◌}
use mathlib.Core.Logic.{⊎_elim}
use mathlib.Core.List.{List}
use native.Mathlib.Omega.{arith}
use native.Mathlib.Numerals.{add-one}
use lib.ListN.{length}
use Rattle.ground.specs.Lists.{byte, total, remove_at}
use Rattle.words.specs.Moves.{Frame, Cleared}
use Rattle.ground.proofs.Sides.{side}
use Rattle.words.proofs.Bytes.{span_frame, le32_above}
use Rattle.words.specs.Codes.{Before}
use Rattle.page.specs.Page.{In, rows, row_at, slot_need, word, off, len, kind, place, code, count, frontier, free, slot_at}
use Rattle.page.specs.Steps.{Removable, Removed, Closed, Headed, Top}
use Rattle.ground.proofs.Tables.{tab_remove, total_insert}
use Rattle.page.proofs.Slots.{Lies, lies}
use Rattle.page.proofs.Painted.{word_at}
use Rattle.page.proofs.Inserting.{Same, same_word, same_in, in_same, same_before, SlotNumbers, row_same}

-- q against p
pub record Erased (p : List ℕ) (s : ℕ) (q : List ℕ) : Type 0 where
  pub len_is : length q ≡ length p
  pub low : (k : ℕ) → k < 2 → byte q k ≡ byte p k
  pub counted : count q + 1 ≡ count p
  pub freed : free q ≡ free p + 4 + len p s
  pub top : Top q (count q) (frontier q)
  pub zeroed : (k : ℕ) → In p s k → byte q k ≡ 0
  pub kept : (k : ℕ) → 8 ≤ k → k + 4 * count p < length p → (In p s k → ⊥) → byte q k ≡ byte p k
  pub gone : (k : ℕ) → length p ≤ k + 4 * count p → k + 4 * count q < length p → byte q k ≡ 0
  pub lower : (i : ℕ) → i < s → word q i ≡ word p i
  pub upper : (i : ℕ) → s ≤ i → i < count q → word q i ≡ word p (i + 1)

-- the largest end where the words are the same
top_same : {p q : List ℕ} {n r : ℕ} → Top p n r → ((i : ℕ) → i < n → word q i ≡ word p i) → Top q n r
unfolding off len
top_same {p} {q} {n} {r} t e = record {
  least = t.least;
  most = λ i h. rw (e i h) (t.most i h);
  reached = λ a. ((t.reached a).0, (t.reached a).1, rw (e (t.reached a).0 (t.reached a).1) (t.reached a).2);
}

erased_at : {p q₁ q₂ q : List ℕ} {s f : ℕ} → Removable p s
    → Cleared p (off p s) (off p s + len p s) q₁
    → Closed q₁ (count p) s q₂
    → Top q₂ (count p - 1) f
    → Headed q₂ (count p - 1) f (free p + 4 + len p s) q
    → Erased p s q
unfolding word
erased_at {p} {q₁} {q₂} {q} {s} {f} I a b t d =
    let l₁ : length q₁ ≡ length p = a.len in
    let l₂ : length q₂ ≡ length q₁ = b.old.len in
    let l₃ : length q ≡ length q₂ = d.old.len in
    let e : length q ≡ length p = l₃ ∙ l₂ ∙ l₁ in
    let e₂ : length q₂ ≡ length p = l₂ ∙ l₁ in
    let sn : s < count p = I.within in
    let y : Lies p s = lies s I.page sn in
    let nq : count q ≡ count p - 1 = d.counted in
    let fa : Frame p (off p s) (off p s + len p s - off p s) q₁ = span_frame a (omega arith) in
    record {
      len_is = e;
      low = λ k h. d.old.below k h ∙ b.old.below k (omega arith) ∙ a.below k (omega arith);
      counted = omega arith;
      freed = d.freed;
      top = rw (nq, d.fronted) (top_same t (λ i h. rw (e, e₂) (le32_above (slot_at p i) d.old (omega arith))));
      zeroed = λ k m. d.old.above k (omega (arith, m.from)) ∙ b.old.below k (omega (arith, m.to)) ∙ a.new k m.from m.to;
      kept = λ k h g out. d.old.above k (omega arith) ∙ b.old.below k (omega arith)
          ∙ ⊎_elim (λ lt. a.below k lt) (λ ge. ⊎_elim (λ lt. absurd (out (record { from = ge; to = lt }))) (λ ge₂. a.above k ge₂) (side k (off p s + len p s))) (side k (off p s));
      gone = λ k h g. d.old.above k (omega arith) ∙ b.gone k (omega arith) (omega arith);
      lower = λ i h. word_at p q i (word p i) e
          (le32_above (slot_at p i) d.old (omega arith) ∙ le32_above (slot_at p i) b.old (omega arith) ∙ le32_above (slot_at p i) fa (omega arith));
      upper = λ i h g. word_at p q i (word p (i + 1)) e
          (le32_above (slot_at p i) d.old (omega arith) ∙ rw (e₂, l₁) at (b.moved i h (omega arith)) ∙ le32_above (slot_at p (i + 1)) fa (omega arith));
    }

-- the same, by the numbers that the code reads
pub erased : {p q₁ q₂ q : List ℕ} {s f n r o m : ℕ} → Removable p s → n ≡ count p → r ≡ free p → o ≡ off p s → m ≡ len p s
    → Cleared p o (o + m) q₁ → Closed q₁ n s q₂ → Top q₂ (n - 1) f → Headed q₂ (n - 1) f (r + 4 + m) q → Erased p s q
erased I en er eo em a b t d = erased_at I (rw (eo, em) at a) (rw en at b) (rw en at t) (rw (en, er, em) at d)

-- where slot i of q comes from
data Kept (p : List ℕ) (s : ℕ) (q : List ℕ) (i : ℕ) : Type 0 where
  below : i < s → Same q i p i → Kept p s q i
  above : s ≤ i → i + 1 < count p → Same q i p (i + 1) → Kept p s q i

module _ (p : List ℕ) (s : ℕ) (q : List ℕ) (I : Removable p s) (E : Erased p s q) (bytes : (k : ℕ) → byte q k < 256) where
  same_of : (i j : ℕ) → j < count p → (j ≡ s → ⊥) → word q i ≡ word p j → Same q i p j
  same_of i j h ne e = let l : Lies p j = lies j I.page h in
      same_word e E.len_is (omega arith) (omega arith)
      (λ k m. E.kept k (omega (arith, m.from)) (omega (arith, m.to)) (λ m'. ne (I.page.apart j s k h I.within m m')))

  lower : (i : ℕ) → i < s → Same q i p i
  lower i h = same_of i i (omega (arith, I.within)) (omega arith) (E.lower i h)

  upper : (i : ℕ) → s ≤ i → i < count q → Same q i p (i + 1)
  upper i h m = same_of i (i + 1) (omega (arith, E.counted)) (omega arith) (E.upper i h m)

  from : (i : ℕ) → i < count q → Kept p s q i
  from i h = ⊎_elim (λ lt. below lt (lower i lt)) (λ ge. above ge (omega (arith, E.counted)) (upper i ge h)) (side i s)

  fine_old : (i j : ℕ) → i < count q → j < count p → Same q i p j → SlotNumbers (frontier q) (off q i) (len q i) (kind q i) (place q i)
  fine_old i j h m e = let l : Lies p j = lies j I.page m in record {
    kind_one = e.kind_is ∙ I.page.kinds j m;
    short = omega (arith, e.len_is);
    long = omega (arith, e.len_is);
    after = omega (arith, e.off_is);
    inside = E.top.most i h;
    natural = rw e.place_is (I.page.places j m);
  }

  fine : (i : ℕ) → i < count q → Kept p s q i → SlotNumbers (frontier q) (off q i) (len q i) (kind q i) (place q i)
  fine i n (below h e) = fine_old i i n (omega (arith, I.within)) e
  fine i n (above h m e) = fine_old i (i + 1) n m e

  one_old : (i i' j j' k : ℕ) → j < count p → j' < count p → Same q i p j → Same q i' p j' → In q i k → In q i' k → j ≡ j'
  one_old i i' j j' k h h' e e' a b = I.page.apart j j' k h h' (same_in e a) (same_in e' b)

  apart : (i i' k : ℕ) → Kept p s q i → Kept p s q i' → In q i k → In q i' k → i ≡ i'
  apart i i' k (below h e) (below h' e') a b = one_old i i' i i' k (omega (arith, I.within)) (omega (arith, I.within)) e e' a b
  apart i i' k (below h e) (above h' m' e') a b = omega (arith, one_old i i' i (i' + 1) k (omega (arith, I.within)) m' e e' a b)
  apart i i' k (above h m e) (below h' e') a b = omega (arith, one_old i i' (i + 1) i' k m (omega (arith, I.within)) e e' a b)
  apart i i' k (above h m e) (above h' m' e') a b = omega (arith, one_old i i' (i + 1) (i' + 1) k m m' e e' a b)

  ascending : (i i' : ℕ) → i < i' → Kept p s q i → Kept p s q i' → Before (code q i) (code q i')
  ascending i i' l (below h e) (below h' e') = same_before e e' (I.page.ascending i i' l (omega (arith, I.within)))
  ascending i i' l (below h e) (above h' m' e') = same_before e e' (I.page.ascending i (i' + 1) (omega arith) m')
  ascending i i' l (above h m e) (below h' e') = absurd (omega arith)
  ascending i i' l (above h m e) (above h' m' e') = same_before e e' (I.page.ascending (i + 1) (i' + 1) (omega arith) m')

  -- a slot other than s is a slot of q
  still : (j k : ℕ) → j < count p → ((i : ℕ) → i < count q → In q i k → ⊥) → (In p s k → ⊥) → In p j k → ⊥
  still j k h out nope a = ⊎_elim
      (λ lt. out j (omega (arith, E.counted, I.within)) (in_same (lower j lt) a))
      (λ ge. ⊎_elim
      (λ gt. let x : j - 1 + 1 ≡ j = omega arith in
      out (j - 1) (omega (arith, E.counted)) (in_same (upper (j - 1) (omega arith) (omega (arith, E.counted))) (rw x a)))
      (λ le. let x : j ≡ s = omega arith in nope (rw x at a))
      (side s j))
      (side j s)

  clear : (k : ℕ) → 8 ≤ k → k + 4 * count q < length q → ((i : ℕ) → i < count q → In q i k → ⊥) → byte q k ≡ 0
  clear k h m out = ⊎_elim
      (λ lt. ⊎_elim (λ b. stays lt (λ a. omega (arith, a.from))) (λ f. ⊎_elim (λ t. E.zeroed k (record { from = f; to = t })) (λ g. stays lt (λ a. omega (arith, a.to))) (side k (off p s + len p s))) (side k (off p s)))
      (λ ge. E.gone k ge (omega (arith, E.len_is)))
      (side (k + 4 * count p) (length p))
    where
      stays : k + 4 * count p < length p → (In p s k → ⊥) → byte q k ≡ 0
      stays lt nope = E.kept k h lt nope ∙ I.page.clear k h lt (λ j n a. still j k n out nope a)

  count_suc : count p ≡ suc (count q)
  count_suc = omega (arith, E.counted)

  needs_sum : total (slot_need p) (count p) ≡ slot_need p s + total (slot_need q) (count q)
  needs_sum = rw count_suc (total_insert (slot_need q) (slot_need p) (count q) s (omega (arith, E.counted, I.within))
      (λ i h. omega (arith, (lower i h).len_is))
      (λ i h m. let e : i + 1 ≡ suc i = add-one i in omega (arith, rw e at (upper i h m).len_is)))

  rows_are : rows q ≡ remove_at s (rows p)
  rows_are = rw count_suc (tab_remove (row_at p) (row_at q) (count q) s (omega (arith, E.counted, I.within))
      (λ i h. row_same i i (lower i h))
      (λ i h m. let e : i + 1 ≡ suc i = add-one i in row_same i (suc i) (rw e at (upper i h m))))

  -- the frontier does not rise
  sinks : (i : ℕ) → i < count q → Kept p s q i → off q i + len q i ≤ frontier p
  sinks i n (below h e) = omega (arith, e.off_is, e.len_is, I.page.inside i (omega (arith, I.within)))
  sinks i n (above h m e) = omega (arith, e.off_is, e.len_is, I.page.inside (i + 1) m)

  -- the frontier is that of p or lower
  low_room : frontier q ≤ frontier p
  low_room = ⊎_elim
      (λ a. let t : (i : ℕ) × (i < count q) × (off q i + len q i ≡ frontier q) = E.top.reached a in omega (arith, t.2, sinks t.0 t.1 (from t.0 t.1)))
      (λ b. omega (arith, I.page.start))
      (side 8 (frontier q))

  pub removed : Removed p s q
  removed = record {
    page = record {
      least = omega (arith, E.len_is, I.page.least);
      most = omega (arith, E.len_is, I.page.most);
      bytes = bytes;
      one = E.low 0 (omega arith) ∙ I.page.one;
      room = omega (arith, E.counted, E.len_is, low_room, I.page.room);
      kinds = λ i h. (fine i h (from i h)).kind_one;
      short = λ i h. (fine i h (from i h)).short;
      long = λ i h. (fine i h (from i h)).long;
      after = λ i h. (fine i h (from i h)).after;
      inside = λ i h. (fine i h (from i h)).inside;
      start = E.top.least;
      empty = λ h. ⊎_elim (λ a. absurd (omega (arith, (E.top.reached a).1))) (λ b. omega (arith, E.top.least)) (side 8 (frontier q));
      top = λ h. E.top.reached (omega (arith, (fine 0 h (from 0 h)).short, (fine 0 h (from 0 h)).inside));
      places = λ i h. (fine i h (from i h)).natural;
      apart = λ i j k h m a b. apart i j k (from i h) (from j m) a b;
      ascending = λ i j l h. ascending i j l (from i (omega arith)) (from j h);
      unused = omega (arith, needs_sum, E.freed, E.len_is, I.page.unused);
      clear = clear;
    };
    long = E.len_is;
    deep = E.low 1 (omega arith);
    rows_of = rows_are;
  }
