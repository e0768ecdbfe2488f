-- The filled store exists, and is one: the counts' bytes written out. Over any page size. Assumes nothing.
use mathlib.Core.Path.{◌≡◌, refl, sym, ap, ◌∙◌}
use mathlib.Core.List.{List}
use mathlib.Core.Logic.{◌⊎◌, inl, inr, ⊎_elim}
use Prim.Native.Nat.{ℕ, zero, suc, ◌+◌, ◌-◌, ◌*◌, ◌/◌, ◌%◌, ◌≤◌, ◌<◌}
use native.Mathlib.Omega.{arith}
use lib.ListN.{length, get_or-eq_default}
use lib.Seq.{ext_get_or}
use Rattle.ground.specs.Lists.{byte, tab}
use Rattle.ground.proofs.Sides.{side}
use Rattle.ground.proofs.Tables.{length_tab, get_d_tab}
use Rattle.words.specs.Le.{le16, le32, bytes}
use Rattle.words.specs.Moves.{Frame}
use Rattle.words.proofs.Bytes.{le32_byte, le32_moved, small_bytes}
use Rattle.partition.specs.declared.Shape.{Shape}
use Rattle.store.specs.Pages.{size, pages, contents}
use Rattle.store.specs.Accepted.{GoodLength}
use Rattle.store.specs.Counts.{counted}
use Rattle.store.specs.Demands.{Sized}
use Rattle.store.proofs.Accepted.Accepting.{contents_kept}
use Rattle.store.proofs.Accepted.Unique.{within}
use Rattle.store.proofs.Counts.Words.{counts_word, word_counts}
use Rattle.counts.specs.Tallies.{TalliedTo}
use Rattle.counts.proofs.Adds.{few_rows, few_buckets}
use Rattle.filling.specs.Filling.{Filled}

-- where one of two things holds, a number for each
abbrev by : {A B : Type 0} → A ⊎ B → ℕ → ℕ → ℕ
by (inl a) x y = x
by (inr b) x y = y

by_left : {A B : Type 0} (w : A ⊎ B) (x y : ℕ) → (B → ⊥) → by w x y ≡ x
by_left (inl a) x y n = refl
by_left (inr b) x y n = absurd (n b)

by_right : {A B : Type 0} (w : A ⊎ B) (x y : ℕ) → (A → ⊥) → by w x y ≡ y
by_right (inl a) x y n = absurd (n a)
by_right (inr b) x y n = refl

by_both : {A B : Type 0} (w : A ⊎ B) (x y : ℕ) → x < 256 → y < 256 → by w x y < 256
by_both (inl a) x y p q = p
by_both (inr b) x y p q = q

-- a number of 32 bits comes back from its four bytes
four_back : (n : ℕ) → n < 4294967296 → le32 (bytes 4 n) 0 ≡ n
unfolding bytes le32 le16
four_back n l = omega arith

module _ (S : Shape) (sized : Sized S) (s : List ℕ) (good : GoodLength S s) (small : (k : ℕ) → byte s k < 256) where
  room : 80 ≤ length s
  room = omega (arith, within S s 0 (omega (arith, good.least)), sized.least)

  abbrev count : ℕ → ℕ
  count j = counted (contents S s) j

  -- the counts are numbers of 32 bits
  tallied : TalliedTo S s (pages S s) (tab count 14)
  unfolding contents
  tallied = record { long = length_tab count 14; each = λ j l. get_d_tab count 14 j 0 l }

  count_small : (j : ℕ) → j < 14 → count j < 4294967296
  count_small zero l = omega (arith, few_rows S s small (pages S s) (tab count 14) tallied, get_d_tab count 14 0 0 l, good.most, sized.whole, sized.most)
  count_small (suc i) l = omega (arith, few_buckets S s (pages S s) i (tab count 14) (omega arith) tallied, get_d_tab count 14 (suc i) 0 l, good.most, sized.whole, sized.most)

  -- the byte at k of the filled store
  abbrev new : ℕ → ℕ
  new k = byte (bytes 4 (count ((k - 24) / 4))) ((k - 24) % 4)

  cell : ℕ → ℕ
  cell k = by (side k 24) (byte s k) (by (side k 80) (new k) (byte s k))

  pub filled : List ℕ
  filled = tab cell (length s)

  long : length filled ≡ length s
  unfolding filled
  long = length_tab cell (length s)

  at : (k : ℕ) → k < length s → byte filled k ≡ cell k
  unfolding filled
  at k l = get_d_tab cell (length s) k 0 l

  past : (k : ℕ) → length s ≤ k → byte filled k ≡ 0
  past k l = get_or-eq_default filled 0 (omega (arith, long))

  at_count : (k : ℕ) → 24 ≤ k → k < 80 → byte filled k ≡ new k
  unfolding cell
  at_count k a b = at k (omega (arith, room)) ∙ by_right (side k 24) (byte s k) _ (λ l. omega arith) ∙ by_left (side k 80) (new k) (byte s k) (λ l. omega arith)

  frame : Frame s 24 56 filled
  unfolding cell
  frame = record {
    len = long;
    below = λ k l. at k (omega (arith, room)) ∙ by_left (side k 24) (byte s k) _ (λ g. omega arith);
    above = λ k l. ⊎_elim
        (λ m. at k m ∙ by_right (side k 24) (byte s k) _ (λ g. omega arith) ∙ by_right (side k 80) (new k) (byte s k) (λ g. omega arith))
        (λ m. past k m ∙ sym (get_or-eq_default s 0 m)) (side k (length s));
  }

  bytes_small : (k : ℕ) → byte filled k < 256
  unfolding cell
  bytes_small k = ⊎_elim
      (λ m. omega (arith, at k m, by_both (side k 24) (byte s k) _ (small k) (by_both (side k 80) (new k) (byte s k) ((small_bytes 4 (count ((k - 24) / 4))).at ((k - 24) % 4)) (small k))))
      (λ m. omega (arith, past k m)) (side k (length s))

  word : (j : ℕ) → j < 14 → le32 filled (24 + 4 * j) ≡ count j
  word j l = le32_moved (bytes 4 (count j)) filled (24 + 4 * j) 0 each ∙ four_back (count j) (count_small j l)
    where
      each : (i : ℕ) → i < 4 → byte filled (24 + 4 * j + i) ≡ byte (bytes 4 (count j)) (0 + i)
      each i b =
          let q : (24 + 4 * j + i - 24) / 4 ≡ j = omega arith in
          let r : (24 + 4 * j + i - 24) % 4 ≡ 0 + i = omega arith in
          at_count (24 + 4 * j + i) (omega arith) (omega arith) ∙ ap (λ x. byte (bytes 4 (count x)) ((24 + 4 * j + i - 24) % 4)) q ∙ ap (λ x. byte (bytes 4 (count j)) x) r

  above_pages : (k : ℕ) → 2 * size S ≤ k → byte filled k ≡ byte s k
  above_pages k l = frame.above k (omega (arith, sized.least))

  -- A STORE OF BYTES HAS ITS FILLED STORE
  pub is_filled : Filled S s filled
  is_filled = record {
    byte_size = bytes_small;
    old = frame;
    counts = word_counts S filled (λ j l. word j l ∙ ap (λ gs. counted gs j) (sym (contents_kept S s filled long above_pages)));
  }

-- AND ONE ONLY
module _ (S : Shape) (sized : Sized S) (s t u : List ℕ) (a : Filled S s t) (b : Filled S s u) where
  held : (v : List ℕ) → Filled S s v → contents S v ≡ contents S s
  held v f = contents_kept S s v f.old.len (λ k l. f.old.above k (omega (arith, sized.least)))

  same_word : (j : ℕ) → j < 14 → le32 t (24 + 4 * j) ≡ le32 u (24 + 4 * j)
  same_word j l = counts_word S t a.counts j l ∙ ap (λ gs. counted gs j) (held t a ∙ sym (held u b)) ∙ sym (counts_word S u b.counts j l)

  in_count : (k : ℕ) → 24 ≤ k → k < 80 → byte t k ≡ byte u k
  in_count k l m =
      let j : ℕ = (k - 24) / 4 in
      let q : 24 + 4 * j + (k - (24 + 4 * j)) ≡ k = omega arith in
      rw q at (le32_byte t u (24 + 4 * j) (k - (24 + 4 * j)) a.byte_size b.byte_size (same_word j (omega arith)) (omega arith))

  pub filled_one : t ≡ u
  filled_one = ext_get_or 0 t u (a.old.len ∙ sym b.old.len) (λ k _. ⊎_elim
      (λ l. a.old.below k l ∙ sym (b.old.below k l))
      (λ g. ⊎_elim (λ l. in_count k g l) (λ m. a.old.above k m ∙ sym (b.old.above k m)) (side k 80))
      (side k 24))
