-- A formatted store is accepted, and holds no rows. Assumes nothing.
use mathlib.Core.Path.{◌≡◌, refl, sym, ap, ◌∙◌}
use mathlib.Core.Bool.{true, true≢false}
use mathlib.Core.List.{List, [], ◌++◌, flat_map}
use mathlib.Core.Logic.{◌⊎◌, inl, inr, ⊎_elim}
use Prim.Native.Nat.{ℕ, zero, suc, ◌+◌, ◌-◌, ◌*◌, ◌/◌, ◌%◌, ◌≤◌, ◌<◌}
use native.Mathlib.Omega.{arith}
use native.Mathlib.Nat.{mul-le-mul_right, div-mul-le_self}
use lib.ListN.{length, get_or, replicate, length-append, length-replicate, get_or-replicate, get_or-eq_default}
use lib.Seq.{get_or-append-add}
use Rattle.ground.specs.Lists.{byte}
use Rattle.words.specs.Le.{le16, le32}
use Rattle.ground.proofs.Sides.{side}
use Rattle.ground.proofs.Parts.{byte_part}
use Rattle.ground.specs.Lists.{tab}
use Rattle.partition.specs.declared.Shape.{Shape}
use Rattle.partition.specs.Sizes.{number_of_size}
use Rattle.partition.proofs.Sizes.{number_small}
use Rattle.store.specs.Pages.{size, pages, page, entry_at, Page, free, read, contents, rows_in, rows_on, rows_held, deepest_in}
use Rattle.store.specs.Accepted.{GoodLength, Zero, unused, Accepted}
use Rattle.words.specs.Le.{bytes}
use Rattle.store.specs.Tables.{Out, formatted, blank, Refusal1, format_table}
use Rattle.store.specs.Demands.{Sized, Made, ok, format, FormatAccepted, AcceptedAgain}
use Rattle.ground.proofs.Ladders.{each}
use Rattle.store.specs.Counts.{buckets_at}
use Rattle.store.proofs.Counts.Words.{free_none}
use Rattle.store.proofs.Accepted.Rules.{closed}
use Rattle.store.proofs.Demands.Kept.{accepted_again}
use Rattle.store.proofs.Accepted.Unique.{read_zero, page_long}

rows_free : (f : ℕ → Page) (n : ℕ) → ((i : ℕ) → i < n → f i ≡ free) → rows_in (tab f n) ≡ []
unfolding tab rows_in flat_map
rows_free f zero h = refl
rows_free f (suc n) h = ap (λ g. rows_on g ++ rows_in (tab (λ i. f (suc i)) n)) (h zero (omega arith)) ∙ rows_free (λ i. f (suc i)) n (λ i l. h (suc i) (omega arith))

deep_free : (f : ℕ → Page) (n : ℕ) → ((i : ℕ) → i < n → f i ≡ free) → deepest_in (tab f n) ≡ 0
unfolding tab deepest_in
deep_free f zero h = refl
deep_free f (suc n) h =
    let a : deepest_in (tab (λ i. f (suc i)) n) ≡ 0 = deep_free (λ i. f (suc i)) n (λ i l. h (suc i) (omega arith)) in
    rw (h zero (omega arith), a)

module _ (S : Shape) (s : List ℕ) (sized : Sized S) (good : GoodLength S s) where
  head : List ℕ
  head = bytes 4 (pages S s) ++ bytes 4 (size S) ++ bytes 4 S.entries ++ bytes 4 (2 * size S) ++ bytes 4 0 ++ bytes 4 (number_of_size S)

  abbrev t : List ℕ
  t = blank S s

  head_long : length head ≡ 24
  unfolding head bytes
  head_long = refl

  big : 24 ≤ length s
  big =
      let m : 3 * size S ≤ pages S s * size S = mul-le-mul_right (size S) good.least in
      omega (arith, m, div-mul-le_self (length s) (size S), sized.least)

  pub blank_long : length t ≡ length s
  unfolding blank head bytes
  blank_long = length-append head (replicate (length s - 24) 0) ∙ omega (arith, length-replicate {A = ℕ} (length s - 24) 0, big)

  all_zero : (m j : ℕ) → get_or {A = ℕ} (replicate m 0) j 0 ≡ 0
  all_zero m j = ⊎_elim (λ l. get_or-replicate m j 0 0 l) (λ g. get_or-eq_default (replicate m 0) 0 (rw (length-replicate {A = ℕ} m 0) g)) (side j m)

  pub blank_zero : (k : ℕ) → 24 ≤ k → byte t k ≡ 0
  unfolding blank head bytes
  blank_zero k h =
      let e : length head + (k - 24) ≡ k = omega (arith, head_long) in
      rw e at (get_or-append-add head (replicate (length s - 24) 0) (k - 24) 0 ∙ all_zero (length s - 24) (k - 24))

  pub word_0 : le32 t 0 ≡ pages S s
  unfolding blank bytes le32 le16
  word_0 = omega (arith, good.most, sized.whole, sized.most)

  pub word_4 : le32 t 4 ≡ size S
  unfolding blank bytes le32 le16
  word_4 = omega (arith, good.most, sized.whole, sized.most)

  pub word_8 : le32 t 8 ≡ S.entries
  unfolding blank bytes le32 le16
  word_8 = omega (arith, good.most, sized.whole, sized.most)

  pub word_12 : le32 t 12 ≡ 2 * size S
  unfolding blank bytes le32 le16
  word_12 = omega (arith, good.most, sized.whole, sized.most)

  pub word_16 : le32 t 16 ≡ 0
  unfolding blank bytes le32 le16
  word_16 = omega arith

  pub word_20 : le32 t 20 ≡ number_of_size S
  unfolding blank bytes le32 le16
  word_20 = omega (arith, number_small S sized)

  word_zero : (k : ℕ) → 24 ≤ k → le32 t k ≡ 0
  unfolding le32 le16
  word_zero k h = omega (arith, blank_zero k h, blank_zero (k + 1) (omega arith), blank_zero (k + 2) (omega arith), blank_zero (k + 2 + 1) (omega arith))

  n_same : pages S t ≡ pages S s
  n_same = ap (λ m. m / size S) blank_long

  long : GoodLength S t
  long = record { whole = ap (λ m. m % size S) blank_long ∙ good.whole; least = rw n_same good.least; most = rw n_same good.most }

  page_zero : (p : ℕ) → 1 ≤ p → p < pages S t → Zero (page S t p)
  unfolding page
  page_zero p a b k =
      let m : 1 * size S ≤ p * size S = mul-le-mul_right (size S) a in
      ⊎_elim (λ l. byte_part t (p * size S) (size S) k l ∙ blank_zero (p * size S + k) (omega (arith, m, sized.least)))
      (λ g. get_or-eq_default (page S t p) 0 (omega (arith, page_long S t p b))) (side k (size S))

  reads_free : (i : ℕ) → i < pages S t - 2 → read (page S t (i + 2)) ≡ free
  reads_free i l = read_zero (page S t (i + 2)) (page_zero (i + 2) (omega arith) (omega arith))

  pub no_rows : rows_held S t ≡ []
  unfolding contents
  no_rows = rows_free (λ i. read (page S t (i + 2))) (pages S t - 2) reads_free

  no_depth : deepest_in (contents S t) ≡ 0
  unfolding contents
  no_depth = deep_free (λ i. read (page S t (i + 2))) (pages S t - 2) reads_free

  no_buckets : (k : ℕ) → buckets_at k (contents S t) ≡ 0
  unfolding contents
  no_buckets k = free_none k (λ i. read (page S t (i + 2))) (pages S t - 2) reads_free

  entry_zero : (i : ℕ) → entry_at S t i ≡ 0
  entry_zero i = word_zero (size S + 4 * i) (omega (arith, sized.least))

  pub blank_accepted : (h : List ℕ → ℕ) → Accepted S h t
  blank_accepted h = closed S h t record {
    long = long;
    page0 = record { number = word_0 ∙ sym n_same; directory = word_4; entries = word_8; first = word_12; depth = omega (arith, word_16); size_number = word_20; rest = λ k a b. blank_zero k (omega arith) };
    page1 = record { range = λ i _. inl (entry_zero i); beyond = λ i _ _. entry_zero i };
    stands = λ p a b. unused (page_zero p (omega arith) b) (λ i _ e. omega (arith, entry_zero i));
    parted = λ p a b j e. omega (arith, page_zero p (omega arith) b 1);
    deepest = word_16 ∙ sym no_depth;
    counts = record { rows = word_zero 24 (omega arith) ∙ ap length (sym no_rows); buckets = λ k l. word_zero (28 + 4 * k) (omega arith) ∙ sym (no_buckets k) };
  }

-- a length that is not refused is good
pub good_stable : (S : Shape) (s : List ℕ) → (Refusal1 S s → ⊥) → GoodLength S s
good_stable S s n = go (side (length s % size S) 1) (side (pages S s) 3) (side (pages S s) (S.entries + 3))
  where
    go : (length s % size S < 1) ⊎ (1 ≤ length s % size S) → (pages S s < 3) ⊎ (3 ≤ pages S s) → (pages S s < S.entries + 3) ⊎ (S.entries + 3 ≤ pages S s) → GoodLength S s
    go (inl a) (inr b) (inl c) = record { whole = omega arith; least = b; most = omega arith }
    go (inl a) (inr b) (inr c) = absurd (n (λ g. omega (arith, g.most)))
    go (inl a) (inl b) c = absurd (n (λ g. omega (arith, g.least)))
    go (inr a) b c = absurd (n (λ g. omega (arith, g.whole)))

pub format_accepted : (S : Shape) (h : List ℕ → ℕ) → Sized S → FormatAccepted S h
unfolding format_table
format_accepted S h sized s u m = each (λ r. ok r.0 ≡ true → Accepted S h r.1 × (rows_held S r.1 ≡ []) × (length r.1 ≡ length s)) (format_table S s)
    ((λ _ _ r e f. absurd (true≢false (sym f ∙ ap (λ q. ok q.0) e))), (λ n r e f. done r e (good_stable S s (n tt)))) (formatted, u) m refl
  where
    done : (r : Out × List ℕ) → r ≡ (formatted, blank S s) → GoodLength S s → Accepted S h r.1 × (rows_held S r.1 ≡ []) × (length r.1 ≡ length s)
    done r e g = let q : r.1 ≡ blank S s = ap (λ x. x.1) e in (rw q (blank_accepted S s sized g h), rw q (no_rows S s sized g), ap length q ∙ blank_long S s sized g)

module _ (S : Shape) (h : List ℕ → ℕ) (sized : Sized S) where
  format_again : (s t : List ℕ) → Accepted S h s → (o : Out) → Made S h format s o t → Accepted S h t × (length t ≡ length s)
  unfolding format_table
  format_again s t a o m = each (λ r. Accepted S h r.1 × (length r.1 ≡ length s)) (format_table S s) (
    (λ _ _ r e. let q : r.1 ≡ s = ap (λ x. x.1) e in (rw q a, ap length q)),
    (λ _ r e. let q : r.1 ≡ blank S s = ap (λ x. x.1) e in (rw q (blank_accepted S s sized a.long h), ap length q ∙ blank_long S s sized a.long)),
  ) (o, t) m

  pub accepted_always : AcceptedAgain S h
  accepted_always = accepted_again S h format_again
