-- Pages that show rows, and whose records can lie in a page, are what some accepted store of their number holds: page 0, the directory, the pages. Assumes nothing.
use mathlib.Core.Path.{◌≡◌, refl, sym, ap, subst, subst₂, ◌∙◌}
use mathlib.Core.List.{List, [], ◌∷◌, ◌++◌, map, flat_map}
use mathlib.Core.Logic.{⊎_elim}
use Prim.Native.Nat.{ℕ, zero, suc, ◌+◌, ◌-◌, ◌*◌, ◌/◌, ◌%◌, ◌^◌, ◌≤◌, ◌<◌}
use native.Mathlib.Nat.{div-add-mod', div-eq_of_lt, mod-eq_of_lt, mul-add-div_right, mul-add-mod_self_right, mul-le-mul_right, suc-mul, div-lt_iff_lt-mul}
use native.Mathlib.Omega.{arith}
use lib.ListN.{length, get_or, replicate, length-append, length-map, length-replicate, get_or-append, get_or-eq_default}
use lib.Seq.{get_or-append-add}
use Rattle.ground.specs.Lists.{byte, part, tab}
use Rattle.ground.proofs.Parts.{part_is}
use Rattle.ground.proofs.Sides.{side}
use Rattle.ground.proofs.Tables.{length_tab, get_d_tab, tab_same}
use Rattle.words.specs.Le.{le16, le32, bytes}
use Rattle.words.proofs.Bytes.{le32_moved, Small, small_append, small_bytes, small_zeros}
use Rattle.partition.specs.declared.Shape.{Shape}
use Rattle.partition.specs.Sizes.{number_of_size}
use Rattle.partition.proofs.Sizes.{number_small}
use Rattle.partition.specs.Partition.{Row}
use Rattle.page.specs.Page.{Record}
use Rattle.store.specs.Pages.{size, pages, page, dir_depth, entry_at, Page, free, bucket, read, contents, as_row, rows_in, deepest_in}
use Rattle.store.specs.Accepted.{GoodLength, Calls}
use Rattle.store.specs.Tables.{Becomes}
use Rattle.store.specs.Demands.{Sized, Hash}
use Rattle.store.specs.Counts.{counted, Counts}
use Rattle.store.proofs.Counts.Words.{word_counts, buckets_few}
use Rattle.store.proofs.Accepted.Accepting.{Whole, Laid, laid_becomes}
use Rattle.store.proofs.Accepted.Spelled.{AllFolded}
use Rattle.store.proofs.Result.Decided.{calls}
use Rattle.store.proofs.Result.Decisions.{some}
use Rattle.store.proofs.Result.Encoded.{le32_of}
use Rattle.store.proofs.Result.Fitted.{Each, Fits}
use Rattle.store.proofs.Accepted.Named.{Entry, nothing, names, deep_small, shown_shallow}
use Rattle.store.proofs.Result.PageBytes.{tab_list, Holds, page_bytes}
use Rattle.store.proofs.Paging.PageTies.{zeros}
use Rattle.store.proofs.Showing.Rooms.{bucket_one}
use Rattle.store.proofs.Showing.Shown.{free_not}
use Rattle.store.proofs.Showing.Shows.{prefix_on, Holding, Shows}

-- ---- numbers of four bytes, end to end

-- f 0, f 1, .. f (n - 1)
words : (ℕ → ℕ) → ℕ → List ℕ
words f n = tab (λ k. byte (bytes 4 (f (k / 4))) (k % 4)) (4 * n)

module _ (f : ℕ → ℕ) (n : ℕ) where
  words_long : length (words f n) ≡ 4 * n
  unfolding words
  words_long = length_tab (λ k. byte (bytes 4 (f (k / 4))) (k % 4)) (4 * n)

  words_small : Small (words f n)
  unfolding words
  words_small = record {
    at = λ k. ⊎_elim
        (λ l. subst (λ v. v < 256) (sym (get_d_tab (λ k. byte (bytes 4 (f (k / 4))) (k % 4)) (4 * n) k 0 l)) ((small_bytes 4 (f (k / 4))).at (k % 4)))
        (λ l. subst (λ v. v < 256) (sym (get_or-eq_default (words f n) 0 (omega (arith, words_long)))) (omega arith))
        (side k (4 * n));
  }

  words_at : (i : ℕ) → i < n → f i < 2 ^ 32 → le32 (words f n) (4 * i) ≡ f i
  unfolding words
  words_at i l b =
      le32_moved (bytes 4 (f i)) (words f n) (4 * i) 0 (λ j m.
      let q : (4 * i + j) / 4 ≡ i = omega arith in
      let r : (4 * i + j) % 4 ≡ 0 + j = omega arith in
      get_d_tab (λ k. byte (bytes 4 (f (k / 4))) (k % 4)) (4 * n) (4 * i + j) 0 (omega arith) ∙ (λ k. byte (bytes 4 (f (q k))) (r k)))
      ∙ le32_of (f i) b

-- ---- pages of z bytes, end to end

module _ (z n : ℕ) (f : ℕ → List ℕ) (some : 0 < z) (long : (p : ℕ) → p < n → length (f p) ≡ z) where
  stacked : List ℕ
  stacked = tab (λ k. byte (f (k / z)) (k % z)) (n * z)

  stacked_long : length stacked ≡ n * z
  unfolding stacked
  stacked_long = length_tab (λ k. byte (f (k / z)) (k % z)) (n * z)

  inside : (p j : ℕ) → p < n → j < z → p * z + j < n * z
  inside p j l m = let a : suc p * z ≤ n * z = mul-le-mul_right z l in omega (arith, a, suc-mul p z)

  stacked_byte : (p j : ℕ) → p < n → j < z → byte stacked (p * z + j) ≡ byte (f p) j
  unfolding stacked
  stacked_byte p j l m =
      let q : (p * z + j) / z ≡ p = mul-add-div_right some p j ∙ ap (λ x. p + x) (div-eq_of_lt m) ∙ omega arith in
      let r : (p * z + j) % z ≡ j = mul-add-mod_self_right p z j ∙ mod-eq_of_lt m in
      get_d_tab (λ k. byte (f (k / z)) (k % z)) (n * z) (p * z + j) 0 (inside p j l m) ∙ (λ k. byte (f (q k)) (r k))

  stacked_part : (p : ℕ) → p < n → part stacked (p * z) z ≡ f p
  stacked_part p l =
      let a : suc p * z ≤ n * z = mul-le-mul_right z l in
      subst (λ m. part stacked (p * z) m ≡ f p) (long p l) (part_is stacked (p * z) (f p) (omega (arith, a, suc-mul p z, long p l, stacked_long)) (λ j m. stacked_byte p j l (omega (arith, long p l))))

  stacked_small : ((p : ℕ) → p < n → Small (f p)) → Small stacked
  unfolding stacked
  stacked_small s = record {
    at = λ k. ⊎_elim
        (λ l. subst (λ v. v < 256) (sym (get_d_tab (λ k. byte (f (k / z)) (k % z)) (n * z) k 0 l)) ((s (k / z) ((div-lt_iff_lt-mul some).1 l)).at (k % z)))
        (λ l. subst (λ v. v < 256) (sym (get_or-eq_default stacked 0 (omega (arith, stacked_long)))) (omega arith))
        (side k (n * z));
  }

-- pages whose records can lie in a page have fewer rows than bytes
rows_fit : (z : ℕ) (gs : List Page) → Each z gs → length (rows_in gs) ≤ z * length gs
unfolding rows_in flat_map
rows_fit z [] f = omega arith
rows_fit z (free ∷ gs) f = omega (arith, rows_fit z gs f.1)
rows_fit z (bucket k rs ∷ gs) f = omega (arith, length-append (map as_row rs) (rows_in gs), length-map rs as_row, f.0.room, rows_fit z gs f.1)

-- ---- the store

module _ (S : Shape) (h : List ℕ → ℕ) (sized : Sized S) (hash : Hash h) (s : List ℕ) (good : GoodLength S s) (shown : List Row) (gs : List Page) (w : Shows S h shown gs)
    (fits : Fits (size S) (pages S s - 2) gs) (spelled : AllFolded shown) where
  abbrev n : ℕ
  n = pages S s

  abbrev z : ℕ
  z = size S

  abbrev d : ℕ
  d = deepest_in gs

  -- the page that calls for an entry, or that there is none
  abbrev Called : ℕ → ℕ → Type 0
  Called e i = (k : ℕ) × (rs : List Record) × Holding gs i k rs × Calls d k (prefix_on h k rs) e

  called : (e i : ℕ) → Dec (Called e i)
  called e i = go (get_or gs i free) refl
    where
      go : (g : Page) → get_or gs i free ≡ g → Dec (Called e i)
      go free q = no (λ c. free_not (sym q ∙ c.2))
      go (bucket k rs) q = at (calls d k (prefix_on h k rs) e)
        where
          at : Dec (Calls d k (prefix_on h k rs) e) → Dec (Called e i)
          at (yes c) = yes (k, rs, q, c)
          at (no f) = no (λ c. let x = bucket_one (sym c.2 ∙ q) in f (subst₂ (λ l ts. Calls d l (prefix_on h l ts) e) x.0 x.1 c.3))

  abbrev Caller : ℕ → Type 0
  Caller e = (i : ℕ) × (i < n - 2) × Called e i

  caller : (e : ℕ) → Dec (Caller e)
  caller e = some (n - 2) (Called e) (λ i l. called e i)

  abbrev entry_of : (e : ℕ) → Dec (Caller e) → ℕ
  entry_of e (yes c) = c.0 + 2
  entry_of e (no _) = 0

  entries : ℕ → ℕ
  entries e = entry_of e (caller e)

  bounds : n ≤ S.entries + 2
  bounds = good.most

  entry_small : (e : ℕ) → entries e < 2 ^ 32
  unfolding entries
  entry_small e = go (caller e)
    where
      go : (c : Dec (Caller e)) → entry_of e c < 2 ^ 32
      go (yes c) = omega (arith, c.1, bounds, sized.whole, sized.most)
      go (no _) = omega arith

  -- page 0
  page0 : List ℕ
  page0 = bytes 4 n ++ (bytes 4 z ++ (bytes 4 S.entries ++ (bytes 4 (2 * z) ++ (bytes 4 d ++ (bytes 4 (number_of_size S) ++ (words (counted gs) 14 ++ replicate (z - 80) 0))))))

  shallow : d ≤ 32
  shallow = omega (arith, shown_shallow S h hash shown gs w, deep_small S sized)

  page0_long : length page0 ≡ z
  unfolding page0 bytes
  page0_long = omega (arith, length-append (words (counted gs) 14) (replicate (z - 80) 0), words_long (counted gs) 14, length-replicate {A = ℕ} (z - 80) 0, sized.least)

  page0_small : Small page0
  unfolding page0
  page0_small = small_append (small_bytes 4 n) (small_append (small_bytes 4 z) (small_append (small_bytes 4 S.entries) (small_append (small_bytes 4 (2 * z)) (small_append (small_bytes 4 d) (small_append (small_bytes 4 (number_of_size S)) (small_append (words_small (counted gs) 14) (small_zeros (z - 80))))))))

  word_0 : le32 page0 0 ≡ n
  unfolding page0 bytes le32 le16
  word_0 = omega (arith, bounds, sized.whole, sized.most)

  word_4 : le32 page0 4 ≡ z
  unfolding page0 bytes le32 le16
  word_4 = omega (arith, sized.most)

  word_8 : le32 page0 8 ≡ S.entries
  unfolding page0 bytes le32 le16
  word_8 = omega (arith, sized.whole, sized.most)

  word_12 : le32 page0 12 ≡ 2 * z
  unfolding page0 bytes le32 le16
  word_12 = omega (arith, sized.most)

  word_16 : le32 page0 16 ≡ d
  unfolding page0 bytes le32 le16
  word_16 = omega (arith, shallow)

  word_20 : le32 page0 20 ≡ number_of_size S
  unfolding page0 bytes le32 le16
  word_20 = omega (arith, number_small S sized)

  -- page 0 up to its counts, and what comes behind them
  front : List ℕ
  front = bytes 4 n ++ (bytes 4 z ++ (bytes 4 S.entries ++ (bytes 4 (2 * z) ++ (bytes 4 d ++ bytes 4 (number_of_size S)))))

  page0_behind : (j : ℕ) → byte page0 (24 + j) ≡ byte (words (counted gs) 14 ++ replicate (z - 80) 0) j
  unfolding page0 front bytes
  page0_behind j = get_or-append-add front (words (counted gs) 14 ++ replicate (z - 80) 0) j 0

  page0_rest : (k : ℕ) → 80 ≤ k → byte page0 k ≡ 0
  page0_rest k l =
      let e : 24 + (k - 24) ≡ k = omega arith in
      let f : length (words (counted gs) 14) + (k - 80) ≡ k - 24 = omega (arith, words_long (counted gs) 14) in
      sym (ap (byte page0) e) ∙ page0_behind (k - 24) ∙ sym (ap (byte (words (counted gs) 14 ++ replicate (z - 80) 0)) f)
      ∙ get_or-append-add (words (counted gs) 14) (replicate (z - 80) 0) (k - 80) 0 ∙ zeros (z - 80) (k - 80)

  count_small : (j : ℕ) → counted gs j < 2 ^ 32
  count_small zero =
      let m : z * length gs ≤ 16384 * length gs = mul-le-mul_right (length gs) sized.most in
      omega (arith, m, rows_fit z gs fits.each, fits.many, bounds, sized.whole, sized.most)
  count_small (suc k) = omega (arith, buckets_few k gs, fits.many, bounds, sized.whole, sized.most)

  page0_count : (j : ℕ) → j < 14 → le32 page0 (24 + 4 * j) ≡ counted gs j
  page0_count j l =
      le32_moved (words (counted gs) 14) page0 (24 + 4 * j) (4 * j) (λ i m.
      let e : 24 + (4 * j + i) ≡ 24 + 4 * j + i = omega arith in
      sym (ap (byte page0) e) ∙ page0_behind (4 * j + i) ∙ get_or-append (words (counted gs) 14) (replicate (z - 80) 0) 0 (4 * j + i) (omega (arith, words_long (counted gs) 14)))
      ∙ words_at (counted gs) 14 j l (count_small j)

  -- all pages
  numbered : ℕ → List ℕ
  numbered zero = page0
  numbered (suc zero) = words entries S.entries
  numbered (suc (suc i)) = (page_bytes S h sized shown gs w fits.each i).0

  own : (i : ℕ) → Holds z (get_or gs i free) (numbered (suc (suc i)))
  unfolding numbered
  own i = (page_bytes S h sized shown gs w fits.each i).1

  numbered_long : (p : ℕ) → p < n → length (numbered p) ≡ z
  unfolding numbered
  numbered_long zero l = page0_long
  numbered_long (suc zero) l = words_long entries S.entries ∙ sized.whole
  numbered_long (suc (suc i)) l = (own i).long

  numbered_small : (p : ℕ) → p < n → Small (numbered p)
  unfolding numbered
  numbered_small zero l = page0_small
  numbered_small (suc zero) l = words_small entries S.entries
  numbered_small (suc (suc i)) l = (own i).small

  positive : 0 < z
  positive = omega (arith, sized.least)

  abbrev t : List ℕ
  t = stacked z n numbered positive numbered_long

  t_long : length t ≡ length s
  t_long = stacked_long z n numbered positive numbered_long ∙ omega (arith, div-add-mod' (length s) z, good.whole)

  n_same : pages S t ≡ n
  n_same = ap (λ m. m / z) t_long

  page_is : (p : ℕ) → p < n → page S t p ≡ numbered p
  unfolding page
  page_is p l = stacked_part z n numbered positive numbered_long p l

  first : (k : ℕ) → k < z → byte t k ≡ byte page0 k
  unfolding numbered
  first k l = let e : 0 * z + k ≡ k = omega arith in rw e at (stacked_byte z n numbered positive numbered_long 0 k (omega (arith, good.least)) l)

  word : (k : ℕ) → k + 4 ≤ z → le32 t k ≡ le32 page0 k
  word k l = le32_moved page0 t k k (λ j m. first (k + j) (omega arith))

  entry_is : (e : ℕ) → e < S.entries → entry_at S t e ≡ entries e
  unfolding numbered
  entry_is e l =
      le32_moved (words entries S.entries) t (z + 4 * e) (4 * e) (λ j m.
      let q : 1 * z + (4 * e + j) ≡ z + 4 * e + j = omega arith in
      rw q at (stacked_byte z n numbered positive numbered_long 1 (4 * e + j) (omega (arith, good.least)) (omega (arith, sized.whole))))
      ∙ words_at entries S.entries e l (entry_small e)

  deep : dir_depth t ≡ d
  deep = word 16 (omega (arith, sized.least)) ∙ word_16

  named : (e : ℕ) → e < S.entries → Entry S h t gs d (n - 2) e
  unfolding entries
  named e l = go (caller e) (entry_is e l)
    where
      go : (c : Dec (Caller e)) → entry_at S t e ≡ entry_of e c → Entry S h t gs d (n - 2) e
      go (yes c) q = names c.0 c.2.0 c.2.1 c.1 q c.2.2 c.2.3
      go (no f) q = nothing q (λ i k rs b x y. f (i, b, (k, rs, x, y)))

  whole : (p : ℕ) → 2 ≤ p → p < n → Whole (page S t p)
  whole zero a b = absurd (omega arith)
  whole (suc zero) a b = absurd (omega arith)
  whole (suc (suc i)) a b = subst Whole (sym (page_is (suc (suc i)) b)) (own i).whole

  held : contents S t ≡ gs
  unfolding contents
  held =
      ap (λ m. tab (λ i. read (page S t (i + 2))) (m - 2)) n_same
      ∙ tab_same (λ i. read (page S t (i + 2))) (λ i. get_or gs i free) (n - 2) (λ i l.
      let q : i + 2 ≡ suc (suc i) = omega arith in
      ap (λ p. read (page S t p)) q ∙ ap read (page_is (suc (suc i)) (omega arith)) ∙ (own i).reads)
      ∙ ap (tab (λ i. get_or gs i free)) (sym fits.many) ∙ tab_list free gs

  laid : Laid S h t gs
  laid = record {
    long = record { whole = ap (λ m. m % z) t_long ∙ good.whole; least = subst (λ m. 3 ≤ m) (sym n_same) good.least; most = subst (λ m. m ≤ S.entries + 2) (sym n_same) good.most };
    head = record {
      number = word 0 (omega (arith, sized.least)) ∙ word_0 ∙ sym n_same;
      directory = word 4 (omega (arith, sized.least)) ∙ word_4;
      entries = word 8 (omega (arith, sized.least)) ∙ word_8;
      first = word 12 (omega (arith, sized.least)) ∙ word_12;
      size_number = word 20 (omega (arith, sized.least)) ∙ word_20;
      rest = λ k a b. first k b ∙ page0_rest k a;
    };
    deep = deep;
    each = λ p a b. whole p a (subst (λ m. p < m) n_same b);
    holds = held;
    entry = λ e l. subst₂ (λ x y. Entry S h t gs x (y - 2) e) (sym deep) (sym n_same) (named e l);
  }

  true_counts : Counts S t
  true_counts = word_counts S t (λ j l. word (24 + 4 * j) (omega (arith, sized.least)) ∙ page0_count j l ∙ ap (λ x. counted x j) (sym held))

  -- A STORE THAT HOLDS THEM
  pub store_of : (t : List ℕ) × Becomes S h s gs t
  store_of = (t, laid_becomes S h sized hash t shown gs laid w spelled s t_long (stacked_small z n numbered positive numbered_long numbered_small).at true_counts)
