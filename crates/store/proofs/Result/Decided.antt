-- Each rule of a store is decided, so any bytes of a good length are an accepted store or the check stops at a page. Assumes nothing.
use mathlib.Core.Path.{◌≡◌, refl, sym, subst}
use mathlib.Core.List.{List, [], ◌∷◌, ◌++◌}
use mathlib.Core.Logic.{◌⊎◌, inl, inr, ◌↔◌, ⊎_elim}
use Prim.Native.Nat.{ℕ, zero, suc, ◌+◌, ◌-◌, ◌*◌, ◌/◌, ◌%◌, ◌^◌, ◌≤◌, ◌<◌}
use native.Mathlib.Decide.{map_dec, ℕ_discrete, dec_le, dec_lt}
use native.Mathlib.Omega.{arith}
use lib.ListN.{length, get_or-eq_default}
use Rattle.ground.specs.Lists.{byte, tab, total}
use Rattle.ground.proofs.Sides.{side}
use Rattle.words.specs.Le.{le32}
use Rattle.words.specs.Codes.{order, Before}
use Rattle.words.specs.Folds.{Folded}
use Rattle.words.proofs.Folds.{folded_or_not}
use Rattle.partition.specs.Bits.{top}
use Rattle.partition.specs.declared.Shape.{Shape}
use Rattle.partition.specs.Sizes.{number_of_size}
use Rattle.partition.specs.Partition.{needs, rows_of}
use Rattle.page.specs.Page.{Slotted, Natural, In, depth, count, frontier, free, off, len, kind, slot_need, place, code}
use Rattle.store.specs.Pages.{size, pages, page, dir_depth, entry_at, contents, rows_held, deepest_in}
use Rattle.store.specs.Accepted.{Page0From, GoodLength, Zero, Page1, Bucket, Calls, Stands, unused, used, Parted, Rule, rule, rules, upward, Every, Stops, Accepted, Broken}
use Rattle.store.specs.Tables.{PageKeeps}
use Rattle.store.specs.Counts.{buckets_at, Counts}
use Rattle.store.proofs.Result.Decisions.{both, either, implies, not, exactly, all, some, is_less}

-- ---- a page

-- of all bytes, as those past the end are 0
pub every_byte : (g : List ℕ) (P : ℕ → Type 0) → P 0 → ((v : ℕ) → Dec (P v)) → Dec ((k : ℕ) → P (byte g k))
every_byte g P z d = map_dec
    (λ f k. ⊎_elim (f k) (λ l. subst P (sym (get_or-eq_default g 0 l)) z) (side k (length g)))
    (λ f k l. f k)
    (all (length g) (λ k. P (byte g k)) (λ k l. d (byte g k)))

pub zero_or_not : (g : List ℕ) → Dec (Zero g)
zero_or_not g = every_byte g (λ v. v ≡ 0) refl (λ v. ℕ_discrete v 0)

before : (s t : List ℕ) → Dec (Before s t)
before s t = map_dec (λ e. record { less = e }) (λ b. b.less) (is_less (order s t))

natural : (s : List ℕ) → Dec (Natural s)
natural s = map_dec
    (λ t. search)
    (λ n. search)
    (both (ℕ_discrete (length s) 8) (both (dec_lt (byte s 3) 128) (both (dec_lt (byte s 5) 128) (dec_lt (byte s 7) 128))))

module _ (p : List ℕ) where
  abbrev n : ℕ
  n = count p

  abbrev Each : (ℕ → Type 0) → Type 0
  Each P = (i : ℕ) → i < n → P i

  each : (P : ℕ → Type 0) → ((i : ℕ) → Dec (P i)) → Dec (Each P)
  each P d = all n P (λ i l. d i)

  in_or_not : (i k : ℕ) → Dec (In p i k)
  in_or_not i k = map_dec (λ t. search) (λ x. search) (both (dec_le (off p i) k) (dec_lt k (off p i + len p i)))

  apart : Dec ((i j k : ℕ) → i < n → j < n → In p i k → In p j k → i ≡ j)
  apart = map_dec
      (λ f i j k a b x y. f i a j b k x.to x y)
      (λ f i a j b k l x y. f i j k a b x y)
      (each (λ i. Each (λ j. (k : ℕ) → k < off p i + len p i → In p i k → In p j k → i ≡ j))
      (λ i. each (λ j. (k : ℕ) → k < off p i + len p i → In p i k → In p j k → i ≡ j)
      (λ j. all (off p i + len p i) (λ k. In p i k → In p j k → i ≡ j) (λ k l. implies (in_or_not i k) (implies (in_or_not j k) (ℕ_discrete i j))))))

  ascending : Dec ((i j : ℕ) → i < j → j < n → Before (code p i) (code p j))
  ascending = map_dec
      (λ f i j l m. f j m i l)
      (λ f j m i l. f i j l m)
      (each (λ j. (i : ℕ) → i < j → Before (code p i) (code p j)) (λ j. all j (λ i. Before (code p i) (code p j)) (λ i l. before (code p i) (code p j))))

  clear : Dec ((k : ℕ) → 8 ≤ k → k + 4 * n < length p → ((i : ℕ) → i < n → In p i k → ⊥) → byte p k ≡ 0)
  clear = map_dec
      (λ f k a b u. f k (omega arith) a b u)
      (λ f k l a b u. f k a b u)
      (all (length p) (λ k. 8 ≤ k → k + 4 * n < length p → ((i : ℕ) → i < n → In p i k → ⊥) → byte p k ≡ 0)
      (λ k l. implies (dec_le 8 k) (implies (dec_lt (k + 4 * n) (length p)) (implies (each (λ i. In p i k → ⊥) (λ i. not (in_or_not i k))) (ℕ_discrete (byte p k) 0)))))

  pub slotted : Dec (Slotted p)
  slotted = map_dec
      (λ t. search)
      (λ s. search)
      (both (dec_le 16 (length p))
      (both (dec_le (length p) 16384)
      (both (every_byte p (λ v. v < 256) (omega arith) (λ v. dec_lt v 256))
      (both (ℕ_discrete (byte p 0) 1)
      (both (dec_le (frontier p + 4 * n) (length p))
      (both (each (λ i. kind p i ≡ 1) (λ i. ℕ_discrete (kind p i) 1))
      (both (each (λ i. 9 ≤ len p i) (λ i. dec_le 9 (len p i)))
      (both (each (λ i. len p i ≤ 72) (λ i. dec_le (len p i) 72))
      (both (each (λ i. 8 ≤ off p i) (λ i. dec_le 8 (off p i)))
      (both (each (λ i. off p i + len p i ≤ frontier p) (λ i. dec_le (off p i + len p i) (frontier p)))
      (both (dec_le 8 (frontier p))
      (both (implies (ℕ_discrete n 0) (ℕ_discrete (frontier p) 8))
      (both (implies (dec_le 1 n) (some n (λ i. off p i + len p i ≡ frontier p) (λ i l. ℕ_discrete (off p i + len p i) (frontier p))))
      (both (each (λ i. Natural (place p i)) (λ i. natural (place p i)))
      (both apart
      (both ascending
      (both (ℕ_discrete (free p + total (slot_need p) n) (length p - 8))
      clear)))))))))))))))))

  module _ (h : List ℕ → ℕ) where
    pub bucket_or_not : Dec (Bucket h p)
    bucket_or_not = map_dec
        (λ t. record { rules = record { rules = t.0; some = t.1.0 }; folded = t.1.1.0; share = λ i j a b. t.1.1.1 i a j b })
        (λ b. (b.rules.rules, (b.rules.some, (b.folded, λ i a j c. b.share i j a c))))
        (both slotted (both (dec_le 1 n) (both (each (λ i. Folded (code p i)) (λ i. folded_or_not (code p i))) (each (λ i. Each (λ j. top (depth p) (h (code p i)) ≡ top (depth p) (h (code p j))))
        (λ i. each (λ j. top (depth p) (h (code p i)) ≡ top (depth p) (h (code p j))) (λ j. ℕ_discrete (top (depth p) (h (code p i))) (top (depth p) (h (code p j)))))))))

    pub keeps_or_not : (S : Shape) → Dec (PageKeeps S h p)
    keeps_or_not S = either (zero_or_not p) (both bucket_or_not (dec_le (depth p) S.deepest))

-- ---- a store

pub calls : (d k v i : ℕ) → Dec (Calls d k v i)
calls d k v i = map_dec (λ t. search) (λ c. search) (both (dec_lt i (2 ^ d)) (ℕ_discrete (i / 2 ^ (d - k)) v))

module _ (S : Shape) (s : List ℕ) where
  pub good_or_not : Dec (GoodLength S s)
  good_or_not = map_dec
      (λ t. search)
      (λ g. search)
      (both (ℕ_discrete (length s % size S) 0) (both (dec_le 3 (pages S s)) (dec_le (pages S s) (S.entries + 2))))

  page0 : (zeros : ℕ) → Dec (Page0From zeros S s)
  page0 zeros = map_dec
      (λ t. record { number = t.0; directory = t.1.0; entries = t.1.1.0; first = t.1.1.1.0; depth = t.1.1.1.1.0; size_number = t.1.1.1.1.1.0; rest = λ k a b. t.1.1.1.1.1.1 k b a })
      (λ g. (g.number, (g.directory, (g.entries, (g.first, (g.depth, (g.size_number, λ k b a. g.rest k a b)))))))
      (both (ℕ_discrete (le32 s 0) (pages S s))
      (both (ℕ_discrete (le32 s 4) (size S))
      (both (ℕ_discrete (le32 s 8) S.entries)
      (both (ℕ_discrete (le32 s 12) (2 * size S))
      (both (dec_le (dir_depth s) S.deepest)
      (both (ℕ_discrete (le32 s 20) (number_of_size S))
      (all (size S) (λ k. zeros ≤ k → byte s k ≡ 0) (λ k l. implies (dec_le zeros k) (ℕ_discrete (byte s k) 0)))))))))

  counts : Dec (Counts S s)
  counts = map_dec
      (λ t. record { rows = t.0; buckets = λ k l. t.1 k (omega arith) })
      (λ c. (c.rows, λ k l. c.buckets k (omega arith)))
      (both (ℕ_discrete (le32 s 24) (length (rows_held S s))) (all 13 (λ k. le32 s (28 + 4 * k) ≡ buckets_at k (contents S s)) (λ k l. ℕ_discrete (le32 s (28 + 4 * k)) (buckets_at k (contents S s)))))

  page1 : Dec (Page1 S s)
  page1 = map_dec
      (λ t. search)
      (λ g. search)
      (both (all S.entries (λ i. (entry_at S s i ≡ 0) ⊎ ((2 ≤ entry_at S s i) × (entry_at S s i < pages S s)))
      (λ i l. either (ℕ_discrete (entry_at S s i) 0) (both (dec_le 2 (entry_at S s i)) (dec_lt (entry_at S s i) (pages S s)))))
      (all S.entries (λ i. 2 ^ dir_depth s ≤ i → entry_at S s i ≡ 0) (λ i l. implies (dec_le (2 ^ dir_depth s) i) (ℕ_discrete (entry_at S s i) 0))))

  module _ (h : List ℕ → ℕ) where
    stands : (p : ℕ) → Dec (Stands S h s p)
    stands p = map_dec to from
        (either
        (both (zero_or_not g) (all S.entries (λ i. entry_at S s i ≡ p → ⊥) (λ i l. not (ℕ_discrete (entry_at S s i) p))))
        (both (bucket_or_not g h) (both (dec_le (depth g) (dir_depth s))
        (all S.entries Named (λ i l. exactly (ℕ_discrete (entry_at S s i) p) (calls (dir_depth s) (depth g) (top (depth g) (h (code g 0))) i))))))
      where
        g : List ℕ
        g = page S s p

        Named : ℕ → Type 0
        Named i = (entry_at S s i ≡ p) ↔ Calls (dir_depth s) (depth g) (top (depth g) (h (code g 0))) i

        Either : Type 0
        Either = (Zero g × ((i : ℕ) → i < S.entries → entry_at S s i ≡ p → ⊥)) ⊎ (Bucket h g × ((depth g ≤ dir_depth s) × ((i : ℕ) → i < S.entries → Named i)))

        to : Either → Stands S h s p
        to (inl x) = unused x.0 x.1
        to (inr x) = used x.0 x.1.0 x.1.1

        from : Stands S h s p → Either
        from (unused z f) = inl (z, f)
        from (used b l f) = inr (b, (l, f))

    parted : (p : ℕ) → Dec (Parted S h s p)
    parted p = go (depth (page S s p)) refl
      where
        Splits : ℕ → Type 0
        Splits j = S.capacity < needs (rows_of h (rows_held S s) j (top j (h (code (page S s p) 0))))

        go : (d : ℕ) → depth (page S s p) ≡ d → Dec (Parted S h s p)
        go zero e = yes (λ j f. absurd (omega arith))
        go (suc k) e = map_dec
            (λ x j f. let q : k ≡ j = omega arith in subst Splits q x)
            (λ f. f k e)
            (dec_lt S.capacity (needs (rows_of h (rows_held S s) k (top k (h (code (page S s p) 0))))))

-- ---- the check

abbrev Decides : List Rule → Type 0
Decides [] = Unit {0}
Decides (r ∷ rs) = Dec r.holds × Decides rs

decides_append : (l m : List Rule) → Decides l → Decides m → Decides (l ++ m)
decides_append [] m a b = b
decides_append (r ∷ l) m a b = (a.0, decides_append l m a.1 b)

decides_tab : (f : ℕ → Rule) (n : ℕ) → ((i : ℕ) → Dec (f i).holds) → Decides (tab f n)
unfolding tab
decides_tab f zero d = tt
decides_tab f (suc n) d = (d zero, decides_tab (λ i. f (suc i)) n (λ i. d (suc i)))

stops_or_not : (l : List Rule) → Decides l → Every l ⊎ ((p : ℕ) × Stops l p)
stops_or_not [] d = inl tt
stops_or_not (r ∷ l) d = go d.0 (stops_or_not l d.1)
  where
    go : Dec r.holds → Every l ⊎ ((p : ℕ) × Stops l p) → Every (r ∷ l) ⊎ ((p : ℕ) × Stops (r ∷ l) p)
    go (no a) x = inr (r.at, inl (a, refl))
    go (yes a) (inl x) = inl (a, x)
    go (yes a) (inr x) = inr (x.0, inr (a, x.1))

-- ACCEPTED, OR THE CHECK STOPS AT A PAGE
pub accepted_or_broken : (S : Shape) (h : List ℕ → ℕ) (s : List ℕ) → GoodLength S s → Accepted S h s ⊎ ((p : ℕ) × Broken S h s p)
unfolding rules Broken
accepted_or_broken S h s g = ⊎_elim (λ e. inl (record { long = g; keeps = e })) inr (stops_or_not (rules S h s) decided)
  where
    again : List Rule
    again = upward (pages S s) (Parted S h s) ++ (rule 0 (dir_depth s ≡ deepest_in (contents S s)) ∷ (rule 0 (Counts S s) ∷ []))

    decided : Decides (rules S h s)
    decided = (
      page0 S s 80,
      (
        page1 S s,
        decides_append (upward (pages S s) (Stands S h s)) again (decides_tab (λ i. rule (i + 2) (Stands S h s (i + 2))) (pages S s - 2) (λ i. stands S s h (i + 2)))
            (decides_append (upward (pages S s) (Parted S h s)) _ (decides_tab (λ i. rule (i + 2) (Parted S h s (i + 2))) (pages S s - 2) (λ i. parted S s h (i + 2)))
            (ℕ_discrete (dir_depth s) (deepest_in (contents S s)), (counts S s, tt))),
      ),
    )
