-- An accepted store whose pages of one prefix are written anew, and their entries with them: the directory is that of the pages. Over any page size. Assumes nothing.
use mathlib.Core.Path.{◌≡◌, refl, sym, subst}
use mathlib.Core.List.{List, [], ◌∷◌, Memᴰ}
use lib.ListN.{length}
use mathlib.Core.Logic.{◌⊎◌, inl, inr}
use Prim.Native.Nat.{ℕ, ◌+◌, ◌-◌, ◌/◌, ◌^◌, ◌≤◌, ◌<◌}
use native.Mathlib.Omega.{arith}
use native.Mathlib.Decide.{ℕ_discrete}
use Rattle.ground.proofs.Sides.{side}
use Rattle.words.specs.Le.{le16, le32}
use Rattle.partition.specs.Bits.{top}
use Rattle.partition.specs.Partition.{Row}
use Rattle.partition.specs.declared.Shape.{Shape}
use Rattle.store.specs.Moves.{pack_from}
use Rattle.store.proofs.Showing.Shows.{first_code}
use Rattle.store.specs.Pages.{pages, page, dir_depth, entry_at, contents}
use Rattle.store.specs.Accepted.{Stands, unused, used, Calls, Accepted}
use Rattle.store.specs.Demands.{Sized}
use Rattle.store.proofs.Accepted.Rules.{opened}
use Rattle.store.proofs.Accepted.Unique.{within}
use Rattle.store.proofs.Accepted.Accepting.{contents_kept}
use Rattle.directory.specs.Directory.{CallsFor, EntryFor, none, names, SoundPage, PrefixNamed, Directed, Rewritten}
use Rattle.directory.proofs.Directories.{page_above, calls_same}

-- t is s with the pages of the prefix v of k bits written anew, of n pages, and with the entries that the prefix calls for in a directory of depth d
pub record Renewed (S : Shape) (h : List ℕ → ℕ) (s : List ℕ) (d n k v : ℕ) (t : List ℕ) : Type 0 where
  pub pages : (q : ℕ) → 2 ≤ q → q < n
      → (page S t q ≡ page S s q) ⊎ (((i : ℕ) → CallsFor S h s d i q → Calls d k v i) × ((i : ℕ) → CallsFor S h t d i q → Calls d k v i))
  pub others : (i : ℕ) → i < S.entries → (Calls d k v i → ⊥) → entry_at S t i ≡ entry_at S s i
  pub own : (i : ℕ) → i < S.entries → Calls d k v i → EntryFor S h t d n i (entry_at S t i)

-- a prefix calls for an entry or does not
pub calls_or : (d k v i : ℕ) → Calls d k v i ⊎ (Calls d k v i → ⊥)
calls_or d k v i = go (side i (2 ^ d)) (ℕ_discrete (i / 2 ^ (d - k)) v)
  where
    go : (i < 2 ^ d) ⊎ (2 ^ d ≤ i) → Dec (i / 2 ^ (d - k) ≡ v) → Calls d k v i ⊎ (Calls d k v i → ⊥)
    go (inl l) (yes e) = inl (record { below = l; bits = e })
    go (inl l) (no n) = inr (λ c. n c.bits)
    go (inr g) _ = inr (λ c. omega (arith, c.below))

module _ (S : Shape) (sized : Sized S) (h : List ℕ → ℕ) (s : List ℕ) (A : Accepted S h s) where
  -- in an accepted store, the page that calls for an entry is the one that it names
  pub one_calls : (i q : ℕ) → i < S.entries → 2 ≤ q → q < pages S s → CallsFor S h s (dir_depth s) i q → entry_at S s i ≡ q
  one_calls i q l a b c = go ((opened S h s A).stands q a b)
    where
      go : Stands S h s q → entry_at S s i ≡ q
      go (unused z _) = absurd (omega (arith, z 0, c.used))
      go (used _ _ f) = (f i l).1 c.calls

  -- and what an entry names calls for it
  pub entry_calls : (i : ℕ) → i < S.entries → 2 ≤ entry_at S s i → entry_at S s i < pages S s → CallsFor S h s (dir_depth s) i (entry_at S s i)
  entry_calls i l a b = go ((opened S h s A).stands (entry_at S s i) a b)
    where
      go : Stands S h s (entry_at S s i) → CallsFor S h s (dir_depth s) i (entry_at S s i)
      go (unused _ f) = absurd (f i l refl)
      go (used b _ f) = record { used = b.rules.rules.one; calls = (f i l).0 refl }

  pub entry_now : (i : ℕ) → i < S.entries → EntryFor S h s (dir_depth s) (pages S s) i (entry_at S s i)
  entry_now i l = go ((opened S h s A).page1.range i l)
    where
      go : (entry_at S s i ≡ 0) ⊎ ((2 ≤ entry_at S s i) × (entry_at S s i < pages S s)) → EntryFor S h s (dir_depth s) (pages S s) i (entry_at S s i)
      go (inl z) = none z (λ q a b c. omega (arith, one_calls i q l a b c))
      go (inr w) = names w.0 w.1 (entry_calls i l w.0 w.1)

  module _ (k v : ℕ) (t : List ℕ) (W : Rewritten S s t) (R : Renewed S h s (dir_depth s) (pages S s) k v t) where
    abbrev d : ℕ
    d = dir_depth s

    kept : (i e : ℕ) → (Calls d k v i → ⊥) → EntryFor S h s d (pages S s) i e → EntryFor S h t d (pages S s) i e
    kept i e nc (none z f) = none z (λ q a b c. go q a b c (R.pages q a b))
      where
        go : (q : ℕ) → 2 ≤ q → q < pages S s → CallsFor S h t d i q
            → (page S t q ≡ page S s q) ⊎ (((i : ℕ) → CallsFor S h s d i q → Calls d k v i) × ((i : ℕ) → CallsFor S h t d i q → Calls d k v i)) → ⊥
        go q a b c (inl w) = f q a b (calls_same S h s t d i q w c)
        go q a b c (inr w) = nc (w.1 i c)
    kept i e nc (names a b c) = go (R.pages e a b)
      where
        go : (page S t e ≡ page S s e) ⊎ (((i : ℕ) → CallsFor S h s d i e → Calls d k v i) × ((i : ℕ) → CallsFor S h t d i e → Calls d k v i)) → EntryFor S h t d (pages S s) i e
        go (inl w) = names a b (calls_same S h t s d i e (sym w) c)
        go (inr w) = absurd (nc (w.0 i c))

    pub renewed : Directed S h t (dir_depth s) (pages S s) t
    unfolding le32 le16
    renewed = record {
      long = refl;
      start = λ k l. refl;
      deep = let b = sized.least in omega (arith, b, W.low 16 (omega (arith, b)), W.low (16 + 1) (omega (arith, b)), W.low (16 + 2) (omega (arith, b)), W.low (16 + 2 + 1) (omega (arith, b)));
      rest = λ k a l. refl;
      entries = λ i l. entry i l (calls_or d k v i);
      above = λ k l. refl;
    }
      where
        entry : (i : ℕ) → i < S.entries → Calls d k v i ⊎ (Calls d k v i → ⊥) → EntryFor S h t d (pages S s) i (entry_at S t i)
        entry i l (inl c) = R.own i l c
        entry i l (inr n) = subst (EntryFor S h t d (pages S s) i) (sym (R.others i l n)) (kept i (entry_at S s i) n (entry_now i l))

-- the directory's page written, the pages are as they were
module _ (S : Shape) (s t : List ℕ) (d k v p : ℕ) (N : PrefixNamed S s d k v p t) where
  pub prefix_pages : (q : ℕ) → 2 ≤ q → q < pages S s → page S t q ≡ page S s q
  prefix_pages q a b = page_above S s t q a (within S s q b) N.old.len (λ i m. N.old.above i (omega arith))

  pub prefix_holds : contents S t ≡ contents S s
  prefix_holds = contents_kept S s t N.old.len (λ i m. N.old.above i (omega arith))

  pub prefix_kept : Rewritten S s s → Rewritten S s t
  prefix_kept W = record { long = N.old.len; low = λ i l. N.old.below i l; sound = λ q a b. subst (SoundPage S) (sym (prefix_pages q a b)) (W.sound q a b) }

-- the first code's hash has the bucket's bits
pub packed_bits : (h : List ℕ → ℕ) (k v : ℕ) (l : List Row) → ((r : Row) → Memᴰ r l → top k (h r.code) ≡ v) → 0 < length (pack_from 8 l) → top k (h (first_code (pack_from 8 l))) ≡ v
unfolding pack_from
packed_bits h k v [] f z = absurd (omega arith)
packed_bits h k v (r ∷ l) f z = f r (Memᴰ.head refl)
