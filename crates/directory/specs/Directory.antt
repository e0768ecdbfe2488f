-- What the function that writes depth and directory from the pages does. Assumes nothing.
use Rattle.std.specs.Prelude.{◌≡◌, List, ◌⊎◌, ℕ, ◌+◌, ◌*◌, ◌-◌, ◌≤◌, ◌<◌, length}
use Rattle.ground.specs.Lists.{byte}
use Rattle.words.specs.Moves.{Frame}
use Rattle.page.specs.Page.{BucketPage, depth, code}
use Rattle.partition.specs.Bits.{top}
use Rattle.partition.specs.declared.Shape.{Shape}
use Rattle.store.specs.Pages.{size, page, dir_depth, entry_at, pages, contents, deepest_in}
use Rattle.store.specs.Accepted.{Zero, Calls}
use Rattle.store.specs.Counts.{Counts}
use Rattle.store.specs.Demands.{Sized}

-- page p of the store is a bucket whose prefix calls for entry i in a directory of depth d
pub record CallsFor (S : Shape) (h : List ℕ → ℕ) (s : List ℕ) (d i p : ℕ) : Type 0 where
  pub used : byte (page S s p) 0 ≡ 1
  pub calls : Calls d (depth (page S s p)) (top (depth (page S s p)) (h (code (page S s p) 0))) i

-- of the pages from 2 below n, entry i names one that calls for it, or is zero where none does
pub data EntryFor (S : Shape) (h : List ℕ → ℕ) (s : List ℕ) (d n i e : ℕ) : Type 0 where
  none : e ≡ 0 → ((p : ℕ) → 2 ≤ p → p < n → CallsFor S h s d i p → ⊥) → EntryFor S h s d n i e
  names : 2 ≤ e → e < n → CallsFor S h s d i e → EntryFor S h s d n i e

-- t is s with the depth d and the directory of its pages from 2 below n
pub record Directed (S : Shape) (h : List ℕ → ℕ) (s : List ℕ) (d n : ℕ) (t : List ℕ) : Type 0 where
  pub long : length t ≡ length s
  pub start : (k : ℕ) → k < 16 → byte t k ≡ byte s k
  pub deep : dir_depth t ≡ d
  pub rest : (k : ℕ) → 20 ≤ k → k < size S → byte t k ≡ byte s k
  pub entries : (i : ℕ) → i < S.entries → EntryFor S h s d n i (entry_at S t i)
  pub above : (k : ℕ) → 2 * size S ≤ k → byte t k ≡ byte s k

-- the entries from a up to b are p, all else is as it was
pub record RunSet (S : Shape) (s : List ℕ) (a b p : ℕ) (t : List ℕ) : Type 0 where
  pub new : (i : ℕ) → a ≤ i → i < b → entry_at S t i ≡ p
  pub old : Frame s (size S + 4 * a) (4 * (b - a)) t

-- entries from a up to b are in the directory, and p can be one
pub record Runnable (S : Shape) (s : List ℕ) (a b p : ℕ) : Type 0 where
  pub long : 2 * size S ≤ length s
  pub rising : a ≤ b
  pub within : b ≤ S.entries
  pub word : p < 4294967296

-- a prefix of k bits in a directory of depth d, and p can be an entry
pub record Namable (S : Shape) (s : List ℕ) (d k p : ℕ) : Type 0 where
  pub long : 2 * size S ≤ length s
  pub low : k ≤ d
  pub deep : d ≤ S.deepest
  pub word : p < 4294967296

-- the entries that the prefix v of k bits calls for are p, all else is as it was
pub record PrefixNamed (S : Shape) (s : List ℕ) (d k v p : ℕ) (t : List ℕ) : Type 0 where
  pub entry : (i : ℕ) → i < S.entries → (Calls d k v i × (entry_at S t i ≡ p)) ⊎ ((Calls d k v i → ⊥) × (entry_at S t i ≡ entry_at S s i))
  pub old : Frame s (size S) (size S) t

-- the entries that page p calls for name it, all else is as it was
pub record PageNamed (S : Shape) (h : List ℕ → ℕ) (s : List ℕ) (d p : ℕ) (t : List ℕ) : Type 0 where
  pub entry : (i : ℕ) → i < S.entries → (CallsFor S h s d i p × (entry_at S t i ≡ p)) ⊎ ((CallsFor S h s d i p → ⊥) × (entry_at S t i ≡ entry_at S s i))
  pub old : Frame s (size S) (size S) t

-- a page of a directory of depth d: if it is a bucket, its rules hold and its depth is not above d
pub record Nameable (d : ℕ) (g : List ℕ) : Type 0 where
  pub rules : byte g 0 ≡ 1 → BucketPage g
  pub depths : byte g 0 ≡ 1 → depth g ≤ d

-- page p of the store, of a directory of depth d
pub record PageOf (S : Shape) (s : List ℕ) (d p : ℕ) : Type 0 where
  pub least : 2 ≤ p
  pub most : p < S.entries + 2
  pub there : p * size S + size S ≤ length s
  pub deep : d ≤ S.deepest
  pub keeps : Nameable d (page S s p)

-- a store of n pages whose buckets keep their rules, none deeper than d
pub record Directable (S : Shape) (s : List ℕ) (n d : ℕ) : Type 0 where
  pub long : length s ≡ n * size S
  pub least : 3 ≤ n
  pub most : n ≤ S.entries + 2
  pub deep : d ≤ S.deepest
  pub pages : (p : ℕ) → 2 ≤ p → p < n → Nameable d (page S s p)

-- a free page, or a bucket page not deeper than there can be
pub data SoundPage (S : Shape) (g : List ℕ) : Type 0 where
  free : Zero g → SoundPage S g
  used : BucketPage g → depth g ≤ S.deepest → SoundPage S g

-- a store of n pages, each of them sound
pub record Settling (S : Shape) (s : List ℕ) (n : ℕ) : Type 0 where
  pub long : length s ≡ n * size S
  pub least : 3 ≤ n
  pub most : n ≤ S.entries + 2
  pub pages : (p : ℕ) → 2 ≤ p → p < n → SoundPage S (page S s p)

-- a store of n pages, each of them sound, with true counts
pub record Settleable (S : Shape) (s : List ℕ) (n : ℕ) : Type 0 where
  pub sized : Sized S
  pub pages : Settling S s n
  pub counts : Counts S s

-- a store whose counts are true, and no page of it is deeper than most bits; its directory, of depth d, is that of the pages where that is their depth
pub record SettleDue (S : Shape) (h : List ℕ → ℕ) (s : List ℕ) (n d most : ℕ) : Type 0 where
  pub store : Settleable S s n
  pub limit : most ≤ 12
  pub low : deepest_in (contents S s) ≤ most
  pub named : deepest_in (contents S s) ≡ d → Directed S h s d n s

-- t is s with true counts in page 0
pub record Recounted (S : Shape) (s t : List ℕ) : Type 0 where
  pub old : Frame s 24 56 t
  pub counts : Counts S t

-- t is s but for its pages from 1 on, of which those from 2 on are sound
pub record Rewritten (S : Shape) (s t : List ℕ) : Type 0 where
  pub long : length t ≡ length s
  pub low : (k : ℕ) → k < size S → byte t k ≡ byte s k
  pub sound : (p : ℕ) → 2 ≤ p → p < pages S s → SoundPage S (page S t p)
