-- The rules of a store, and the order in which the check goes through them. Assumes nothing.
use Rattle.std.specs.Prelude.{◌≡◌, List, [], ◌∷◌, ◌++◌, ◌⊎◌, ◌↔◌, ℕ, suc, ◌+◌, ◌-◌, ◌*◌, ◌/◌, ◌%◌, ◌^◌, ◌≤◌, ◌<◌, length}
use Rattle.ground.specs.Lists.{byte}
use Rattle.words.specs.Le.{le32}
pub use Rattle.words.specs.Zeros.{Zero}
use Rattle.words.specs.Folds.{Folded}
use Rattle.ground.specs.Lists.{tab}
use Rattle.page.specs.Page.{BucketPage, depth, count, code}
use Rattle.partition.specs.Bits.{top}
use Rattle.partition.specs.declared.Shape.{Shape}
use Rattle.partition.specs.Partition.{rows_of, needs}
use Rattle.partition.specs.Sizes.{number_of_size}
use Rattle.store.specs.Pages.{S1024, size, pages, page, dir_depth, entry_at, contents, rows_held, deepest_in}
use Rattle.store.specs.Counts.{Counts}

-- a multiple of the page size, 3 to 258 pages
pub record GoodLength (S : Shape) (s : List ℕ) : Type 0 where
  pub whole : length s % size S ≡ 0
  pub least : 3 ≤ pages S s
  pub most : pages S s ≤ S.entries + 2

-- Page 0: number of pages, the directory's offset, the entry count, the first bucket's offset, the depth, the size. It is zero from an offset on.
pub record Page0From (zeros : ℕ) (S : Shape) (s : List ℕ) : Type 0 where
  pub number : le32 s 0 ≡ pages S s
  pub directory : le32 s 4 ≡ size S
  pub entries : le32 s 8 ≡ S.entries
  pub first : le32 s 12 ≡ 2 * size S
  pub depth : dir_depth s ≤ S.deepest
  pub size_number : le32 s 20 ≡ number_of_size S
  pub rest : (k : ℕ) → zeros ≤ k → k < size S → byte s k ≡ 0

-- from 80 on, behind the counts
abbrev pub Page0 : Shape → List ℕ → Type 0
Page0 S s = Page0From 80 S s

-- page 0 as document 01 has it, before there were sizes
pub record Page0Before (s : List ℕ) : Type 0 where
  pub number : le32 s 0 ≡ pages S1024 s
  pub directory : le32 s 4 ≡ 1024
  pub entries : le32 s 8 ≡ 256
  pub first : le32 s 12 ≡ 2048
  pub depth : dir_depth s ≤ 8
  pub rest : (k : ℕ) → 20 ≤ k → k < 1024 → byte s k ≡ 0

-- Page 1: zero means none; else a page number from 2, below the number of pages. Entries from 2^d on are zero.
pub record Page1 (S : Shape) (s : List ℕ) : Type 0 where
  pub range : (i : ℕ) → i < S.entries → (entry_at S s i ≡ 0) ⊎ ((2 ≤ entry_at S s i) × (entry_at S s i < pages S s))
  pub beyond : (i : ℕ) → i < S.entries → 2 ^ dir_depth s ≤ i → entry_at S s i ≡ 0

-- a bucket page's own bytes: the page's rules, no stored code with a capital, and the hashes share the first local-depth bits
pub record Bucket (h : List ℕ → ℕ) (g : List ℕ) : Type 0 where
  pub rules : BucketPage g
  pub folded : (i : ℕ) → i < count g → Folded (code g i)
  pub share : (i j : ℕ) → i < count g → j < count g → top (depth g) (h (code g i)) ≡ top (depth g) (h (code g j))

-- entry i, i below 2^d, names the bucket whose prefix of length k equals the top k of i's d bits
pub record Calls (d k v i : ℕ) : Type 0 where
  pub below : i < 2 ^ d
  pub bits : i / 2 ^ (d - k) ≡ v

-- pages 2 upward: its own bytes, local depth not above the directory's, and being named by exactly the entries its prefix calls for (a free page by none)
pub data Stands (S : Shape) (h : List ℕ → ℕ) (s : List ℕ) (p : ℕ) : Type 0 where
  unused : Zero (page S s p) → ((i : ℕ) → i < S.entries → entry_at S s i ≡ p → ⊥) → Stands S h s p
  used : Bucket h (page S s p) → depth (page S s p) ≤ dir_depth s
      → ((i : ℕ) → i < S.entries → (entry_at S s i ≡ p) ↔ Calls (dir_depth s) (depth (page S s p)) (top (depth (page S s p)) (h (code (page S s p) 0))) i)
      → Stands S h s p

-- of a bucket of depth over 0 the rows of the prefix one bit shorter do not fit
abbrev pub Parted : Shape → (List ℕ → ℕ) → List ℕ → ℕ → Type 0
Parted S h s p = (j : ℕ) → depth (page S s p) ≡ suc j → S.capacity < needs (rows_of h (rows_held S s) j (top j (h (code (page S s p) 0))))

-- depth is the largest bucket depth
abbrev pub Deepest : Shape → List ℕ → Type 0
Deepest S s = dir_depth s ≡ deepest_in (contents S s)

-- a rule, and the page that breaks it
pub record Rule : Type 1 where
  pub at : ℕ
  pub holds : Type 0

abbrev pub rule : ℕ → Type 0 → Rule
rule p P = record { at = p; holds = P }

-- the pages 2 upward
abbrev pub upward : ℕ → (ℕ → Type 0) → List Rule
upward n P = tab (λ i. rule (i + 2) (P (i + 2))) (n - 2)

-- The check goes in this order: page 0; page 1; pages 2 upward; again upward; page 0 for its depth; then what comes last.
abbrev pub in_turn : Shape → (List ℕ → ℕ) → List ℕ → Type 0 → List Rule → List Rule
in_turn S h s P0 last =
    rule 0 P0 ∷ (rule 1 (Page1 S s) ∷ (
    upward (pages S s) (Stands S h s) ++ (
    upward (pages S s) (Parted S h s) ++ (
    rule 0 (Deepest S s) ∷ last))))

-- the old rules, before there were counts: page 0 is zero from 24 on
unfoldable pub rules_before : Shape → (List ℕ → ℕ) → List ℕ → List Rule
rules_before S h s = in_turn S h s (Page0From 24 S s) []

-- the counts are true: page 0, after all other rules
unfoldable pub rules : Shape → (List ℕ → ℕ) → List ℕ → List Rule
rules S h s = in_turn S h s (Page0 S s) (rule 0 (Counts S s) ∷ [])

abbrev pub Every : List Rule → Type 0
Every [] = Unit {0}
Every (r ∷ rs) = r.holds × Every rs

-- the check stops at the first page that breaks a rule
abbrev pub Stops : List Rule → ℕ → Type 0
Stops [] p = ⊥
Stops (r ∷ rs) p = ((r.holds → ⊥) × (p ≡ r.at)) ⊎ (r.holds × Stops rs p)

pub record Accepted (S : Shape) (h : List ℕ → ℕ) (s : List ℕ) : Type 0 where
  pub long : GoodLength S s
  pub keeps : Every (rules S h s)

-- refusal 2 carries the page number p
unfoldable pub Broken : Shape → (List ℕ → ℕ) → List ℕ → ℕ → Type 0
unfolding rules
Broken S h s p = Stops (rules S h s) p

-- a store that meets the old rules
pub record AcceptedBefore (S : Shape) (h : List ℕ → ℕ) (s : List ℕ) : Type 0 where
  pub long : GoodLength S s
  pub keeps : Every (rules_before S h s)

-- refusal 2 by the old rules
unfoldable pub BrokenBefore : Shape → (List ℕ → ℕ) → List ℕ → ℕ → Type 0
unfolding rules_before
BrokenBefore S h s p = Stops (rules_before S h s) p
