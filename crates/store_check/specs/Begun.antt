-- What the passes over the pages start from. Assumes nothing.
use Rattle.std.specs.Prelude.{◌≡◌, List, ℕ, ◌+◌, ◌*◌, ◌%◌, ◌^◌, ◌≤◌, ◌<◌, length, get_or}
use Rattle.words.specs.Zeros.{Zero}
use Rattle.page.specs.Page.{BucketPage, depth}
use Rattle.page_check.specs.Shared.{Spelled}
use Rattle.hash.specs.Fnv.{fnv}
use Rattle.partition.specs.declared.Shape.{Shape}
use Rattle.store.specs.Demands.{Sized}
use Rattle.store.specs.Pages.{size, pages, dir_depth}
use Rattle.store.specs.Accepted.{GoodLength, Stands}
use Rattle.store_check.specs.Directory.{Entries, AllAre, AllBelow, NamesCounted}

-- a store of n pages of a size, whose directory, of depth d, has entries in dir: below n, and zero from 2^d on
pub record Begun (S : Shape) (s dir : List ℕ) (n d : ℕ) : Type 0 where
  pub sized : Sized S
  pub long : length s ≡ n * size S
  pub number : n ≡ pages S s
  pub least : 3 ≤ n
  pub most : n ≤ S.entries + 2
  pub depth : d ≡ dir_depth s
  pub deep : d ≤ S.deepest
  pub entries : Entries S s dir
  pub below : AllBelow dir 0 (length dir) n
  pub beyond : AllAre dir (2 ^ d) (length dir) 0

-- what pass 1 starts from: the entries counted, its tables zero, pages of whole blocks of 1,024 bytes
pub record Pass1 (S : Shape) (s dir counts : List ℕ) (n d : ℕ) (tab hashes : List ℕ) : Type 0 where
  pub begun : Begun S s dir n d
  pub counted : NamesCounted dir (2 ^ d) (S.entries + 2) counts
  pub blocks : size S % 1024 ≡ 0
  pub tab_long : length tab ≡ size S
  pub no_tab : Zero tab
  pub hashes_long : length hashes ≡ S.entries + 2
  pub no_hashes : Zero hashes

-- page p of a store of pages of whole blocks, and a count for each of its pages
pub record SkipAsked (S : Shape) (s counts : List ℕ) (p : ℕ) : Type 0 where
  pub blocks : size S % 1024 ≡ 0
  pub here : p < pages S s
  pub enough : pages S s ≤ length counts

-- a free page, p, named by no entry, as they are counted
pub record FreeAndUnnamed (g counts : List ℕ) (p : ℕ) : Type 0 where
  pub zero : Zero g
  pub unnamed : get_or counts p 0 ≡ 0

-- a bucket's own bytes but for its hashes, and its depth
pub record Own (g : List ℕ) (d : ℕ) : Type 0 where
  pub rules : BucketPage g
  pub folded : Spelled g
  pub deep : depth g ≤ d

-- a store of n pages of a size, those from 2 on all standing
pub record AllStand (S : Shape) (s : List ℕ) (n : ℕ) : Type 0 where
  pub sized : Sized S
  pub long : length s ≡ n * size S
  pub number : n ≡ pages S s
  pub least : 3 ≤ n
  pub most : n ≤ S.entries + 2
  pub deep : dir_depth s ≤ S.deepest
  pub each : (p : ℕ) → 2 ≤ p → p < n → Stands S fnv s p

-- a store of whole pages, and an offset in page 0 behind the size's number
pub record Judgeable (S : Shape) (s : List ℕ) (zeros : ℕ) : Type 0 where
  pub long : GoodLength S s
  pub behind : 24 ≤ zeros
  pub within : zeros ≤ 80

-- the check's tables: as long as the size asks, and zero where the passes add to them
pub record Tables (S : Shape) (dir counts hashes sums tab : List ℕ) : Type 0 where
  pub dir_long : length dir ≡ S.entries
  pub counts_long : length counts ≡ S.entries + 2
  pub hashes_long : length hashes ≡ S.entries + 2
  pub sums_long : length sums ≡ S.entries + 1
  pub tab_long : length tab ≡ size S
  pub no_dir : Zero dir
  pub no_counts : Zero counts
  pub no_hashes : Zero hashes
  pub no_sums : Zero sums
  pub no_tab : Zero tab

-- what the passes start from: a store of whole pages of a size of whole blocks of 1,024 bytes, where page 0's zeros begin, and tables for it
pub record Checkable (S : Shape) (s : List ℕ) (zeros : ℕ) (dir counts hashes sums tab : List ℕ) : Type 0 where
  pub sized : Sized S
  pub blocks : size S % 1024 ≡ 0
  pub judgeable : Judgeable S s zeros
  pub tables : Tables S dir counts hashes sums tab
