-- What pass 2 goes by: of each page the first hash, and for each number of as many bits as a directory may have what the pages need whose first hash begins below it. Assumes nothing.
use Rattle.std.specs.Prelude.{◌≡◌, List, ◌⊎◌, ℕ, ◌+◌, ◌-◌, ◌≤◌, ◌<◌, eqb, length, get_or}
use Rattle.ground.specs.Lists.{byte}
use Rattle.words.specs.Zeros.{Zero}
use Rattle.page.specs.Page.{BucketPage, code}
use Rattle.hash.specs.Fnv.{fnv}
use Rattle.partition.specs.Bits.{top}
use Rattle.partition.specs.Partition.{needs}
use Rattle.partition.specs.declared.Shape.{Shape}
use Rattle.store.specs.Pages.{pages, page, read, rows_on}
use Rattle.store.specs.Moves.{pick}
use Rattle.store_check.specs.Begun.{AllStand}
use Rattle.store_check.specs.Heaps.{below, Heaped}

-- a page that can be read: free, or a bucket
pub record Legible (g : List ℕ) : Type 0 where
  pub long : 8 ≤ length g
  pub short : length g ≤ 16384
  pub is : Zero g ⊎ BucketPage g

-- a bucket's first hash, 0 of a free page
abbrev pub first_of : List ℕ → ℕ
first_of g = pick (eqb (byte g 0) 0) 0 (fnv (code g 0))

-- x is what a page's rows need, no more than its room
abbrev pub LoadOf : List ℕ → ℕ → Type 0
LoadOf g x = (x ≡ needs (rows_on (read g))) × (x + 8 ≤ length g)

module _ (S : Shape) (s : List ℕ) where
  -- of the pages 2 upward, by their place in this list: the first hash, its first bits, what the rows need
  abbrev pub hash_at : ℕ → ℕ
  hash_at i = first_of (page S s (i + 2))

  abbrev pub top_at : ℕ → ℕ
  top_at i = top S.deepest (hash_at i)

  abbrev pub load_at : ℕ → ℕ
  load_at i = needs (rows_on (read (page S s (i + 2))))

  -- the first hash of each of n pages from 2 on
  pub record Hashed (n : ℕ) (hashes : List ℕ) : Type 0 where
    pub long : length hashes ≡ S.entries + 2
    pub each : (p : ℕ) → 2 ≤ p → p < n → get_or hashes p 0 ≡ first_of (page S s p)

  -- a cell for each entry and one more, by the first bits
  abbrev pub Celled : ℕ → List ℕ → Type 0
  Celled n cells = Heaped top_at load_at (n - 2) (S.entries + 1) cells

  -- what the pages need by the first bits of their first hash, added up cell by cell
  pub record Digest (n : ℕ) (hashes sums : List ℕ) : Type 0 where
    pub hashed : Hashed n hashes
    pub long : length sums ≡ S.entries + 1
    pub each : (v : ℕ) → v ≤ S.entries → get_or sums v 0 ≡ below top_at load_at (n - 2) v

  -- what pass 2 starts from: n pages that stand, their first hashes, and sums that are zero
  pub record Pass2 (n : ℕ) (hashes sums : List ℕ) : Type 0 where
    pub stand : AllStand S s n
    pub hashed : Hashed n hashes
    pub sums_long : length sums ≡ S.entries + 1
    pub no_sums : Zero sums

  -- what pass 2 goes by at page p
  pub record Digested (hashes sums : List ℕ) (p : ℕ) : Type 0 where
    pub stand : AllStand S s (pages S s)
    pub digest : Digest (pages S s) hashes sums
    pub from : 2 ≤ p
    pub to : p < pages S s
