-- The rules of the codes' bytes and of the hashes, and all rules of one bucket page. Assumes nothing.
use Rattle.std.specs.Prelude.{ℕ, ◌≤◌, ◌<◌, ◌≡◌, List, length}
use Rattle.std.specs.Int.Bits.{bit_xor}
use Rattle.words.specs.Folds.{Folded}
use Rattle.words.specs.Zeros.{Zero}
use Rattle.hash.specs.Fnv.{fnv}
use Rattle.partition.specs.Bits.{top}
use Rattle.page.specs.Page.{BucketPage, depth, count, code}

-- the hashes share their first k bits with the first
abbrev pub AllShare : (List ℕ → ℕ) → List ℕ → ℕ → Type 0
AllShare h p k = (i : ℕ) → i < count p → top k (h (code p 0)) ≡ top k (h (code p i))

-- the hashes share the first local-depth bits
abbrev pub Share : (List ℕ → ℕ) → List ℕ → Type 0
Share h p = (i j : ℕ) → i < count p → j < count p → top (depth p) (h (code p i)) ≡ top (depth p) (h (code p j))

-- no code has a capital
abbrev pub Spelled : List ℕ → Type 0
Spelled p = (i : ℕ) → i < count p → Folded (code p i)

-- the bucket page's rules, no capital included
pub record PageOk (p : List ℕ) : Type 0 where
  pub rules : BucketPage p
  pub folded : Spelled p

-- a bucket page, the hash of its first code, and k bits at most those of a hash
pub record FirstHash (p : List ℕ) (first k : ℕ) : Type 0 where
  pub rules : BucketPage p
  pub hash : first ≡ fnv (code p 0)
  pub bits : k ≤ 32

-- a table as long as the page, of zeros, and a deepest depth of no more bits than a hash has
pub record LentTable (p t : List ℕ) (deepest : ℕ) : Type 0 where
  pub same : length t ≡ length p
  pub zero : Zero t
  pub bits : deepest ≤ 32

-- the bucket page's rules, no capital and shared hash bits included, local depth 0 to the deepest
pub record Keeps (deepest : ℕ) (p : List ℕ) : Type 0 where
  pub rules : BucketPage p
  pub folded : Spelled p
  pub deep : depth p ≤ deepest
  pub share : Share fnv p

-- from slot 1 up to slot r, not further than there are slots, the hashes differ from x by less than m
pub record NearUpTo (p : List ℕ) (x m r : ℕ) : Type 0 where
  pub start : 1 ≤ r
  pub within : r ≤ count p
  pub near : (i : ℕ) → 1 ≤ i → i < r → bit_xor x (fnv (code p i)) < m
