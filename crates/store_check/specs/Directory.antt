-- The directory as it is read once, and runs of its entries. Assumes nothing.
use Rattle.std.specs.Prelude.{◌≡◌, List, ◌↔◌, ℕ, ◌+◌, ◌*◌, ◌^◌, ◌≤◌, ◌<◌, length, get_or}
use Rattle.partition.specs.declared.Shape.{Shape}
use Rattle.words.specs.Zeros.{Zero}
use Rattle.store.specs.Demands.{Sized}
use Rattle.store.specs.Pages.{size, pages, dir_depth, entry_at}
use Rattle.store.specs.Accepted.{Calls}
use Rattle.store_check.specs.Heaps.{Heaped}

-- room, all zero, for the first m entries of a store that has a page 1
pub record Roomy (S : Shape) (s dir : List ℕ) (m : ℕ) : Type 0 where
  pub sized : Sized S
  pub long : 2 * size S ≤ length s
  pub few : m ≤ S.entries
  pub room : length dir ≡ S.entries
  pub none : Zero dir

-- page 1 of a store of n pages, whose directory has m entries, and clear room for these
pub record PageOneAsked (S : Shape) (s dir : List ℕ) (n m : ℕ) : Type 0 where
  pub room : Roomy S s dir m
  pub number : n ≡ pages S s
  pub least : 3 ≤ n
  pub most : n ≤ S.entries + 2
  pub power : m ≡ 2 ^ dir_depth s

-- the entries of the directory of s
pub record Entries (S : Shape) (s dir : List ℕ) : Type 0 where
  pub long : length dir ≡ S.entries
  pub entry : (i : ℕ) → i < S.entries → get_or dir i 0 ≡ entry_at S s i

-- the first m of them, zero behind these
pub record EntriesTo (S : Shape) (s dir : List ℕ) (m : ℕ) : Type 0 where
  pub long : length dir ≡ S.entries
  pub entry : (i : ℕ) → i < m → get_or dir i 0 ≡ entry_at S s i
  pub beyond : (i : ℕ) → m ≤ i → get_or dir i 0 ≡ 0

-- the entries from a up to b are x
abbrev pub AllAre : List ℕ → ℕ → ℕ → ℕ → Type 0
AllAre dir a b x = (i : ℕ) → a ≤ i → i < b → get_or dir i 0 ≡ x

-- none of the entries from a up to b is x
abbrev pub NoneIs : List ℕ → ℕ → ℕ → ℕ → Type 0
NoneIs dir a b x = (i : ℕ) → a ≤ i → i < b → get_or dir i 0 ≡ x → ⊥

-- the entries from a up to b are below n
abbrev pub AllBelow : List ℕ → ℕ → ℕ → ℕ → Type 0
AllBelow dir a b n = (i : ℕ) → a ≤ i → i < b → get_or dir i 0 < n

-- for each of n pages the number of the entries up to m that name it
abbrev pub NamesCounted : List ℕ → ℕ → ℕ → List ℕ → Type 0
NamesCounted dir m n counts = Heaped (λ i. get_or dir i 0) (λ i. 1) m n counts

-- counts of zero for every page that the entries up to m name
pub record Uncounted (dir counts : List ℕ) (m : ℕ) : Type 0 where
  pub inside : m ≤ length dir
  pub few : m ≤ 4096
  pub below : AllBelow dir 0 m (length counts)
  pub none : Zero counts

-- a directory of depth d, its entries counted, and a bucket's page p and depth k
pub record NamingAsked (dir counts : List ℕ) (d k p : ℕ) : Type 0 where
  pub inside : 2 ^ d ≤ length dir
  pub few : d ≤ 12
  pub depth : k ≤ d
  pub from : 2 ≤ p
  pub to : p < length counts
  pub beyond : AllAre dir (2 ^ d) (length dir) 0
  pub counted : NamesCounted dir (2 ^ d) (length counts) counts

-- the entries up to m are in range for n pages
pub record EntriesInRange (dir : List ℕ) (n m : ℕ) : Type 0 where
  pub not_one : NoneIs dir 0 m 1
  pub below : AllBelow dir 0 m n

-- page 1's rules for n pages and a depth of which m is the power of two
pub record Ranges (dir : List ℕ) (n m : ℕ) : Type 0 where
  pub not_one : NoneIs dir 0 (length dir) 1
  pub below : AllBelow dir 0 (length dir) n
  pub beyond : AllAre dir m (length dir) 0

-- page p is named by exactly the entries that the prefix v of k bits calls for
abbrev pub Named : List ℕ → ℕ → ℕ → ℕ → ℕ → Type 0
Named dir d k v p = (i : ℕ) → i < length dir → (get_or dir i 0 ≡ p) ↔ Calls d k v i
