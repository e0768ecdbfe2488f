-- Rows gathered on a page of their own, and the pages of a prefix joined. Over any page size. Assumes nothing.
use Rattle.std.specs.Prelude.{◌≡◌, Bool, true, List, [], ◌∷◌, ◌++◌, map, ℕ, ◌+◌, ◌*◌, ◌≤◌, ◌<◌, length, set, replicate}
use Rattle.ground.specs.Lists.{byte}
use Rattle.words.specs.Codes.{GoodCode}
use Rattle.page.specs.Page.{Slotted, Natural, rows, depth, count, code, place, frontier, free as spare}
use Rattle.partition.specs.Bits.{top}
use Rattle.partition.specs.declared.Shape.{Shape}
use Rattle.partition.specs.Partition.{Row, needs, Reordered}
use Rattle.partition.specs.Listing.{without, in_order, Once}
use Rattle.store.specs.Pages.{size, Page, free, bucket, page, read, dir_depth, entry_at, contents, as_row, rows_in}
use Rattle.store.specs.Accepted.{Calls}
use Rattle.store.specs.Moves.{pick, find, within, pack_from}
use Rattle.store.specs.Demands.{Sized}
use Rattle.counts.specs.Tallies.{BucketsCounted}
use Rattle.directory.specs.Directory.{SoundPage, Settling}

-- ---- rows on a page

-- rows that go on one page of so many bytes
pub record Housed (bytes : ℕ) (rs : List Row) : Type 0 where
  pub once : Once rs
  pub fit : 8 + needs rs ≤ bytes

-- a page with no gap between its records
pub record Tight (p : List ℕ) : Type 0 where
  pub page : Slotted p
  pub full : frontier p + 4 * count p + spare p ≡ length p

abbrev pub rows_at : List ℕ → List Row
rows_at p = map as_row (rows p)

-- there is room on p for the rows rs too
pub record Taking (p : List ℕ) (rs : List Row) : Type 0 where
  pub tight : Tight p
  pub all : Housed (length p) (rows_at p ++ rs)

-- q has the rows of p and the rows rs
pub record Gathered (p : List ℕ) (rs : List Row) (q : List ℕ) : Type 0 where
  pub long : length q ≡ length p
  pub tight : Tight q
  pub deep : depth q ≡ depth p
  pub all : Reordered (rows_at q) (rows_at p ++ rs)

-- a code of 1 to 64 bytes, and a place of which no part is negative
pub record Storable (c pl : List ℕ) : Type 0 where
  pub good : GoodCode c
  pub natural : Natural pl

abbrev pub row_with : List ℕ → List ℕ → Row
row_with c pl = record { code = c; place = pl }

-- ---- rows of another code than c

-- those among some rows
abbrev pub others : List ℕ → List Row → List Row
others c rs = without (λ q. q.code) c rs

-- slot i's row, if it is one
abbrev pub other_at : List ℕ → List ℕ → ℕ → List Row
other_at c g i = others c (row_with (code g i) (place g i) ∷ [])

-- slot i of g, and room on p for its row if it is one
pub record SlotTaking (p g : List ℕ) (i : ℕ) (c : List ℕ) : Type 0 where
  pub page : Slotted g
  pub slot : i < count g
  pub room : Taking p (other_at c g i)

-- page q of the store s, and room on p for its rows that are
pub record PageTaking (S : Shape) (p s : List ℕ) (q : ℕ) (c : List ℕ) : Type 0 where
  pub from : 2 ≤ q
  pub there : q * size S + size S ≤ length s
  pub slots : Slotted (page S s q)
  pub shallow : depth (page S s q) ≤ 12
  pub room : Taking p (others c (rows_at (page S s q)))

-- those of the pages of the prefix
abbrev pub others_in : (List ℕ → ℕ) → ℕ → ℕ → List ℕ → List Page → List Row
others_in h j v c gs = others c (rows_in (map (λ g. pick (within h j v g) g free) gs))

-- ---- the pages of a prefix

-- page p of the store is in use; page 0 is no bucket
pub record Used (S : Shape) (s : List ℕ) (p : ℕ) : Type 0 where
  pub some : p ≡ 0 → ⊥
  pub kind : byte s (p * size S) ≡ 0 → ⊥

-- page p of the store is of the prefix v of j bits
abbrev pub is_of : Shape → (List ℕ → ℕ) → ℕ → ℕ → List ℕ → ℕ → Bool
is_of S h j v s p = within h j v (read (page S s p))

-- page p is one of the store's n pages and of the prefix v of j bits
pub record OfPrefix (S : Shape) (h : List ℕ → ℕ) (s : List ℕ) (n j v p : ℕ) : Type 0 where
  pub from : 2 ≤ p
  pub to : p < n
  pub is : is_of S h j v s p ≡ true

-- an entry that the prefix v of j bits calls for names page p
pub record NamedBy (S : Shape) (s : List ℕ) (j v p : ℕ) : Type 0 where
  pub entry : ℕ
  pub calls : Calls (dir_depth s) j v entry
  pub names : entry_at S s entry ≡ p

-- a store of n sound pages, and the prefix of j bits of the hash x: the entries that it calls for name its pages, and no other
pub record Prefixed (S : Shape) (h : List ℕ → ℕ) (s : List ℕ) (n x j : ℕ) : Type 0 where
  pub sized : Sized S
  pub sound : Settling S s n
  pub deep : dir_depth s ≤ S.deepest
  pub bits : j ≤ dir_depth s
  pub named : (p : ℕ) → OfPrefix S h s n j (top j x) p → NamedBy S s j (top j x) p
  pub names : (i : ℕ) → Calls (dir_depth s) j (top j x) i → (entry_at S s i ≡ 0 → ⊥) → OfPrefix S h s n j (top j x) (entry_at S s i)

-- t is s with the pages of the prefix cleared
pub record Emptied (S : Shape) (h : List ℕ → ℕ) (s : List ℕ) (n j v : ℕ) (t : List ℕ) : Type 0 where
  pub long : length t ≡ length s
  pub low : (k : ℕ) → k < 2 * size S → byte t k ≡ byte s k
  pub pages : (q : ℕ) → 2 ≤ q → q < n → page S t q ≡ pick (is_of S h j v s q) (replicate (size S) 0) (page S s q)

-- rows of another code than c to join, and a page of the prefix to hold them
pub record Joinable (S : Shape) (h : List ℕ → ℕ) (s : List ℕ) (n x j : ℕ) (c : List ℕ) : Type 0 where
  pub prefix : Prefixed S h s n x j
  pub housed : Housed (size S) (others_in h j (top j x) c (contents S s))
  pub some : 0 < needs (others_in h j (top j x) c (contents S s))
  pub there : find (within h j (top j x)) (contents S s) < length (contents S s)

-- rows that can be joined, and an array that has the counts of buckets
pub record JoinCounted (S : Shape) (h : List ℕ → ℕ) (s : List ℕ) (n x j : ℕ) (c tallies : List ℕ) : Type 0 where
  pub joinable : Joinable S h s n x j c
  pub counted : BucketsCounted (contents S s) tallies

-- what the pages hold with those rows packed into the lowest-numbered page of the prefix, and its other pages cleared
abbrev pub joined_pages : (List ℕ → ℕ) → ℕ → ℕ → List ℕ → List Page → List Page
joined_pages h j v c gs = set (map (λ g. pick (within h j v g) free g) gs) (find (within h j v) gs) (bucket j (pack_from 8 (in_order (others_in h j v c gs))))

-- t is s with its pages so, and low is the lowest-numbered page of the prefix
pub record Rejoined (S : Shape) (h : List ℕ → ℕ) (s : List ℕ) (n j v : ℕ) (c : List ℕ) (low : ℕ) (t : List ℕ) : Type 0 where
  pub long : length t ≡ length s
  pub start : (k : ℕ) → k < 2 * size S → byte t k ≡ byte s k
  pub sound : (p : ℕ) → 2 ≤ p → p < n → SoundPage S (page S t p)
  pub holds : contents S t ≡ joined_pages h j v c (contents S s)
  pub lowest : low ≡ 2 + find (within h j v) (contents S s)
  pub rest : (q : ℕ) → 2 ≤ q → q < n → (q ≡ low → ⊥) → page S t q ≡ pick (is_of S h j v s q) (replicate (size S) 0) (page S s q)
