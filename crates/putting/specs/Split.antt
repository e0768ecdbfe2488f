-- What the steps of a split ask and answer. Over any page size and hash. Assumes nothing.
use Rattle.std.specs.Prelude.{◌≡◌, List, [], ◌∷◌, ◌++◌, map, ◌⊎◌, ℕ, zero, suc, ◌+◌, ◌-◌, ◌^◌, ◌≤◌, ◌<◌, length, get_or, take, drop}
use Rattle.ground.specs.Lists.{byte}
use Rattle.words.specs.Codes.{GoodCode}
use Rattle.words.specs.Le.{le32}
use Rattle.page.specs.Page.{Slotted, BucketPage, Belongs, Natural, depth, count, code, rows, row_at}
use Rattle.partition.specs.declared.Shape.{Shape}
use Rattle.partition.specs.Partition.{Row, Prefix, needs, rows_of, grade, walk}
use Rattle.partition.specs.Listing.{in_order, Rising}
use Rattle.store.specs.Pages.{pages, page, entry_at, Page, contents, as_row}
use Rattle.store.specs.Accepted.{GoodLength, Calls}
use Rattle.store.specs.Counts.{buckets_at}
use Rattle.store.specs.Demands.{Sized}
use Rattle.store.specs.Moves.{find, is_free, frees, pack_from, packed, written}
use Rattle.query.specs.Spots.{DirectoryOf}
use Rattle.directory.specs.Directory.{CallsFor, PrefixNamed, Rewritten}
use Rattle.putting.specs.Put.{new_row}
use Rattle.putting.specs.declared.weigh.Weight.{Weight}

-- a row of the code, its place left aside
abbrev pub keyed : List ℕ → Row
keyed c = new_row c []

-- the rows of the page g and the new row
abbrev pub with_new : List ℕ → Row → List Row
with_new g r = r ∷ map as_row (rows g)

-- what a row of the code needs
abbrev pub weight : List ℕ → ℕ
weight c = 12 + length c

-- l has what f says of the code of each slot of the page g
pub record Each (f : List ℕ → ℕ) (g l : List ℕ) : Type 0 where
  pub long : count g < length l
  pub at : (i : ℕ) → i < count g → get_or l i 0 ≡ f (code g i)

-- l has what f says of each code of the page g, and behind these what it says of the code c
pub record Told (f : List ℕ → ℕ) (g c l : List ℕ) : Type 0 where
  pub rows : Each f g l
  pub new : get_or l (count g) 0 ≡ f c

-- the hashes in ws, and the needs
abbrev pub hashes_in : List Weight → List ℕ
hashes_in ws = map (λ (w : Weight). w.hash) ws

abbrev pub needs_in : List Weight → List ℕ
needs_in ws = map (λ (w : Weight). w.need) ws

-- there is room for the hashes and needs of the rows of the page g and of a row of the code c
pub record Weighable (g c : List ℕ) (ws : List Weight) : Type 0 where
  pub page : Slotted g
  pub good : GoodCode c
  pub room : count g < length ws

-- ws has them
pub record Weighed (h : List ℕ → ℕ) (g c : List ℕ) (ws : List Weight) : Type 0 where
  pub page : Slotted g
  pub good : GoodCode c
  pub hashes : Told h g c (hashes_in ws)
  pub weights : Told weight g c (needs_in ws)

-- v is a prefix of k bits, at most the deepest depth
pub record PrefixIn (S : Shape) (k v : ℕ) : Type 0 where
  pub sized : Sized S
  pub deep : k ≤ S.deepest
  pub bits : v < 2 ^ k

-- the buckets of rs at the prefix v of k bits and below it, in prefix order
unfoldable pub below : Shape → (List ℕ → ℕ) → List Row → ℕ → ℕ → List Prefix
unfolding walk grade rows_of
below S h rs k v = walk (λ j w. grade S.capacity (rows_of h rs j w)) (S.deepest - k) (grade S.capacity (rows_of h rs k v)) k v

-- the buckets below the prefix (k, v), written packed
abbrev pub pages_below : Shape → (List ℕ → ℕ) → List Row → ℕ → ℕ → List Page
pages_below S h rs k v = map (packed h rs) (below S h rs k v)

-- the buckets of the rows of the page g and a row of the code c can be counted in the array, too
pub record Countable (S : Shape) (h : List ℕ → ℕ) (g c : List ℕ) (ws : List Weight) (k v : ℕ) (tallies : List ℕ) : Type 0 where
  pub weighed : Weighed h g c ws
  pub prefix : PrefixIn S k v
  pub array : length tallies ≡ 14
  pub few : (j : ℕ) → j ≤ 12 → get_or tallies (suc j) 0 + length (below S h (with_new g (keyed c)) k v) < 4294967296

-- t is the array with the buckets of rs at the prefix v of k bits and below it counted besides
pub record CountedBelow (S : Shape) (h : List ℕ → ℕ) (rs : List Row) (k v : ℕ) (tallies t : List ℕ) : Type 0 where
  pub long : length t ≡ 14
  pub each : (j : ℕ) → j ≤ 12 → get_or t (suc j) 0 ≡ get_or tallies (suc j) 0 + buckets_at j (pages_below S h rs k v)

-- the rows of a page's slots from a up to b
abbrev pub slots : List ℕ → ℕ → ℕ → List Row
slots g a b = take (b - a) (drop a (map as_row (rows g)))

-- the rows ts can go behind those of the packed page p: in code order, and all fit
pub record Behind (p : List ℕ) (ts : List Row) : Type 0 where
  pub page : Slotted p
  pub packed : rows p ≡ pack_from 8 (map as_row (rows p))
  pub rising : Rising (λ r. r.code) (map as_row (rows p) ++ ts)
  pub fits : 8 + needs (map as_row (rows p) ++ ts) ≤ length p

-- q is p with the rows ts behind its own
pub record Appended (p : List ℕ) (ts : List Row) (q : List ℕ) : Type 0 where
  pub page : Slotted q
  pub size : length q ≡ length p
  pub deep : depth q ≡ depth p
  pub rows_of : rows q ≡ pack_from 8 (map as_row (rows p) ++ ts)

-- a new row that can go behind those of the packed page p
pub record Appendable (p c pl : List ℕ) : Type 0 where
  pub behind : Behind p (new_row c pl ∷ [])
  pub natural : Natural pl
  pub good : GoodCode c

-- a row can be appended to the page p, if its hash x begins with the k bits of v
pub record AppendableIf (h : List ℕ → ℕ) (p c pl : List ℕ) (x k v : ℕ) : Type 0 where
  pub behind : Behind p (rows_of h (new_row c pl ∷ []) k v)
  pub hash : x ≡ h c
  pub deep : k ≤ 12
  pub natural : Natural pl
  pub good : GoodCode c

-- the row in slot i of the page g can be appended to the page p, if its hash x begins with the k bits of v
pub record SlotAppendable (h : List ℕ → ℕ) (p g : List ℕ) (i x k v : ℕ) : Type 0 where
  pub behind : Behind p (rows_of h (as_row (row_at g i) ∷ []) k v)
  pub page : Slotted g
  pub slot : i < count g
  pub hash : x ≡ h (code g i)
  pub deep : k ≤ 12

-- the rows in the slots of g from a up to b, whose hashes are in ws, can be appended to the page p, those that begin with the k bits of v
pub record SlotsAppendable (h : List ℕ → ℕ) (p g : List ℕ) (ws : List Weight) (a b k v : ℕ) : Type 0 where
  pub behind : Behind p (rows_of h (slots g a b) k v)
  pub page : Slotted g
  pub hashes : Each h g (hashes_in ws)
  pub from : a ≤ b
  pub to : b ≤ count g
  pub deep : k ≤ 12

-- the page that is split, and the new row, whose code belongs at slot i
pub record Source (g : List ℕ) (i : ℕ) (c pl : List ℕ) : Type 0 where
  pub page : Slotted g
  pub belongs : Belongs g i c
  pub natural : Natural pl
  pub good : GoodCode c

-- of these rows those whose hashes, in ws, begin with the k bits of v fit the page p, and there is one
pub record Bucketable (h : List ℕ → ℕ) (g : List ℕ) (i : ℕ) (c pl : List ℕ) (ws : List Weight) (k v : ℕ) (p : List ℕ) : Type 0 where
  pub source : Source g i c pl
  pub hashes : Told h g c (hashes_in ws)
  pub deep : k ≤ 12
  pub least : 16 ≤ length p
  pub most : length p ≤ 16384
  pub some : 0 < needs (rows_of h (with_new g (new_row c pl)) k v)
  pub fits : 8 + needs (rows_of h (with_new g (new_row c pl)) k v) ≤ length p

-- q is a bucket written packed over p: of the rows rs those whose hashes begin with the k bits of v, in code order
pub record Bucketed (h : List ℕ → ℕ) (rs : List Row) (k v : ℕ) (p q : List ℕ) : Type 0 where
  pub page : BucketPage q
  pub size : length q ≡ length p
  pub deep : depth q ≡ k
  pub rows_of : rows q ≡ pack_from 8 (in_order (Rattle.partition.specs.Partition.rows_of h rs k v))

-- the place in the list of the page that is taken next: page at, or the lowest free page where at is 0
abbrev pub taken_next : List Page → ℕ → ℕ
taken_next gs zero = find is_free gs
taken_next gs (suc p) = suc p - 2

-- page at is for the first of ns: what is left of it then, 0 where that is written
abbrev pub untaken : ℕ → List Page → ℕ
untaken at [] = at
untaken at (n ∷ ns) = 0

-- page at is a bucket's, or it is 0 and a page is free
pub record PageComing (S : Shape) (s : List ℕ) (at : ℕ) : Type 0 where
  pub from : 0 < at → 2 ≤ at
  pub to : at < pages S s
  pub free : at ≡ 0 → 0 < frees (contents S s)

-- at every step, m of ns written and one to come, a page is free; but not for the first, where page at takes it
abbrev pub Room : List Page → ℕ → List Page → Type 0
Room gs at ns = (m : ℕ) → m < length ns → (0 < at → 0 < m) → 0 < frees (written gs (taken_next gs at) (take m ns))

-- page q of t is new, of a prefix that begins with the k bits of v: in s no bucket, but for page at; what it calls for in a directory of depth d names it
pub record NewPage (S : Shape) (h : List ℕ → ℕ) (s : List ℕ) (d k v at : ℕ) (t : List ℕ) (q : ℕ) : Type 0 where
  pub was : byte (page S s q) 0 ≡ 1 → q ≡ at
  pub deep : k ≤ depth (page S t q)
  pub calls : depth (page S t q) ≤ d → (i : ℕ) → CallsFor S h t d i q → Calls d k v i
  pub named : depth (page S t q) ≤ d → (i : ℕ) → CallsFor S h t d i q → entry_at S t i ≡ q

-- entry i of t names one
pub record NewEntry (S : Shape) (h : List ℕ → ℕ) (d k v n : ℕ) (t : List ℕ) (i : ℕ) : Type 0 where
  pub low : k ≤ d
  pub under : Calls d k v i
  pub from : 2 ≤ entry_at S t i
  pub to : entry_at S t i < n
  pub calls : CallsFor S h t d i (entry_at S t i)

-- each page and each entry of t is as in s or new; p is what is left of page at, and where that is left, t is s
pub record EntriesWritten (S : Shape) (h : List ℕ → ℕ) (s : List ℕ) (d k v at : ℕ) (t : List ℕ) (p : ℕ) : Type 0 where
  pub each : (q : ℕ) → 2 ≤ q → q < pages S s → (page S t q ≡ page S s q) ⊎ NewPage S h s d k v at t q
  pub entries : (i : ℕ) → i < S.entries → (entry_at S t i ≡ entry_at S s i) ⊎ NewEntry S h d k v (pages S s) t i
  pub at_page : 0 < at → p ≡ 0 → NewPage S h s d k v at t at
  pub left : 0 < p → (t ≡ s) × (p ≡ at)

-- a bucket's prefix, a directory of depth d, and p can be an entry
pub record NamingBucket (S : Shape) (s : List ℕ) (k v d p : ℕ) : Type 0 where
  pub prefix : PrefixIn S k v
  pub directory : DirectoryOf S s d
  pub word : p < 4294967296

-- the entries that the prefix v of k bits calls for are p, if the directory, of depth d, has entries for it
pub record NamedIf (S : Shape) (s : List ℕ) (d k v p : ℕ) (t : List ℕ) : Type 0 where
  pub low : k ≤ d → PrefixNamed S s d k v p t
  pub over : d < k → t ≡ s

-- there is room for them in the store s, the first in page at unless that is 0
pub record Writable (S : Shape) (h : List ℕ → ℕ) (rs : List Row) (k v : ℕ) (s : List ℕ) (at : ℕ) : Type 0 where
  pub prefix : PrefixIn S k v
  pub long : GoodLength S s
  pub sound : Rewritten S s s
  pub from : 0 < at → 2 ≤ at
  pub to : at < pages S s
  pub room : Room (contents S s) at (pages_below S h rs k v)

-- buckets that can be written of the rows of the page g, whose hashes and needs are in ws, and of the new row, which belongs at slot i; d is a depth that there is
pub record Spread (S : Shape) (h : List ℕ → ℕ) (d : ℕ) (s g : List ℕ) (i : ℕ) (c pl : List ℕ) (ws : List Weight) (k v at : ℕ) : Type 0 where
  pub depth : d ≤ S.deepest
  pub source : Source g i c pl
  pub weighed : Weighed h g c ws
  pub writable : Writable S h (with_new g (new_row c pl)) k v s at

-- t is s with the buckets below the prefix (k, v), the first in page at unless that is 0, each next in the lowest free page; p is what is left of page at; d is the directory's depth
pub record BucketsWritten (S : Shape) (h : List ℕ → ℕ) (d : ℕ) (rs : List Row) (k v : ℕ) (s : List ℕ) (at : ℕ) (t : List ℕ) (p : ℕ) : Type 0 where
  pub pages : Rewritten S s t
  pub held : contents S t ≡ written (contents S s) (taken_next (contents S s) at) (pages_below S h rs k v)
  pub then : p ≡ untaken at (pages_below S h rs k v)
  pub named : EntriesWritten S h s d k v at t p

-- a bucket of k bits is counted in the array, and page 0 can have its counts and a row more
pub record SplitCounted (s : List ℕ) (k : ℕ) (tallies : List ℕ) : Type 0 where
  pub room : 80 ≤ length s
  pub deep : k ≤ 12
  pub array : length tallies ≡ 14
  pub one : 1 ≤ get_or tallies (1 + k) 0
  pub few : le32 s 24 + 1 < 4294967296
