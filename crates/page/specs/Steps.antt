-- What the writes to a page do. Assumes nothing.
use Rattle.std.specs.Prelude.{ℕ, ◌+◌, ◌*◌, ◌-◌, ◌≤◌, ◌<◌, ◌≡◌, List, length, set}
use Rattle.ground.specs.Lists.{byte, part, insert_at, remove_at}
use Rattle.words.specs.Codes.{GoodCode}
use Rattle.words.specs.Moves.{Frame}
use Rattle.page.specs.Page.{Slotted, Belongs, Natural, rows, count, frontier, free, depth, slot_at, word, off, len, code}

-- a record written at f
pub record Recorded (p : List ℕ) (f : ℕ) (pl c q : List ℕ) : Type 0 where
  pub old : Frame p f (8 + length c) q
  pub placed : part q f 8 ≡ pl
  pub coded : part q (f + 8) (length c) ≡ c

-- there is room for one slot more than n, w is a slot word, and slot s is one of them or the next
pub record Openable (p : List ℕ) (n s w : ℕ) : Type 0 where
  pub within : s ≤ n
  pub room : 4 * (n + 1) ≤ length p
  pub word : w < 4294967296

-- of n slots those from s on moved down by one, and w in slot s
pub record Opened (p : List ℕ) (n s w : ℕ) (q : List ℕ) : Type 0 where
  pub old : Frame p (slot_at p n) (4 * (n + 1 - s)) q
  pub new : word q s ≡ w
  pub moved : (i : ℕ) → s ≤ i → i < n → word q (i + 1) ≡ word p i

-- p has a header, and count, frontier and free go into 16 bits each
pub record Headable (p : List ℕ) (n f r : ℕ) : Type 0 where
  pub header : 8 ≤ length p
  pub counted : n < 65536
  pub fronted : f < 65536
  pub freed : r < 65536

-- count, frontier and free set
pub record Headed (p : List ℕ) (n f r : ℕ) (q : List ℕ) : Type 0 where
  pub old : Frame p 2 6 q
  pub counted : count q ≡ n
  pub fronted : frontier q ≡ f
  pub freed : free q ≡ r

-- there is room at p's frontier for a row of code c, which belongs at slot s
pub record Insertable (p : List ℕ) (s : ℕ) (c pl : List ℕ) : Type 0 where
  pub page : Slotted p
  pub belongs : Belongs p s c
  pub natural : Natural pl
  pub good : GoodCode c
  pub fits : 12 + length c ≤ free p
  pub room : frontier p + 8 + length c + 4 * (count p + 1) ≤ length p

-- q is p with the row at the frontier, in slot s
pub record Inserted (p : List ℕ) (s : ℕ) (c pl q : List ℕ) : Type 0 where
  pub page : Slotted q
  pub long : length q ≡ length p
  pub deep : depth q ≡ depth p
  pub rows_of : rows q ≡ insert_at s (record { start = frontier p; place = pl; code = c }) (rows p)

-- r is the largest of 8 and n slots' record ends
pub record Top (p : List ℕ) (n r : ℕ) : Type 0 where
  pub least : 8 ≤ r
  pub most : (i : ℕ) → i < n → off p i + len p i ≤ r
  pub reached : 8 < r → (i : ℕ) × (i < n) × (off p i + len p i ≡ r)

-- of n slots those after s moved up by one, over slot s, and the last cleared
pub record Closed (p : List ℕ) (n s : ℕ) (q : List ℕ) : Type 0 where
  pub old : Frame p (length p - 4 * n) (4 * (n - s)) q
  pub moved : (i : ℕ) → s ≤ i → i + 1 < n → word q i ≡ word p (i + 1)
  pub gone : (k : ℕ) → length p - 4 * n ≤ k → k < length p - 4 * (n - 1) → byte q k ≡ 0

-- p has slot s
pub record Removable (p : List ℕ) (s : ℕ) : Type 0 where
  pub page : Slotted p
  pub within : s < count p

-- q is p without slot s; without its last row it is a page of no rows
pub record Removed (p : List ℕ) (s : ℕ) (q : List ℕ) : Type 0 where
  pub page : Slotted q
  pub long : length q ≡ length p
  pub deep : depth q ≡ depth p
  pub rows_of : rows q ≡ remove_at s (rows p)

-- p has slot s, and pl is a place of which no part is negative
pub record Overwritable (p : List ℕ) (s : ℕ) (pl : List ℕ) : Type 0 where
  pub page : Slotted p
  pub within : s < count p
  pub natural : Natural pl

-- q is p with the 8 bytes of place in slot s overwritten
pub record Overwritten (p : List ℕ) (s : ℕ) (pl q : List ℕ) : Type 0 where
  pub page : Slotted q
  pub long : length q ≡ length p
  pub deep : depth q ≡ depth p
  pub rows_of : rows q ≡ set (rows p) s (record { start = off p s; place = pl; code = code p s })
