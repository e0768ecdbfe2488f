-- A bucket page, read as it lies. Positions go by the page's length. Assumes nothing.
use Rattle.std.specs.Prelude.{ℕ, ◌+◌, ◌*◌, ◌-◌, ◌/◌, ◌%◌, ◌≤◌, ◌<◌, ◌≡◌, List, length}
use Rattle.ground.specs.Lists.{byte, part, tab, total}
use Rattle.words.specs.Le.{le16, le32}
use Rattle.words.specs.Codes.{Before}

-- the header
abbrev pub depth : List ℕ → ℕ
depth p = byte p 1

abbrev pub count : List ℕ → ℕ
count p = le16 p 2

abbrev pub frontier : List ℕ → ℕ
frontier p = le16 p 4

abbrev pub free : List ℕ → ℕ
free p = le16 p 6

-- slot i, from the page's end
abbrev pub slot_at : List ℕ → ℕ → ℕ
slot_at p i = length p - 4 * (i + 1)

unfoldable pub word : List ℕ → ℕ → ℕ
word p i = le32 p (slot_at p i)

unfoldable pub off : List ℕ → ℕ → ℕ
off p i = word p i % 16384

unfoldable pub len : List ℕ → ℕ → ℕ
len p i = word p i / 16384 % 16384

unfoldable pub kind : List ℕ → ℕ → ℕ
kind p i = word p i / 268435456

-- a slot's row: where it lies, its place and its code
pub record Record : Type 0 where
  pub start : ℕ
  pub place : List ℕ
  pub code : List ℕ

unfoldable pub place : List ℕ → ℕ → List ℕ
place p i = part p (off p i) 8

unfoldable pub code : List ℕ → ℕ → List ℕ
code p i = part p (off p i + 8) (len p i - 8)

abbrev pub row_at : List ℕ → ℕ → Record
row_at p i = record { start = off p i; place = place p i; code = code p i }

abbrev pub rows : List ℕ → List Record
rows p = tab (row_at p) (count p)

-- a row's need: 4 of slot and its record
abbrev pub slot_need : List ℕ → ℕ → ℕ
slot_need p i = 4 + len p i

-- byte k is of record i
pub record In (p : List ℕ) (i k : ℕ) : Type 0 where
  pub from : off p i ≤ k
  pub to : k < off p i + len p i

-- a place of which no part is negative
pub record Natural (s : List ℕ) : Type 0 where
  pub long : length s ≡ 8
  pub page : byte s 3 < 128
  pub slot : byte s 5 < 128
  pub volume : byte s 7 < 128

-- the rules of one page, of any number of rows (but for the hashes' shared bits)
pub record Slotted (p : List ℕ) : Type 0 where
  pub least : 16 ≤ length p
  pub most : length p ≤ 16384
  pub bytes : (k : ℕ) → byte p k < 256
  pub one : byte p 0 ≡ 1
  pub room : frontier p + 4 * count p ≤ length p
  pub kinds : (i : ℕ) → i < count p → kind p i ≡ 1
  pub short : (i : ℕ) → i < count p → 9 ≤ len p i
  pub long : (i : ℕ) → i < count p → len p i ≤ 72
  pub after : (i : ℕ) → i < count p → 8 ≤ off p i
  pub inside : (i : ℕ) → i < count p → off p i + len p i ≤ frontier p
  pub start : 8 ≤ frontier p
  pub empty : count p ≡ 0 → frontier p ≡ 8
  pub top : 1 ≤ count p → (i : ℕ) × (i < count p) × (off p i + len p i ≡ frontier p)
  pub places : (i : ℕ) → i < count p → Natural (place p i)
  pub apart : (i j k : ℕ) → i < count p → j < count p → In p i k → In p j k → i ≡ j
  pub ascending : (i j : ℕ) → i < j → j < count p → Before (code p i) (code p j)
  pub unused : free p + total (slot_need p) (count p) ≡ length p - 8
  pub clear : (k : ℕ) → 8 ≤ k → k + 4 * count p < length p → ((i : ℕ) → i < count p → In p i k → ⊥) → byte p k ≡ 0

-- a bucket page has a row
pub record BucketPage (p : List ℕ) : Type 0 where
  pub rules : Slotted p
  pub some : 1 ≤ count p

-- c belongs at slot s of p
pub record Belongs (p : List ℕ) (s : ℕ) (c : List ℕ) : Type 0 where
  pub within : s ≤ count p
  pub left : (i : ℕ) → i < s → Before (code p i) c
  pub right : (i : ℕ) → s ≤ i → i < count p → Before c (code p i)
