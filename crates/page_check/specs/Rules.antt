-- The rules of a bucket page in the parts that the tests ask. Assumes nothing.
use Rattle.std.specs.Prelude.{ℕ, zero, suc, ◌+◌, ◌*◌, ◌-◌, ◌/◌, ◌%◌, ◌≤◌, ◌<◌, ◌≡◌, List, [], length}
use Rattle.ground.specs.Lists.{byte, part, total}
use Rattle.words.specs.Codes.{Before}
use Rattle.page.specs.Page.{off, len, count, frontier, free, code, word, slot_need}

-- the header: the page's size, byte 0, the row count, and a frontier past the first record and not past the slots
pub record HeadOk (p : List ℕ) : Type 0 where
  pub least : 16 ≤ length p
  pub most : length p ≤ 16384
  pub one : byte p 0 ≡ 1
  pub some : 1 ≤ count p
  pub start : 17 ≤ frontier p
  pub room : frontier p + 4 * count p ≤ length p

-- a place at o with no negative part
pub record NaturalAt (p : List ℕ) (o : ℕ) : Type 0 where
  pub page : byte p (o + 3) < 128
  pub slot : byte p (o + 5) < 128
  pub volume : byte p (o + 7) < 128

-- no sign in the eight bytes of a place as one number, the first the lowest
pub record NoSign (w : ℕ) : Type 0 where
  pub page : w / 2147483648 % 2 ≡ 0
  pub slot : w / 140737488355328 % 2 ≡ 0
  pub volume : w / 9223372036854775808 % 2 ≡ 0

-- a slot's word: offset in bits 0 to 13, record length in 14 to 27
abbrev pub off_of : ℕ → ℕ
off_of w = w % 16384

abbrev pub len_of : ℕ → ℕ
len_of w = w / 16384 % 16384

-- a slot's word, 1 in bits 28 to 31, and its record: 9 to 72 bytes that end before the frontier f
pub record WordOk (f w : ℕ) : Type 0 where
  pub kind_one : w / 268435456 ≡ 1
  pub short : 9 ≤ len_of w
  pub long : len_of w ≤ 72
  pub inside : off_of w + len_of w ≤ f

-- the code before slot i's, none before the first
abbrev pub prior : List ℕ → ℕ → List ℕ
prior p zero = []
prior p (suc i) = code p i

-- the number of the slot at k
abbrev pub slot_of : List ℕ → ℕ → ℕ
slot_of p k = (length p - k) / 4 - 1

-- a slot lies at k, after the header, and the records of the slots before it lie in the page
pub record Preceded (p : List ℕ) (k : ℕ) : Type 0 where
  pub start : 8 ≤ k
  pub at : k + 4 * (slot_of p k + 1) ≡ length p
  pub long : (i : ℕ) → i < slot_of p k → 8 ≤ len p i
  pub inside : (i : ℕ) → i < slot_of p k → off p i + len p i ≤ length p

-- w is the word of a record whose code is c
pub record Codes (p : List ℕ) (w : ℕ) (c : List ℕ) : Type 0 where
  pub long : 8 ≤ len_of w
  pub inside : off_of w + len_of w ≤ length p
  pub is : part p (off_of w + 8) (len_of w - 8) ≡ c

-- the slots with their records: each for itself, in code order, and the needs with total free
pub record SlotsOk (p : List ℕ) : Type 0 where
  pub words : (i : ℕ) → i < count p → WordOk (frontier p) (word p i)
  pub ascending : (i : ℕ) → i < count p → Before (prior p i) (code p i)
  pub unused : free p + total (slot_need p) (count p) ≡ length p - 8
