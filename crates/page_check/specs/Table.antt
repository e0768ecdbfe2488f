-- The table of starts: a record's length at its start, zero elsewhere. Assumes nothing.
use Rattle.std.specs.Prelude.{Option, Some, None, ℕ, zero, suc, ◌+◌, ◌-◌, ◌/◌, ◌≤◌, ◌<◌, ◌≡◌, ◌⊎◌, List, [], ◌∷◌, length}
use Rattle.ground.specs.Lists.{byte, part}
use Rattle.words.specs.Codes.{Before}
use Rattle.words.specs.Zeros.{Zero}
use Rattle.page.specs.Page.{In, off, len, count, frontier}
use Rattle.page_check.specs.Rules.{HeadOk, NaturalAt, WordOk, Preceded, off_of, len_of, slot_of, prior}
use Rattle.words.specs.Big.{big}
use Rattle.page_check.specs.Leads.{Stretch, Led}

-- how many bytes are not zero
unfoldable pub entries : List ℕ → ℕ
entries [] = zero
entries (zero ∷ t) = entries t
entries (suc x ∷ t) = suc (entries t)

-- no two of the first n records start at one byte
abbrev pub Distinct : List ℕ → ℕ → Type 0
Distinct p n = (i j : ℕ) → i < n → j < n → off p i ≡ off p j → i ≡ j

-- the first n records end before f, and t has entries at their starts only; there are n exactly when no two start at one byte, and then each has its own
pub record Table (p : List ℕ) (n f : ℕ) (t : List ℕ) : Type 0 where
  pub short : (i : ℕ) → i < n → 9 ≤ len p i
  pub inside : (i : ℕ) → i < n → off p i + len p i ≤ f
  pub only : (k : ℕ) → (byte t k ≡ 0) ⊎ ((i : ℕ) × (i < n) × (off p i ≡ k) × (byte t k ≡ len p i))
  pub most : entries t ≤ n
  pub starts : entries t ≡ n → Distinct p n
  pub at : entries t ≡ n → (i : ℕ) → i < n → byte t (off p i) ≡ len p i
  pub full : Distinct p n → entries t ≡ n

-- a page whose header keeps its rules, of n rows and frontier f, and a table as long as it, of zeros
pub record HeadKnown (p t : List ℕ) (n f : ℕ) : Type 0 where
  pub head : HeadOk p
  pub rows : n ≡ count p
  pub front : f ≡ frontier p
  pub same : length t ≡ length p
  pub zero : Zero t

-- a page of frontier f, and a table as long as it, of its n records
pub record Tabled (p t : List ℕ) (n f : ℕ) : Type 0 where
  pub start : 17 ≤ f
  pub within : f ≤ length p
  pub same : length t ≡ length p
  pub table : Table p n f t

-- zeros from f on
abbrev pub Inside : ℕ → List ℕ → Type 0
Inside f t = (k : ℕ) → f ≤ k → byte t k ≡ 0

-- the first n records lie behind the header, no place has a negative part, no byte is in two of them, those in none are zero from 8 up to f, and a record ends at f
pub record Laid (p : List ℕ) (n f : ℕ) : Type 0 where
  pub after : (i : ℕ) → i < n → 8 ≤ off p i
  pub natural : (i : ℕ) → i < n → NaturalAt p (off p i)
  pub apart : (i j k : ℕ) → i < n → j < n → In p i k → In p j k → i ≡ j
  pub clear : (k : ℕ) → 8 ≤ k → k < f → ((i : ℕ) → i < n → In p i k → ⊥) → byte p k ≡ 0
  pub top : (i : ℕ) × (i < n) × (off p i + len p i ≡ f)

-- a slot lies at k, after others, and a code from x up to y
pub record Pair (p : List ℕ) (k x y : ℕ) : Type 0 where
  pub before : Preceded p k
  pub lies : Stretch p x y

-- the slot at k, in a page of frontier f, after a code of which lead tells
pub record Turn (p : List ℕ) (f k lead : ℕ) : Type 0 where
  pub before : Preceded p k
  pub led : Led p (prior p (slot_of p k)) lead
  pub room : f ≤ length p
  pub most : f ≤ 16384

-- slot i's word w: its own rules, in code order
pub record NextOk (p : List ℕ) (f i w : ℕ) : Type 0 where
  pub sound : WordOk f w
  pub rises : Before (prior p i) (part p (off_of w + 8) (len_of w - 8))

-- w is the word of a record of 16 to 72 bytes, and the first eight of its code, as one number, are r, above lead
pub record LeadOver (p : List ℕ) (lead w r : ℕ) : Type 0 where
  pub kind_one : w / 268435456 ≡ 1
  pub eight : 16 ≤ len_of w
  pub long : len_of w ≤ 72
  pub is : r ≡ big 8 p (off_of w + 8)
  pub over : lead < r

-- nothing is told just where slot i's word w breaks a rule; else r tells of w's code
abbrev pub NextTold : List ℕ → ℕ → ℕ → ℕ → Option ℕ → Type 0
NextTold p f i w None = NextOk p f i w → ⊥
NextTold p f i w (Some r) = NextOk p f i w × Led p (part p (off_of w + 8) (len_of w - 8)) r
