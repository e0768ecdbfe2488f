-- What a line asks. Assumes nothing.
use Rattle.std.specs.Prelude.{ℕ, ◌^◌, ◌<◌, ◌≡◌, ◌⊎◌, Option, Some, None, List, [], ◌∷◌, ◌++◌, length, ℤ}
use Rattle.ground.specs.Lists.{byte}
use Rattle.page.specs.declared.Place.{Place}
use Rattle.page.specs.Places.{InRange}
use Rattle.commands.specs.Numbers.{Decimal, Integer}
use Rattle.commands.specs.Codes.{Coded}
use Rattle.commands.specs.declared.Verb.{Verb}
use Rattle.commands.specs.declared.Verb.TheVariants.{Puts, Looks, Removes, Reports, Formats, Rows, Inspects}
use Rattle.commands.specs.declared.Command.{Command}
use Rattle.commands.specs.declared.Command.TheVariants.{Nothing, Unknown, Format, Put, Lookup, Remove, Count, Row, Listing, Check, Counts, Inspect, Report}

-- no byte of w is a space
abbrev pub Spaceless : List ℕ → Type 0
Spaceless w = (k : ℕ) → k < length w → byte w k ≡ 32 → ⊥

-- w is the word a, its first space, and b
pub record Parted (w a b : List ℕ) : Type 0 where
  pub line : w ≡ a ++ (32 ∷ b)
  pub first : Spaceless a

-- l is a word, a space, and a rest of which P holds
pub record BehindWord (l word : List ℕ) (P : List ℕ → Type 0) : Type 0 where
  pub rest : List ℕ
  pub line : l ≡ word ++ (32 ∷ rest)
  pub says : P rest

-- w is the three parts of a place, a space between each two
pub record Placed (D : ℤ → List ℕ → Type 0) (p : Place) (w : List ℕ) : Type 0 where
  pub page : List ℕ
  pub slot : List ℕ
  pub volume : List ℕ
  pub text : w ≡ page ++ (32 ∷ (slot ++ (32 ∷ volume)))
  pub is_page : D p.page page
  pub is_slot : D p.slot slot
  pub is_volume : D p.volume volume

-- a text is read as a place, or as none
abbrev pub Places : List ℕ → Option Place → Type 0
Places w (Some p) = Placed Integer p w
Places w None = (p : Place) → InRange p → Placed Integer p w → ⊥

-- w is a code, the first n bytes of k, and a place
pub record Putting (k : List ℕ) (n : ℕ) (p : Place) (w : List ℕ) : Type 0 where
  pub code : List ℕ
  pub after : BehindWord w code (Placed Integer p)
  pub coded : Coded code k n

-- w is a number of pages and their size
pub record PagesOf (n size : ℕ) (w : List ℕ) : Type 0 where
  pub pages : List ℕ
  pub are : Decimal n pages
  pub after : BehindWord w pages (Decimal size)

-- w is a number of pages, which are of 1,024 bytes where it has no size
abbrev pub Paged : ℕ → ℕ → List ℕ → Type 0
Paged n size w = (Decimal n w × (size ≡ 1024)) ⊎ PagesOf n size w

-- "format"
abbrev pub format_word : List ℕ
format_word = 102 ∷ 111 ∷ 114 ∷ 109 ∷ 97 ∷ 116 ∷ []

-- "put"
abbrev pub put_word : List ℕ
put_word = 112 ∷ 117 ∷ 116 ∷ []

-- "add"
abbrev pub add_word : List ℕ
add_word = 97 ∷ 100 ∷ 100 ∷ []

-- "move"
abbrev pub move_word : List ℕ
move_word = 109 ∷ 111 ∷ 118 ∷ 101 ∷ []

-- the word of a put by its mode: put takes either, add only a new code, move only a known one
abbrev pub PutBy : List ℕ → ℕ → Type 0
PutBy w m = ((m ≡ 0) × (w ≡ put_word)) ⊎ (((m ≡ 1) × (w ≡ add_word)) ⊎ ((m ≡ 2) × (w ≡ move_word)))

-- a line that puts by the mode m
pub record PutLine (k : List ℕ) (n : ℕ) (p : Place) (m : ℕ) (l : List ℕ) : Type 0 where
  pub word : List ℕ
  pub by : PutBy word m
  pub line : BehindWord l word (Putting k n p)

-- "lookup"
abbrev pub lookup_word : List ℕ
lookup_word = 108 ∷ 111 ∷ 111 ∷ 107 ∷ 117 ∷ 112 ∷ []

-- "remove"
abbrev pub remove_word : List ℕ
remove_word = 114 ∷ 101 ∷ 109 ∷ 111 ∷ 118 ∷ 101 ∷ []

-- "count"
abbrev pub count_word : List ℕ
count_word = 99 ∷ 111 ∷ 117 ∷ 110 ∷ 116 ∷ []

-- "row"
abbrev pub row_word : List ℕ
row_word = 114 ∷ 111 ∷ 119 ∷ []

-- "list"
abbrev pub list_word : List ℕ
list_word = 108 ∷ 105 ∷ 115 ∷ 116 ∷ []

-- "check"
abbrev pub check_word : List ℕ
check_word = 99 ∷ 104 ∷ 101 ∷ 99 ∷ 107 ∷ []

-- "counts"
abbrev pub counts_word : List ℕ
counts_word = 99 ∷ 111 ∷ 117 ∷ 110 ∷ 116 ∷ 115 ∷ []

-- "inspect"
abbrev pub inspect_word : List ℕ
inspect_word = 105 ∷ 110 ∷ 115 ∷ 112 ∷ 101 ∷ 99 ∷ 116 ∷ []

-- "report"
abbrev pub report_word : List ℕ
report_word = 114 ∷ 101 ∷ 112 ∷ 111 ∷ 114 ∷ 116 ∷ []

-- the line l asks the command; k begins with its code
abbrev pub Asks : List ℕ → List ℕ → Command → Type 0
Asks l k Nothing = (length l ≡ 0) ⊎ (byte l 0 ≡ 35)
Asks l k (Format n size) = BehindWord l format_word (Paged n size)
Asks l k (Put n p m) = PutLine k n p m l
Asks l k (Lookup n) = BehindWord l lookup_word (λ w. Coded w k n)
Asks l k (Remove n) = BehindWord l remove_word (λ w. Coded w k n)
Asks l k Count = l ≡ count_word
Asks l k (Row n) = BehindWord l row_word (Decimal n)
Asks l k Listing = l ≡ list_word
Asks l k Check = l ≡ check_word
Asks l k Counts = l ≡ counts_word
Asks l k (Inspect n) = BehindWord l inspect_word (Decimal n)
Asks l k Report = BehindWord l report_word (λ w. Unit {0})
Asks l k Unknown = ⊥

-- no number is too large for its field
abbrev pub WithinLimits : Command → Type 0
WithinLimits Nothing = Unit {0}
WithinLimits (Format n size) = (n < 2 ^ 64) × (size < 2 ^ 64)
WithinLimits (Put n p m) = InRange p
WithinLimits (Lookup n) = Unit {0}
WithinLimits (Remove n) = Unit {0}
WithinLimits Count = Unit {0}
WithinLimits (Row n) = n < 2 ^ 64
WithinLimits Listing = Unit {0}
WithinLimits Check = Unit {0}
WithinLimits Counts = Unit {0}
WithinLimits (Inspect n) = n < 2 ^ 64
WithinLimits Report = Unit {0}
WithinLimits Unknown = Unit {0}

-- the line asks nothing whose numbers fit, with a code no longer than k
abbrev pub AsksNothing : List ℕ → List ℕ → Type 0
AsksNothing l k = (j : List ℕ) (c : Command) → length j ≡ length k → WithinLimits c → Asks l j c → ⊥

-- what a line is taken for: the command that it asks, or unknown where it asks none
abbrev pub Means : List ℕ → List ℕ → Command → Type 0
Means l k Nothing = Asks l k Nothing
Means l k (Format n size) = Asks l k (Format n size)
Means l k (Put n p m) = Asks l k (Put n p m)
Means l k (Lookup n) = Asks l k (Lookup n)
Means l k (Remove n) = Asks l k (Remove n)
Means l k Count = Asks l k Count
Means l k (Row n) = Asks l k (Row n)
Means l k Listing = Asks l k Listing
Means l k Check = Asks l k Check
Means l k Counts = Asks l k Counts
Means l k (Inspect n) = Asks l k (Inspect n)
Means l k Report = Asks l k Report
Means l k Unknown = AsksNothing l k

-- a line that is neither empty nor passed over
pub record Spoken (l : List ℕ) : Type 0 where
  pub some : length l ≡ 0 → ⊥
  pub said : byte l 0 ≡ 35 → ⊥

-- the word of no command that takes a code or a name
pub record Uncoded (w : List ℕ) : Type 0 where
  pub put : (m : ℕ) → PutBy w m → ⊥
  pub lookup : w ≡ lookup_word → ⊥
  pub remove : w ≡ remove_word → ⊥
  pub report : w ≡ report_word → ⊥

-- what a word that stands before others asks for; it is the word of no command where that is none
abbrev pub Begins : List ℕ → Option Verb → Type 0
Begins w (Some (Puts m)) = PutBy w m
Begins w (Some Looks) = w ≡ lookup_word
Begins w (Some Removes) = w ≡ remove_word
Begins w (Some Reports) = w ≡ report_word
Begins w (Some Formats) = w ≡ format_word
Begins w (Some Rows) = w ≡ row_word
Begins w (Some Inspects) = w ≡ inspect_word
Begins w None = Uncoded w × (w ≡ format_word → ⊥) × (w ≡ row_word → ⊥) × (w ≡ inspect_word → ⊥)
