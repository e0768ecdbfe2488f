-- The customer's demands where each store says its own page size, for any hash: the laws over a size, at that one. Assumes nothing.
use Rattle.std.specs.Prelude.{◌≡◌, false, List, [], map, ◌↔◌, ◌⊎◌, ℕ, ◌+◌, ◌*◌, ◌≤◌, ◌<◌, length}
use Rattle.ground.specs.Ladder.{Answers}
use Rattle.words.specs.Le.{le32}
use Rattle.page.specs.Page.{Record}
use Rattle.page.specs.declared.Place.{Place}
use Rattle.partition.specs.declared.Shape.{Shape}
use Rattle.partition.specs.Partition.{Row, Reordered}
use Rattle.partition.specs.Sizes.{size, shape_for, shape_of}
use Rattle.store.specs.Pages.{S1024, pages, page, bucket, read, as_row, rows_held}
use Rattle.store.specs.Accepted.{Page0, Accepted}
use Rattle.store.specs.Moves.{pick}
use Rattle.store.specs.Tables.{Out, refused_at, formatted, Refusal1, PageSize, format_sized, row_table, inspect_table}
use Rattle.store.specs.Demands.{Hash, Call, format, check, count, lookup, remove, put, row_at, inspect, Made, ok, WholePages, Faults, in_turn, faults, ExactlyWhen, Given, CheckExact, LookupIsMap, PutIsMap, RemoveIsMap, PutRefused, EitherAsBefore, ListedOnce, CountIsSize, RowIsListed, InspectIsSlot, PlaceComesBack, surviving, Afresh}
use Rattle.store.specs.Choice.{PutChooses, RemoveChooses}

-- a format is given a page size; any other call is as it was
pub data SizedCall : Type 0 where
  format_to : ℕ → SizedCall
  on : Call → SizedCall

-- the size that a call goes by: inspection by its page's length, any other by what the store says
abbrev pub goes_by : Call → List ℕ → Shape
goes_by format s = shape_of s
goes_by check s = shape_of s
goes_by count s = shape_of s
goes_by (lookup c) s = shape_of s
goes_by (remove c) s = shape_of s
goes_by (put c p m) s = shape_of s
goes_by (row_at n out) s = shape_of s
goes_by (inspect g n out) s = shape_for (length g)

module _ (h : List ℕ → ℕ) where
  -- the call on the store s answers o and leaves the store t; there is no format without a size
  abbrev pub MadeSized : SizedCall → List ℕ → Out → List ℕ → Type 0
  MadeSized (format_to n) s o t = Answers (format_sized n s) (o, t)
  MadeSized (on c) s o t = (c ≡ format → ⊥) × Made (goes_by c s) h c s o t

  -- what can be wrong: with a format its size or the length, by that size; with another call as at the size that it goes by
  abbrev pub faults_sized : SizedCall → List ℕ → Faults
  faults_sized (format_to n) s = in_turn (PageSize n × WholePages (shape_for n) s → ⊥) ⊥ ⊥ ⊥ ⊥ (λ p. ⊥)
  faults_sized (on c) s = faults (goes_by c s) h c s

-- what can be given: any size; with another call as before
abbrev pub GivenSized : SizedCall → Type 0
GivenSized (format_to n) = Unit {0}
GivenSized (on c) = (c ≡ format → ⊥) × Given c

-- the numbers at 20 that stand for a size, written 0 for 1,024
abbrev pub SizeNumber : ℕ → Type 0
SizeNumber n = (n ≡ 0) ⊎ ((n ≡ 4096) ⊎ (n ≡ 16384))

-- ---- demand 1

pub record OwnFirst (h : List ℕ → ℕ) : Type 0 where
  -- each call has a result, and it settles the answer and every byte of store and output
  pub answered : (c : SizedCall) (s : List ℕ) → GivenSized c → (o : Out) × (t : List ℕ) × MadeSized h c s o t
  pub settled : (c : SizedCall) (s : List ℕ) (o o' : Out) (t t' : List ℕ) → MadeSized h c s o t → MadeSized h c s o' t' → (o ≡ o') × (t ≡ t')
  pub row_output : (s : List ℕ) (n : ℕ) (out : List ℕ) (a b : Out × List ℕ) → Answers (row_table (shape_of s) h s n out) a → Answers (row_table (shape_of s) h s n out) b → a ≡ b
  pub inspection_output : (g : List ℕ) (n : ℕ) (out : List ℕ) (a b : Out × List ℕ)
      → Answers (inspect_table (shape_for (length g)) h g n out) a → Answers (inspect_table (shape_for (length g)) h g n out) b → a ≡ b
  -- each number is given exactly when its fault is the first; a format without a fault succeeds
  pub refused_in_order : (c : SizedCall) (s : List ℕ) (o : Out) (t : List ℕ) → MadeSized h c s o t → ExactlyWhen (faults_sized h c s) o
  pub format_succeeds : (n : ℕ) (s : List ℕ) (o : Out) (t : List ℕ) → MadeSized h (format_to n) s o t → PageSize n → WholePages (shape_for n) s → o ≡ formatted
  -- a refused call keeps every byte of store and output
  pub store_kept : (c : SizedCall) (s : List ℕ) (o : Out) (t : List ℕ) → MadeSized h c s o t → ok o ≡ false → t ≡ s
  pub output_kept : (s : List ℕ) (n : ℕ) (out : List ℕ) (o : Out) (out' : List ℕ)
      → Answers (row_table (shape_of s) h s n out) (o, out') ⊎ Answers (inspect_table (shape_for (length s)) h s n out) (o, out') → ok o ≡ false → out' ≡ out
  -- under 24 bytes is always 1
  pub short_is_one : (s : List ℕ) → length s < 24 → Refusal1 (shape_of s) s
  -- a bad size number counts as 1,024 for the length, and breaks the rule of page 0, at every size
  pub bad_number : (s : List ℕ) → (SizeNumber (le32 s 20) → ⊥) → (shape_of s ≡ S1024) × ((n : ℕ) → Page0 (shape_for n) s → ⊥)
  -- so on whole pages of 1,024 bytes the check answers 2 with page 0
  pub bad_number_told : (s : List ℕ) (o : Out) (t : List ℕ) → (SizeNumber (le32 s 20) → ⊥) → WholePages S1024 s → MadeSized h (on check) s o t → o ≡ refused_at 2 0
  -- inspection takes a page of any of the three lengths, and no other
  pub three_lengths : (g : List ℕ) → (length g ≡ size (shape_for (length g))) ↔ PageSize (length g)

-- ---- demand 2

pub record OwnSecond (h : List ℕ → ℕ) : Type 0 where
  -- at the size that a store says: the check is exact, and the calls answer as a plain map
  pub check : (s : List ℕ) → CheckExact (shape_of s) h
  pub lookup : (s : List ℕ) → LookupIsMap (shape_of s) h
  pub put : (s : List ℕ) → PutIsMap (shape_of s) h
  pub remove : (s : List ℕ) → RemoveIsMap (shape_of s) h
  pub put_refused : (s : List ℕ) → PutRefused (shape_of s) h
  pub either_as_before : (s : List ℕ) → EitherAsBefore (shape_of s) h
  pub listed_once : (s : List ℕ) → ListedOnce (shape_of s) h
  pub count : (s : List ℕ) → CountIsSize (shape_of s) h
  pub row : (s : List ℕ) → RowIsListed (shape_of s) h
  pub inspection : (g : List ℕ) → InspectIsSlot (shape_for (length g)) h
  pub places : (s : List ℕ) → PlaceComesBack (shape_of s) h
  -- a store that is accepted at one of the three sizes says that size
  pub said : (n : ℕ) (s : List ℕ) → Accepted (shape_for n) h s → shape_of s ≡ shape_for n
  -- the store is accepted again afterwards, of the same size and length
  pub accepted_again : (c : Call) (s : List ℕ) (o : Out) (t : List ℕ) → Accepted (shape_of s) h s → MadeSized h (on c) s o t
      → Accepted (shape_of t) h t × (shape_of t ≡ shape_of s) × (length t ≡ length s)
  -- an accepted format makes an accepted store of the size given, without rows, whatever the store held and whatever size it was
  pub format_accepted : (n : ℕ) (s t : List ℕ) → MadeSized h (format_to n) s formatted t
      → PageSize n × (shape_of t ≡ shape_for n) × Accepted (shape_of t) h t × (rows_held (shape_of t) t ≡ []) × (length t ≡ length s)

-- ---- demand 3: format a store to a size, then make any calls, refused ones and formats to another size among them

-- the rows that a call leaves: none after an accepted format, whatever its size
abbrev pub surviving_sized : SizedCall → Out → List Row → List Row
surviving_sized (format_to n) o rs = pick (ok o) [] rs
surviving_sized (on c) o rs = surviving c o rs

-- a history with its surviving rows and its store, which says its size
pub data SizedHistory (h : List ℕ → ℕ) : List Row → List ℕ → Type 0 where
  starts : (n : ℕ) (s : List ℕ) {t : List ℕ} → MadeSized h (format_to n) s formatted t → SizedHistory h [] t
  goes_on : {rs : List Row} {s t : List ℕ} (c : SizedCall) (o : Out) → SizedHistory h rs s → MadeSized h c s o t → SizedHistory h (surviving_sized c o rs) t

pub record OwnThird (h : List ℕ → ℕ) : Type 0 where
  -- a history begins at each size and with each number of pages that it allows
  pub begins : (n : ℕ) → PageSize n → (m : ℕ) → 3 ≤ m → m ≤ (shape_for n).entries + 2 → (t : List ℕ) × SizedHistory h [] t × (shape_of t ≡ shape_for n) × (length t ≡ m * n)
  -- any history may go on with a format to a size of which its store is whole pages, and no row survives that
  pub anew : (rs : List Row) (s : List ℕ) → SizedHistory h rs s → (n : ℕ) → PageSize n → WholePages (shape_for n) s
      → (t : List ℕ) × MadeSized h (format_to n) s formatted t × SizedHistory h [] t × (shape_of t ≡ shape_for n) × (length t ≡ length s)
  -- a refused call changes nothing
  pub refused_keeps : (c : SizedCall) (o : Out) (rs : List Row) → ok o ≡ false → surviving_sized c o rs ≡ rs
  -- after any history the store is what is worked out afresh, at its own size, from the rows that survive
  pub afresh : (rs : List Row) (s : List ℕ) → SizedHistory h rs s → Afresh (shape_of s) h rs s
  -- two histories with the same surviving rows, page size and store length answer the same next put of the same mode alike
  pub same_refusals : (rs qs : List Row) (s t : List ℕ) → SizedHistory h rs s → SizedHistory h qs t → Reordered rs qs → shape_of s ≡ shape_of t → length s ≡ length t
      → (c : List ℕ) (p : Place) (m : ℕ) (o o' : Out) (s' t' : List ℕ) → MadeSized h (on (put c p m)) s o s' → MadeSized h (on (put c p m)) t o' t' → o ≡ o'
  -- in each call but format a bucket whose rows and depth come out the same keeps its page and all its bytes
  pub kept_pages : (c : Call) (s : List ℕ) (o : Out) (t : List ℕ) → Accepted (shape_of s) h s → MadeSized h (on c) s o t
      → (p q k : ℕ) (rs qs : List Record) → 2 ≤ p → p < pages (shape_of s) s → 2 ≤ q → q < pages (shape_of t) t
      → read (page (shape_of s) s p) ≡ bucket k rs → read (page (shape_of t) t q) ≡ bucket k qs → map as_row rs ≡ map as_row qs
      → (p ≡ q) × (page (shape_of s) s p ≡ page (shape_of t) t q)
  -- the pages that a put and a remove use
  pub put_pages : (s : List ℕ) → PutChooses (shape_of s) h
  pub remove_pages : (s : List ℕ) → RemoveChooses (shape_of s) h

-- all of it, for every hash
pub record OwnDemands (h : List ℕ → ℕ) : Type 0 where
  pub first : OwnFirst h
  pub second : OwnSecond h
  pub third : OwnThird h

abbrev pub AnySize : Type 0
AnySize = (h : List ℕ → ℕ) → Hash h → OwnDemands h
