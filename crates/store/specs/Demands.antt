-- The customer's demands, as statements on the tables that every call promises. Assumes nothing.
use Rattle.std.specs.Prelude.{◌≡◌, refl, Bool, true, false, List, [], ◌∷◌, map, ◌↔◌, ◌⊎◌, ℕ, zero, suc, ◌+◌, ◌*◌, ◌^◌, ◌≤◌, ◌<◌, length}
use Rattle.std.proofs.Common.{arith}
use Rattle.std.proofs.Math.Option.{Option, some, none}
use Rattle.std.proofs.Math.ListN.{get_elem?}
use Rattle.ground.specs.Lists.{byte, tab}
use Rattle.page.specs.Page.{Record, depth, rows}
use Rattle.partition.specs.declared.Shape.{Shape}
pub use Rattle.partition.specs.Sizes.{Sized}
use Rattle.partition.specs.Sizes.{shape_at, shape_of}
use Rattle.partition.specs.Partition.{Row, Prefix, Reordered, rows_of, buckets, depth_of, entry}
use Rattle.page.specs.declared.Place.{Place}
use Rattle.ground.specs.Ladder.{Answers}
pub use Rattle.words.specs.Codes.{GoodCode}
use Rattle.words.specs.Codes.{order}
use Rattle.words.specs.Folds.{fold}
use Rattle.partition.specs.Listing.{by, without, in_order, listing, place_of, Once}
use Rattle.store.specs.Pages.{S1024, size, pages, page, Page, free, bucket, read, as_row, rows_held, dir_depth, entry_at}
use Rattle.store.specs.Accepted.{Zero, Bucket, Page0From, Page0, Page0Before, Page1, Stands, Parted, Deepest, Accepted}
use Rattle.store.specs.Counts.{Counts}
use Rattle.store.specs.Moves.{pick}
use Rattle.page.specs.Places.{place_from, stored, Negative, InRange}
use Rattle.store.specs.Tables.{Out, refused, refused_at, formatted, accepted, new, replaced, found, counted, row, Refusal6, Refusal7, format_table, check_table, count_table, lookup_table, put_table, put_before, remove_table, row_table, inspect_table}

-- a function from codes to 32 bits
abbrev pub Hash : (List ℕ → ℕ) → Type 0
Hash h = (c : List ℕ) → h c < 2 ^ 32

-- a call with what it is given: a code, a place, a mode, n and an output; inspection takes a page of its own, any bytes
pub data Call : Type 0 where
  format check count : Call
  lookup remove : List ℕ → Call
  put : List ℕ → Place → ℕ → Call
  row_at : ℕ → List ℕ → Call
  inspect : List ℕ → ℕ → List ℕ → Call

module _ (S : Shape) (h : List ℕ → ℕ) where
  -- the call on the store s answers o and leaves the store t
  abbrev pub Made : Call → List ℕ → Out → List ℕ → Type 0
  Made format s o t = Answers (format_table S s) (o, t)
  Made check s o t = Answers (check_table S h s) o × (t ≡ s)
  Made count s o t = Answers (count_table S h s) o × (t ≡ s)
  Made (lookup c) s o t = Answers (lookup_table S h s c) o × (t ≡ s)
  Made (remove c) s o t = Answers (remove_table S h s c) (o, t)
  Made (put c p m) s o t = Answers (put_table S h s c p m) (o, t)
  Made (row_at n out) s o t = ((out' : List ℕ) × Answers (row_table S h s n out) (o, out')) × (t ≡ s)
  Made (inspect g n out) s o t = ((out' : List ℕ) × Answers (inspect_table S h g n out) (o, out')) × (t ≡ s)

-- not a refusal
abbrev pub ok : Out → Bool
ok (refused n) = false
ok (refused_at n p) = false
ok formatted = true
ok accepted = true
ok new = true
ok (replaced p) = true
ok (found p) = true
ok (counted n) = true
ok (row n p) = true

-- ---- demand 1: any bytes may come; what is wrong with them has its number, and a refused call keeps every byte of store and output

-- what a put expects: 0 either, 1 only a new code, 2 only a known one
abbrev pub Mode : ℕ → Type 0
Mode m = (m ≡ 0) ⊎ ((m ≡ 1) ⊎ (m ≡ 2))

-- a store is whole pages, 3 at least, at most the entries and 2
abbrev pub WholePages : Shape → List ℕ → Type 0
WholePages S s = (n : ℕ) × (length s ≡ n * size S) × (3 ≤ n) × (n ≤ S.entries + 2)

-- the pages from 2 up to n, without n
abbrev pub Below : ℕ → (ℕ → Type 0) → Type 0
Below n Keeps = (q : ℕ) → 2 ≤ q → q < n → Keeps q

-- The check stops at page p, the first that breaks a rule: page 0; page 1; pages 2 upward; again upward; page 0 for its depth; last, page 0 for its counts.
pub data StopsAt (S : Shape) (h : List ℕ → ℕ) (s : List ℕ) : ℕ → Type 0 where
  page_0 : (Page0 S s → ⊥) → StopsAt S h s 0
  page_1 : Page0 S s → (Page1 S s → ⊥) → StopsAt S h s 1
  first_pass : Page0 S s → Page1 S s → (p : ℕ) → 2 ≤ p → p < pages S s → Below p (Stands S h s) → (Stands S h s p → ⊥) → StopsAt S h s p
  second_pass : Page0 S s → Page1 S s → Below (pages S s) (Stands S h s)
      → (p : ℕ) → 2 ≤ p → p < pages S s → Below p (Parted S h s) → (Parted S h s p → ⊥) → StopsAt S h s p
  depth_0 : Page0 S s → Page1 S s → Below (pages S s) (Stands S h s) → Below (pages S s) (Parted S h s) → (Deepest S s → ⊥) → StopsAt S h s 0
  counts : Page0 S s → Page1 S s → Below (pages S s) (Stands S h s) → Below (pages S s) (Parted S h s) → Deepest S s → (Counts S s → ⊥) → StopsAt S h s 0

-- inspection carries page number 0, for a page that is neither free nor a bucket of a depth that there is
abbrev pub NoPage : Shape → (List ℕ → ℕ) → List ℕ → ℕ → Type 0
NoPage S h g p = (p ≡ 0) × (Zero g → ⊥) × (Bucket h g → depth g ≤ S.deepest → ⊥)

-- what can be wrong with what a call is given, in the order of the refusals: 1, 3, 4, 14, 8 and, with its page, 2
pub record Faults : Type 1 where
  pub bad_length : Type 0
  pub bad_code : Type 0
  pub bad_place : Type 0
  pub bad_mode : Type 0
  pub short_output : Type 0
  pub bad_page : ℕ → Type 0

abbrev pub in_turn : Type 0 → Type 0 → Type 0 → Type 0 → Type 0 → (ℕ → Type 0) → Faults
in_turn l c p m o g = record { bad_length = l; bad_code = c; bad_place = p; bad_mode = m; short_output = o; bad_page = g }

-- by which calls: 1 by all, 3 by lookup, put and remove, 4 and 14 by put, 8 by row at place n and inspection, 2 by all but format
abbrev pub faults : Shape → (List ℕ → ℕ) → Call → List ℕ → Faults
faults S h format s = in_turn (WholePages S s → ⊥) ⊥ ⊥ ⊥ ⊥ (λ p. ⊥)
faults S h check s = in_turn (WholePages S s → ⊥) ⊥ ⊥ ⊥ ⊥ (StopsAt S h s)
faults S h count s = in_turn (WholePages S s → ⊥) ⊥ ⊥ ⊥ ⊥ (StopsAt S h s)
faults S h (lookup c) s = in_turn (WholePages S s → ⊥) (GoodCode c → ⊥) ⊥ ⊥ ⊥ (StopsAt S h s)
faults S h (remove c) s = in_turn (WholePages S s → ⊥) (GoodCode c → ⊥) ⊥ ⊥ ⊥ (StopsAt S h s)
faults S h (put c p m) s = in_turn (WholePages S s → ⊥) (GoodCode c → ⊥) (Negative p) (Mode m → ⊥) ⊥ (StopsAt S h s)
faults S h (row_at n out) s = in_turn (WholePages S s → ⊥) ⊥ ⊥ ⊥ (length out < 64) (StopsAt S h s)
faults S h (inspect g n out) s = in_turn (length g ≡ size S → ⊥) ⊥ ⊥ ⊥ (length out < 64) (NoPage S h g)

-- each number given exactly when its fault is the first
pub record ExactlyWhen (w : Faults) (o : Out) : Type 0 where
  pub one : (o ≡ refused 1) ↔ w.bad_length
  pub three : (o ≡ refused 3) ↔ ((w.bad_length → ⊥) × w.bad_code)
  pub four : (o ≡ refused 4) ↔ ((w.bad_length → ⊥) × (w.bad_code → ⊥) × w.bad_place)
  pub fourteen : (o ≡ refused 14) ↔ ((w.bad_length → ⊥) × (w.bad_code → ⊥) × (w.bad_place → ⊥) × w.bad_mode)
  pub eight : (o ≡ refused 8) ↔ ((w.bad_length → ⊥) × (w.bad_code → ⊥) × (w.bad_place → ⊥) × (w.bad_mode → ⊥) × w.short_output)
  pub two : (p : ℕ) → (o ≡ refused_at 2 p)
      ↔ ((w.bad_length → ⊥) × (w.bad_code → ⊥) × (w.bad_place → ⊥) × (w.bad_mode → ⊥) × (w.short_output → ⊥) × w.bad_page p)

module _ (S : Shape) (h : List ℕ → ℕ) where
  -- of any call, over all bytes
  abbrev pub RefusedInOrder : Type 0
  RefusedInOrder = (c : Call) (s : List ℕ) (o : Out) (t : List ℕ) → Made S h c s o t → ExactlyWhen (faults S h c s) o

  -- format is refused by its length alone, whatever the store held
  abbrev pub FormatSucceeds : Type 0
  FormatSucceeds = (s : List ℕ) (o : Out) (t : List ℕ) → Made S h format s o t → WholePages S s → o ≡ formatted

  -- of any call
  abbrev pub RefusalKeeps : Type 0
  RefusalKeeps = (c : Call) (s : List ℕ) (o : Out) (t : List ℕ) → Made S h c s o t → ok o ≡ false → t ≡ s

  -- of the two calls that are lent an output
  abbrev pub OutputKept : Type 0
  OutputKept = (s : List ℕ) (n : ℕ) (out : List ℕ) (o : Out) (out' : List ℕ) → Answers (row_table S h s n out) (o, out') ⊎ Answers (inspect_table S h s n out) (o, out') → ok o ≡ false → out' ≡ out

-- what can be given: a code of bytes, a place in its ranges, any mode
abbrev pub Given : Call → Type 0
Given format = Unit {0}
Given check = Unit {0}
Given count = Unit {0}
Given (lookup c) = Unit {0}
Given (remove c) = Unit {0}
Given (put c p m) = ((k : ℕ) → byte c k < 256) × InRange p
Given (row_at n out) = Unit {0}
Given (inspect g n out) = Unit {0}

-- each call has a result, whatever the store
abbrev pub Answered : Shape → (List ℕ → ℕ) → Type 0
Answered S h = (c : Call) (s : List ℕ) → Given c → (o : Out) × (t : List ℕ) × Made S h c s o t

-- ---- demand 2: on an accepted store the calls answer as a plain map from code to row place

-- the map from code to row place
abbrev pub map_of : Shape → List ℕ → List ℕ → Option (List ℕ)
map_of S s c = place_of (rows_held S s) c

-- the map with c set
unfoldable pub update : (List ℕ → Option (List ℕ)) → List ℕ → Option (List ℕ) → List ℕ → Option (List ℕ)
unfolding order
update m c b x = by (order x c) (m x) b (m x)

-- the code at the start of the output, the bytes after it left
pub record AtStart (c out out' : List ℕ) : Type 0 where
  pub long : length out' ≡ length out
  pub start : (k : ℕ) → k < length c → byte out' k ≡ byte c k
  pub left : (k : ℕ) → length c ≤ k → byte out' k ≡ byte out k

-- element n of the rows, counted from 0: its length and place, and its code in the output; 9 where n is not below their number
pub record Nth (rs : List Row) (n : ℕ) (out : List ℕ) (o : Out) (out' : List ℕ) : Type 0 where
  pub is : (r : Row) → get_elem? rs n ≡ some r → (o ≡ row (length r.code) (place_from r.place)) × AtStart r.code out out'
  pub past : length rs ≤ n → (o ≡ refused 9) × (out' ≡ out)

-- what lookup and remove answer: the map's place, or 5
abbrev pub answer_of : Option (List ℕ) → Out
answer_of none = refused 5
answer_of (some b) = found (place_from b)

-- what put answers: new, or replaced with the old place
abbrev pub put_answer : Option (List ℕ) → Out
put_answer none = new
put_answer (some b) = replaced (place_from b)

module _ (S : Shape) (h : List ℕ → ℕ) where
  -- the check accepts exactly the stores that keep the rules
  abbrev pub CheckExact : Type 0
  CheckExact = (s : List ℕ) → (Made S h check s accepted s ↔ Accepted S h s)

  -- lookup answers the map's place, 5 where there is none
  abbrev pub LookupIsMap : Type 0
  LookupIsMap = (s c : List ℕ) (o : Out) (t : List ℕ) → Accepted S h s → Made S h (lookup c) s o t → GoodCode c → o ≡ answer_of (map_of S s (fold c))

  -- a put that is not refused sets its code, one that is changes nothing
  abbrev pub PutIsMap : Type 0
  PutIsMap = (s c : List ℕ) (p : Place) (m : ℕ) (o : Out) (t : List ℕ) → Accepted S h s → Made S h (put c p m) s o t
      → (ok o ≡ true → (o ≡ put_answer (map_of S s (fold c))) × ((x : List ℕ) → map_of S t x ≡ update (map_of S s) (fold c) (some (stored p)) x))
      × (ok o ≡ false → t ≡ s)

  -- remove answers as lookup does, and the map afterwards is the map without the code
  abbrev pub RemoveIsMap : Type 0
  RemoveIsMap = (s c : List ℕ) (o : Out) (t : List ℕ) → Accepted S h s → Made S h (remove c) s o t → GoodCode c
      → (o ≡ answer_of (map_of S s (fold c))) × ((x : List ℕ) → map_of S t x ≡ update (map_of S s) (fold c) none x)

  -- what the table refuses a put on an accepted store for
  pub data Refuses (s c : List ℕ) (p : Place) (m : ℕ) : Type 0 where
    no_code : (GoodCode c → ⊥) → Refuses s c p m
    negative : Negative p → Refuses s c p m
    no_mode : (Mode m → ⊥) → Refuses s c p m
    known : m ≡ 1 → (old : List ℕ) → map_of S s (fold c) ≡ some old → Refuses s c p m
    absent : m ≡ 2 → map_of S s (fold c) ≡ none → Refuses s c p m
    prefix_full : map_of S s (fold c) ≡ none → Refusal6 S h (rows_held S s) (record { code = fold c; place = stored p }) → Refuses s c p m
    pages_full : map_of S s (fold c) ≡ none → Refusal7 S h s (rows_held S s) (record { code = fold c; place = stored p }) → Refuses s c p m

  -- it is refused exactly when the table says
  abbrev pub PutRefused : Type 0
  PutRefused = (s c : List ℕ) (p : Place) (m : ℕ) (o : Out) (t : List ℕ) → Accepted S h s → Made S h (put c p m) s o t → ((ok o ≡ false) ↔ Refuses s c p m)

  -- mode 0 answers as before, and leaves the same bytes
  abbrev pub EitherAsBefore : Type 0
  EitherAsBefore = (s c : List ℕ) (p : Place) (x : Out × List ℕ) → (Answers (put_table S h s c p 0) x ↔ Answers (put_before S h s c p) x)

  -- no code is stored twice; the listing holds each row once, and is the map
  abbrev pub ListedOnce : Type 0
  ListedOnce = (s : List ℕ) → Accepted S h s → let l : List Row = listing S h (rows_held S s) in
      Once l × Reordered (rows_held S s) l × ((c : List ℕ) → place_of l c ≡ map_of S s c)

  -- so the listing's length is the map's size, and the count of rows
  abbrev pub CountIsSize : Type 0
  CountIsSize = (s : List ℕ) (o : Out) (t : List ℕ) → Accepted S h s → Made S h count s o t → o ≡ counted (length (listing S h (rows_held S s)))

  -- row at place n is element n of the listing
  abbrev pub RowIsListed : Type 0
  RowIsListed = (s : List ℕ) (n : ℕ) (out : List ℕ) (o : Out) (out' : List ℕ) → Accepted S h s → 64 ≤ length out → Answers (row_table S h s n out) (o, out')
      → Nth (listing S h (rows_held S s)) n out o out'

  -- inspection is slot n of a bucket page; 9 on a free page
  abbrev pub InspectIsSlot : Type 0
  InspectIsSlot = (g : List ℕ) (n : ℕ) (out : List ℕ) (o : Out) (out' : List ℕ) → length g ≡ size S → 64 ≤ length out → Answers (inspect_table S h g n out) (o, out')
      → (Zero g → (o ≡ refused 9) × (out' ≡ out))
      × (Bucket h g → depth g ≤ S.deepest → Nth (map as_row (rows g)) n out o out')

  -- a place comes back from its 8 bytes, and what the map holds is such bytes
  abbrev pub PlaceComesBack : Type 0
  PlaceComesBack = ((p : Place) → InRange p → (Negative p → ⊥) → place_from (stored p) ≡ p)
      × ((s c b : List ℕ) → Accepted S h s → map_of S s c ≡ some b → GoodCode c × (stored (place_from b) ≡ b))

  -- the store is accepted again afterwards
  abbrev pub AcceptedAgain : Type 0
  AcceptedAgain = (c : Call) (s : List ℕ) (o : Out) (t : List ℕ) → Accepted S h s → Made S h c s o t → Accepted S h t × (length t ≡ length s)

  -- an accepted format makes an accepted store without rows, whatever the store held
  abbrev pub FormatAccepted : Type 0
  FormatAccepted = (s t : List ℕ) → Made S h format s formatted t → Accepted S h t × (rows_held S t ≡ []) × (length t ≡ length s)

-- ---- demand 3: format a store, then make any calls, refused ones among them

-- the rows that a call leaves, if it is not refused
abbrev pub rows_after : Call → List Row → List Row
rows_after format rs = []
rows_after check rs = rs
rows_after count rs = rs
rows_after (lookup c) rs = rs
rows_after (remove c) rs = without (λ q. q.code) (fold c) rs
rows_after (put c p m) rs = record { code = fold c; place = stored p } ∷ without (λ q. q.code) (fold c) rs
rows_after (row_at n out) rs = rs
rows_after (inspect g n out) rs = rs

-- a refused call leaves the rows as they were
abbrev pub surviving : Call → Out → List Row → List Row
surviving c o rs = pick (ok o) (rows_after c rs) rs

-- a history with its surviving rows and its store
pub data History (S : Shape) (h : List ℕ → ℕ) : List Row → List ℕ → Type 0 where
  begin : (s : List ℕ) {t : List ℕ} → Made S h format s formatted t → History S h [] t
  next : {rs : List Row} {s t : List ℕ} (c : Call) (o : Out) → History S h rs s → Made S h c s o t → History S h (surviving c o rs) t

-- a bucket as an entry shows it: its depth, and its rows in code order
abbrev pub Seen : Type 0
Seen = Option (ℕ × List Row)

abbrev pub seen : Page → Seen
seen free = none
seen (bucket k rs) = some (k, map as_row rs)

abbrev pub named : Shape → List ℕ → ℕ → Seen
named S s zero = none
named S s (suc p) = seen (read (page S s (suc p)))

-- what each directory entry below 2^d names
abbrev pub directory : Shape → List ℕ → List Seen
directory S s = tab (λ i. named S s (entry_at S s i)) (2 ^ dir_depth s)

-- what a directory entry names, worked out afresh from rows
abbrev pub seen_afresh : (List ℕ → ℕ) → List Row → Option Prefix → Seen
seen_afresh h rs none = none
seen_afresh h rs (some p) = some (p.bits, in_order (rows_of h rs p.bits p.value))

abbrev pub afresh : Shape → (List ℕ → ℕ) → List Row → List Seen
afresh S h rs = let d : ℕ = depth_of (buckets S h rs) in tab (λ i. seen_afresh h rs (entry (buckets S h rs) d i)) (2 ^ d)

-- s is what is worked out afresh from rs
pub record Afresh (S : Shape) (h : List ℕ → ℕ) (rs : List Row) (s : List ℕ) : Type 0 where
  pub keeps : Accepted S h s
  pub same : Reordered (rows_held S s) rs
  pub once : Once rs
  pub depth : dir_depth s ≡ depth_of (buckets S h rs)
  pub buckets_and_entries : directory S s ≡ afresh S h rs
  pub listed : listing S h (rows_held S s) ≡ listing S h rs

module _ (S : Shape) (h : List ℕ → ℕ) where
  -- after any history the store is what is worked out afresh from the rows that survive
  abbrev pub AfreshAlways : Type 0
  AfreshAlways = (rs : List Row) (s : List ℕ) → History S h rs s → Afresh S h rs s

  -- two histories with the same surviving rows and store length answer the same next put of the same mode alike
  abbrev pub SameRefusals : Type 0
  SameRefusals = (rs qs : List Row) (s t : List ℕ) → History S h rs s → History S h qs t → Reordered rs qs → length s ≡ length t
      → (c : List ℕ) (p : Place) (m : ℕ) (o o' : Out) (s' t' : List ℕ) → Made S h (put c p m) s o s' → Made S h (put c p m) t o' t' → o ≡ o'

  -- in each call but format a bucket whose rows and depth come out the same keeps its page and all its bytes
  abbrev pub KeptPages : Type 0
  KeptPages = (c : Call) (s : List ℕ) (o : Out) (t : List ℕ) → (c ≡ format → ⊥) → Accepted S h s → Made S h c s o t
      → (p q k : ℕ) (rs qs : List Record) → 2 ≤ p → p < pages S s → 2 ≤ q → q < pages S t
      → read (page S s p) ≡ bucket k rs → read (page S t q) ≡ bucket k qs → map as_row rs ≡ map as_row qs
      → (p ≡ q) × (page S s p ≡ page S t q)

-- all of it, for every page size and every hash
abbrev pub Demand1 : Type 0
Demand1 = (S : Shape) (h : List ℕ → ℕ) → RefusedInOrder S h × FormatSucceeds S h × RefusalKeeps S h × OutputKept S h

abbrev pub Demand2 : Type 0
Demand2 = (S : Shape) (h : List ℕ → ℕ) → Sized S → Hash h
    → CheckExact S h × LookupIsMap S h × PutIsMap S h × RemoveIsMap S h × PutRefused S h × ListedOnce S h × CountIsSize S h × RowIsListed S h × InspectIsSlot S h
    × PlaceComesBack S h × AcceptedAgain S h × FormatAccepted S h × EitherAsBefore S h

abbrev pub Demand3 : Type 0
Demand3 = (S : Shape) (h : List ℕ → ℕ) → Sized S → Hash h → AfreshAlways S h × SameRefusals S h × KeptPages S h

-- an accepted store says which of the three sizes it has
abbrev pub SizeIsSaid : Type 0
SizeIsSaid = (k : ℕ) → k < 3 → (h : List ℕ → ℕ) (s : List ℕ) → Accepted (shape_at k) h s → shape_of s ≡ shape_at k

-- at 1,024 the old rule of page 0 is the one before there were sizes
abbrev pub SmallAsBefore : Type 0
SmallAsBefore = (s : List ℕ) → (Page0From 24 S1024 s ↔ Page0Before s)

pub sized_1024 : Sized S1024
sized_1024 = record { whole = refl; deep = refl; least = omega arith; most = omega arith }
