-- A whole tender in one call: what it is lent, the puts that it asks for, and its table. Assumes nothing.
use Rattle.std.specs.Prelude.{◌≡◌, List, [], ◌∷◌, ℕ, zero, suc, ◌+◌, length, take, drop}
use Rattle.ground.specs.Ladder.{Ladder, Answers, refuse, ends}
use Rattle.words.specs.Folds.{fold}
use Rattle.partition.specs.declared.Shape.{Shape}
use Rattle.partition.specs.Partition.{Row}
use Rattle.partition.specs.Listing.{without}
use Rattle.page.specs.declared.Place.{Place}
use Rattle.page.specs.Places.{stored}
use Rattle.store.specs.Tables.{Out, refused, refused_at, formatted, accepted, new, replaced, found, counted, row, Refusal1, Refusal14, checked, put_table}
use Rattle.batch.specs.PlaceWords.{word_place}

-- what a batch is lent besides the store: codes end to end, a run of lengths, a run of row places, and a run of answer numbers to fill
pub record Runs : Type 0 where
  pub codes : List ℕ
  pub lengths : List ℕ
  pub places : List ℕ
  pub answers : List ℕ

abbrev pub runs : List ℕ → List ℕ → List ℕ → List ℕ → Runs
runs codes lengths places answers = record { codes = codes; lengths = lengths; places = places; answers = answers }

abbrev pub sum : List ℕ → ℕ
sum [] = 0
sum (n ∷ ns) = n + sum ns

-- the runs are of one length, and the lengths add up to the code bytes
pub record GoodRuns (b : Runs) : Type 0 where
  pub places : length b.places ≡ length b.lengths
  pub answers : length b.answers ≡ length b.lengths
  pub codes : sum b.lengths ≡ length b.codes

-- 12: the runs differ in length or the lengths don't add up to the code bytes
abbrev pub Refusal12 : Runs → Type 0
Refusal12 b = GoodRuns b → ⊥

-- a put that a batch asks for
pub record Wanted : Type 0 where
  pub code : List ℕ
  pub place : Place

-- the puts that the runs ask for: of the code bytes as many as the length says, at the place of the word
unfoldable pub wanted : List ℕ → List ℕ → List ℕ → List Wanted
wanted codes [] words = []
wanted codes (n ∷ ns) [] = []
wanted codes (n ∷ ns) (w ∷ words) = record { code = take n codes; place = word_place w } ∷ wanted (drop n codes) ns words

-- the answer number of a put: 0 for new or replaced, else the refusal's
abbrev pub number : Out → ℕ
number (refused n) = n
number (refused_at n p) = n
number formatted = 0
number accepted = 0
number new = 0
number (replaced p) = 0
number (found p) = 0
number (counted n) = 0
number (row n p) = 0

-- the put w of mode m on the store s has the answer number n and leaves t
pub record OnePut (S : Shape) (h : List ℕ → ℕ) (m : ℕ) (w : Wanted) (s : List ℕ) (n : ℕ) (t : List ℕ) : Type 0 where
  pub out : Out
  pub made : Answers (put_table S h s w.code w.place m) (out, t)
  pub is : n ≡ number out

-- the same puts made one by one, refused ones included: their answer numbers, and the store that they leave
pub data OneByOne (S : Shape) (h : List ℕ → ℕ) (m : ℕ) : List Wanted → List ℕ → List ℕ → List ℕ → Type 0 where
  none_left : {s : List ℕ} → OneByOne S h m [] s [] s
  and_then : {w : Wanted} {l : List Wanted} {s t u : List ℕ} {n : ℕ} {ns : List ℕ} → OnePut S h m w s n t → OneByOne S h m l t ns u → OneByOne S h m (w ∷ l) s (n ∷ ns) u

-- answer, store and answer numbers; a batch that is taken is answered as a store is by the check
unfoldable pub batch_table : Shape → (List ℕ → ℕ) → List ℕ → Runs → ℕ → Ladder (Out × (List ℕ × List ℕ))
batch_table S h s b m =
    refuse (Refusal1 S s) (refused 1, (s, b.answers))
    (refuse (Refusal12 b) (refused 12, (s, b.answers))
    (refuse (Refusal14 m) (refused 14, (s, b.answers))
    (checked S h s (λ o. (o, (s, b.answers)))
    (ends (λ r. (r.0 ≡ accepted) × OneByOne S h m (wanted b.codes b.lengths b.places) s r.1.1 r.1.0)))))

-- the rows that a put leaves, by its answer number
abbrev pub left_by : ℕ → Wanted → List Row → List Row
left_by zero w rs = record { code = fold w.code; place = stored w.place } ∷ without (λ q. q.code) (fold w.code) rs
left_by (suc n) w rs = rs

-- the rows that survive a batch, by its answer numbers
abbrev pub survivors : List Wanted → List ℕ → List Row → List Row
survivors [] ns rs = rs
survivors (w ∷ l) [] rs = rs
survivors (w ∷ l) (n ∷ ns) rs = survivors l ns (left_by n w rs)
