-- The customer's three demands at FNV-1a: for pages of each of the three sizes, and where each store says its own. Assumes nothing.
use Rattle.std.specs.Prelude.{◌≡◌, false, List, [], ◌∷◌, ◌↔◌, ℕ, ◌+◌, ◌-◌, ◌*◌, ◌/◌, ◌≤◌, ◌<◌, length, Result}
use Rattle.std.proofs.Math.Option.{Option, some, none}
use Rattle.ground.specs.Ladder.{Answers}
use Rattle.hash.specs.Fnv.{fnv}
use Rattle.words.specs.Folds.{fold}
use Rattle.partition.specs.Bits.{top}
use Rattle.partition.specs.declared.Shape.{Shape}
use Rattle.partition.specs.Partition.{Row, needs, rows_of, buckets}
use Rattle.partition.specs.Sizes.{size, S4096, S16384, shape_of}
use Rattle.page.specs.declared.Place.{Place}
use Rattle.page.specs.Places.{place_from, stored, Negative}
use Rattle.store.specs.declared.Done.{Done}
use Rattle.store.specs.declared.Refusal.{Refusal}
use Rattle.store.specs.Pages.{S1024, rows_held}
use Rattle.store.specs.Accepted.{GoodLength, Accepted}
use Rattle.store.specs.Tables.{Out, refused, formatted, new, replaced, meaning, row_table, inspect_table}
use Rattle.store.specs.Demands.{Call, format, put as a_put, Made, ok, surviving, GoodCode, Mode, map_of, Answered, WholePages, RefusedInOrder, FormatSucceeds, RefusalKeeps, OutputKept, CheckExact, LookupIsMap, PutIsMap, RemoveIsMap, PutRefused, EitherAsBefore, ListedOnce, CountIsSize, RowIsListed, InspectIsSlot, PlaceComesBack, AcceptedAgain, FormatAccepted, AfreshAlways, SameRefusals, KeptPages}
use Rattle.store.specs.Choice.{PutChooses, RemoveChooses}
use Rattle.store.specs.Spellings.{SameLot, StoredFolded}
use Rattle.any_size.specs.OwnSizes.{OwnDemands}

-- a finished promise: for every input the answer and each byte of store and output are settled, refused calls too; so is the enum's case
pub record Settled (S : Shape) : Type 0 where
  pub store : (c : Call) (s : List ℕ) (o o' : Out) (t t' : List ℕ) → Made S fnv c s o t → Made S fnv c s o' t' → (o ≡ o') × (t ≡ t')
  pub row : (s : List ℕ) (n : ℕ) (out : List ℕ) (a b : Out × List ℕ) → Answers (row_table S fnv s n out) a → Answers (row_table S fnv s n out) b → a ≡ b
  pub inspection : (g : List ℕ) (n : ℕ) (out : List ℕ) (a b : Out × List ℕ) → Answers (inspect_table S fnv g n out) a → Answers (inspect_table S fnv g n out) b → a ≡ b
  pub enum : (a b : Result Done Refusal) → meaning a ≡ meaning b → a ≡ b

-- 1. Any bytes may come as the store, any code, any row place. .. The store and the output buffer keep every byte. A page has z bytes, a directory e entries.
pub record First (S : Shape) (z e : ℕ) : Type 0 where
  pub answered : Answered S fnv
  pub settled : Settled S
  -- 1, 3, 4, 14, 8 and 2 come in this order, each exactly when; the lengths are 3 pages up to the entry count plus 2, in the rules' words too
  pub refused_in_order : RefusedInOrder S fnv
  pub format_succeeds : FormatSucceeds S fnv
  pub lengths : (s : List ℕ) → (WholePages S s ↔ ((n : ℕ) × (length s ≡ n * z) × (3 ≤ n) × (n ≤ e + 2))) × (GoodLength S s ↔ WholePages S s)
  pub store_kept : RefusalKeeps S fnv
  pub output_kept : OutputKept S fnv

-- the row that a put is given, its code folded
abbrev pub given : List ℕ → Place → Row
given c p = record { code = fold c; place = stored p }

-- the place that s has for a code
abbrev pub held : Shape → List ℕ → List ℕ → Option (List ℕ)
held S s c = map_of S s (fold c)

-- the rows of s with the row given, and what those of them need that share its first k bits
abbrev pub joining : Shape → List ℕ → List ℕ → Place → List Row
joining S s c p = given c p ∷ rows_held S s

abbrev pub near : Shape → ℕ → List ℕ → List ℕ → Place → ℕ
near S k s c p = needs (rows_of fnv (joining S s c p) k (top k (fnv (fold c))))

-- a put that is refused for nothing it is given: a code, a place and a mode as they must be
pub record Fair (c : List ℕ) (p : Place) (m : ℕ) : Type 0 where
  pub coded : GoodCode c
  pub placed : Negative p → ⊥
  pub moded : Mode m

-- put's answer on an accepted store: 3, 4, 14; for a known code 13 or its old place, for a new one 5, 6, 7 or new; each exactly when.
-- A page has z bytes, and depth is at most k.
pub record PutSays (S : Shape) (z k : ℕ) (s c : List ℕ) (p : Place) (m : ℕ) (o : Out) : Type 0 where
  pub three : (GoodCode c → ⊥) → o ≡ refused 3
  pub four : GoodCode c → Negative p → o ≡ refused 4
  pub fourteen : GoodCode c → (Negative p → ⊥) → (Mode m → ⊥) → o ≡ refused 14
  pub thirteen : Fair c p m → m ≡ 1 → (b : List ℕ) → held S s c ≡ some b → o ≡ refused 13
  pub known : Fair c p m → (m ≡ 1 → ⊥) → (b : List ℕ) → held S s c ≡ some b → o ≡ replaced (place_from b)
  pub five : Fair c p m → m ≡ 2 → held S s c ≡ none → o ≡ refused 5
  pub six : Fair c p m → (m ≡ 2 → ⊥) → held S s c ≡ none → z - 8 < near S k s c p → o ≡ refused 6
  pub seven : Fair c p m → (m ≡ 2 → ⊥) → held S s c ≡ none → near S k s c p ≤ z - 8 → length s / z - 2 < length (buckets S fnv (joining S s c p)) → o ≡ refused 7
  pub otherwise : Fair c p m → (m ≡ 2 → ⊥) → held S s c ≡ none → near S k s c p ≤ z - 8 → length (buckets S fnv (joining S s c p)) ≤ length s / z - 2 → o ≡ new

-- 2. The check accepts exactly the stores that document 01 describes. On an accepted store, lookup, put, remove and listing answer as a plain map from code to
-- row place, save that a put is refused exactly when the table says. Each row is listed once, and the store is accepted again afterwards.
pub record Second (S : Shape) (z k : ℕ) : Type 0 where
  pub check : CheckExact S fnv
  pub lookup : LookupIsMap S fnv
  pub put : PutIsMap S fnv
  pub remove : RemoveIsMap S fnv
  pub put_refused : PutRefused S fnv
  pub put_says : (s c : List ℕ) (p : Place) (m : ℕ) (o : Out) (t : List ℕ) → Accepted S fnv s → Made S fnv (a_put c p m) s o t → PutSays S z k s c p m o
  -- mode 0 behaves as before
  pub either_as_before : EitherAsBefore S fnv
  -- two spellings are the same lot; every stored and every listed code is folded
  pub same_lot : SameLot S fnv
  pub stored_folded : StoredFolded S fnv
  pub listed_once : ListedOnce S fnv
  pub count : CountIsSize S fnv
  pub row : RowIsListed S fnv
  pub inspection : InspectIsSlot S fnv
  pub places : PlaceComesBack S fnv
  pub accepted_again : AcceptedAgain S fnv
  pub format_accepted : FormatAccepted S fnv

-- 3. Format a store, then make any calls on it, refused ones among them. ..
pub record Third (S : Shape) : Type 0 where
  -- the rows that survive since the last accepted format: it begins anew, and a refused call changes nothing
  pub since_format : (rs : List Row) → surviving format formatted rs ≡ []
  pub refused_keeps : (c : Call) (o : Out) (rs : List Row) → ok o ≡ false → surviving c o rs ≡ rs
  -- the buckets, their depths, the rows in each, the directory entries that share each one and the listing are those worked out afresh from the rows that survive
  pub afresh : AfreshAlways S fnv
  -- two histories with the same surviving rows and the same store length refuse the same next put (of the same mode)
  pub same_refusals : SameRefusals S fnv
  -- in each call but format, a bucket whose rows and depth come out the same keeps its page and all its bytes
  pub kept_pages : KeptPages S fnv
  -- the pages that a put and a remove use: the old one, the lowest free ones in prefix order, the lowest of those joined
  pub put_pages : PutChooses S fnv
  pub remove_pages : RemoveChooses S fnv

-- all three, for pages of z bytes with e entries and depth k at most
pub record AtSize (S : Shape) (z e k : ℕ) : Type 0 where
  pub first : First S z e
  pub second : Second S z k
  pub third : Third S

pub record Promised : Type 0 where
  -- the fixed table: 256 and 8, 1,024 and 10, 4,096 and 12
  pub small : AtSize S1024 1024 256 8
  pub middle : AtSize S4096 4096 1024 10
  pub large : AtSize S16384 16384 4096 12
  -- each store says its own size, and a history may format to another
  pub own : OwnDemands fnv
  pub own_put_says : (s c : List ℕ) (p : Place) (m : ℕ) (o : Out) (t : List ℕ) → Accepted (shape_of s) fnv s → Made (shape_of s) fnv (a_put c p m) s o t
      → PutSays (shape_of s) (size (shape_of s)) (shape_of s).deepest s c p m o
