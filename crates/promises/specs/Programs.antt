-- Programs, and the wrong ones that the documents want turned away. Each store says its page size; any hash. Assumes nothing.
use Rattle.std.specs.Prelude.{◌≡◌, true, false, List, [], ℕ, ◌<◌, length}
use Rattle.ground.specs.Ladder.{Answers}
use Rattle.ground.specs.Lists.{byte}
use Rattle.words.specs.Folds.{Folded}
use Rattle.partition.specs.Bits.{top}
use Rattle.partition.specs.Partition.{Row, needs}
use Rattle.partition.specs.Listing.{listing}
use Rattle.page.specs.declared.Place.{Place}
use Rattle.page.specs.Places.{InRange}
use Rattle.partition.specs.Sizes.{shape_of}
use Rattle.store.specs.Pages.{dir_depth, rows_held}
use Rattle.store.specs.Accepted.{Accepted}
use Rattle.store.specs.Tables.{Out, new, found, counted, format_sized, check_table, count_table, lookup_table, put_table, remove_table, row_table}
use Rattle.store.specs.Demands.{ok}
use Rattle.any_size.specs.OwnSizes.{SizedHistory}

-- what a program answers to each call, with the store or output it leaves
pub record Program : Type 0 where
  pub format : ℕ → List ℕ → Out × List ℕ
  pub check : List ℕ → Out
  pub count : List ℕ → Out
  pub lookup : List ℕ → List ℕ → Out
  pub put : List ℕ → List ℕ → Place → ℕ → Out × List ℕ
  pub remove : List ℕ → List ℕ → Out × List ℕ
  pub row : List ℕ → ℕ → List ℕ → Out × List ℕ

-- every number of a list is a byte
abbrev pub Bytes : List ℕ → Type 0
Bytes l = (k : ℕ) → byte l k < 256

-- a program whose calls keep the promises of the tables
pub record Meets (h : List ℕ → ℕ) (P : Program) : Type 0 where
  pub formats : (n : ℕ) (s : List ℕ) → Bytes s → Answers (format_sized n s) (P.format n s)
  pub checks : (s : List ℕ) → Bytes s → Answers (check_table (shape_of s) h s) (P.check s)
  pub counts : (s : List ℕ) → Bytes s → Answers (count_table (shape_of s) h s) (P.count s)
  pub looks : (s c : List ℕ) → Bytes s → Bytes c → Answers (lookup_table (shape_of s) h s c) (P.lookup s c)
  pub puts : (s c : List ℕ) (p : Place) (m : ℕ) → Bytes s → Bytes c → InRange p → Answers (put_table (shape_of s) h s c p m) (P.put s c p m)
  pub removes : (s c : List ℕ) → Bytes s → Bytes c → Answers (remove_table (shape_of s) h s c) (P.remove s c)
  pub rows : (s : List ℕ) (n : ℕ) (out : List ℕ) → Bytes s → Bytes out → Answers (row_table (shape_of s) h s n out) (P.row s n out)

-- one that refuses every put
abbrev pub RefusesEveryPut : Program → Type 0
RefusesEveryPut P = (s c : List ℕ) (p : Place) (m : ℕ) → ok (P.put s c p m).0 ≡ false

-- one that replaces silently: where only a new code is expected it does as where either is
abbrev pub ReplacesSilently : Program → Type 0
ReplacesSilently P = (s c : List ℕ) (p : Place) → P.put s c p 1 ≡ P.put s c p 0

-- lookup with one fixed place
abbrev pub OneFixedPlace : Program → Type 0
OneFixedPlace P = (q : Place) × ((s c : List ℕ) (p : Place) → P.lookup s c ≡ found p → p ≡ q)

-- a listing that repeats one row
abbrev pub RepeatsOneRow : Program → Type 0
RepeatsOneRow P = (s : List ℕ) (n m : ℕ) (out : List ℕ) → ok (P.row s n out).0 ≡ true → ok (P.row s m out).0 ≡ true → P.row s n out ≡ P.row s m out

-- a remove that only answers
abbrev pub OnlyAnswers : Program → Type 0
OnlyAnswers P = (s c : List ℕ) → (P.remove s c).1 ≡ s

-- a put that stores the first row and then only says "new"
abbrev pub StoresOnlyTheFirst : Program → Type 0
StoresOnlyTheFirst P = (s c : List ℕ) (p : Place) (m : ℕ) → (rows_held (shape_of s) s ≡ [] → ⊥) → (P.put s c p m).0 ≡ new → (P.put s c p m).1 ≡ s

-- a count of rows that is not the map's size, on some accepted store
abbrev pub Miscounts : (List ℕ → ℕ) → Program → Type 0
Miscounts h P = (s : List ℕ) × Bytes s × Accepted (shape_of s) h s × (P.count s ≡ counted (length (listing (shape_of s) h (rows_held (shape_of s) s))) → ⊥)

-- one bucket for everything: a put never gives a store a second directory entry
abbrev pub OneBucket : Program → Type 0
OneBucket P = (s c : List ℕ) (p : Place) (m : ℕ) → dir_depth s ≡ 0 → dir_depth (P.put s c p m).1 ≡ 0

-- fourteen codes of 64 bytes and without a capital, whose rows do not fit together on 1,024 bytes: the hashes of thirteen begin with 0, that of the last with 1
pub record Parting (h : List ℕ → ℕ) : Type 0 where
  pub code : ℕ → List ℕ
  pub long : (i : ℕ) → i < 14 → length (code i) ≡ 64
  pub small : (i : ℕ) → i < 14 → Bytes (code i)
  pub folded : (i : ℕ) → i < 14 → Folded (code i)
  pub apart : (i j : ℕ) → i < j → j < 14 → code i ≡ code j → ⊥
  pub zeros : (i : ℕ) → i < 13 → top 1 (h (code i)) ≡ 0
  pub one : top 1 (h (code 13)) ≡ 1

-- a program that keeps the tables is none of these
pub record TurnedAway (h : List ℕ → ℕ) (P : Program) : Type 0 where
  pub refuses_every_put : RefusesEveryPut P → ⊥
  pub replaces_silently : ReplacesSilently P → ⊥
  pub one_fixed_place : OneFixedPlace P → ⊥
  pub repeats_one_row : RepeatsOneRow P → ⊥
  pub only_answers : OnlyAnswers P → ⊥
  pub stores_only_the_first : StoresOnlyTheFirst P → ⊥
  pub miscounts : Miscounts h P → ⊥
  -- under a hash that has such codes
  pub one_bucket : Parting h → OneBucket P → ⊥
  -- under any hash rows that do not fit together have a second directory entry
  pub more_than_one_bucket : (rs : List Row) (t : List ℕ) → SizedHistory h rs t → (shape_of t).capacity < needs rs → 0 < dir_depth t
