-- The call that fills in the counts of a store that has none: its table, and what it comes to. Assumes nothing.
use Rattle.std.specs.Prelude.{◌≡◌, false, List, [], ◌⊎◌, ◌↔◌, ℕ, ◌≤◌, ◌<◌, length}
use Rattle.ground.specs.Ladder.{Ladder, Answers, rung, given, ends, answer, refuse}
use Rattle.ground.specs.Lists.{byte}
use Rattle.words.specs.Moves.{Frame, Cleared}
use Rattle.partition.specs.declared.Shape.{Shape}
use Rattle.store.specs.Pages.{pages, page, dir_depth, entry_at, rows_held}
use Rattle.store.specs.Accepted.{Accepted, Broken, AcceptedBefore, BrokenBefore}
use Rattle.store.specs.Counts.{Counts}
use Rattle.store.specs.Tables.{Out, refused, refused_at, formatted, Refusal1}
use Rattle.store.specs.Demands.{Sized, WholePages, ok}

-- t is the store s but for the counts, bytes 24 to 79, which are true
pub record Filled (S : Shape) (s t : List ℕ) : Type 0 where
  pub byte_size : (k : ℕ) → byte t k < 256
  pub old : Frame s 24 56 t
  pub counts : Counts S t

-- answer and store: 1; 2 with the page that the old rules name; else the store is filled, and answered as a format is
unfoldable pub fill_table : Shape → (List ℕ → ℕ) → List ℕ → Ladder (Out × List ℕ)
fill_table S h s =
    refuse (Refusal1 S s) (refused 1, s)
    (rung (BrokenBefore S h s) (λ p. answer (refused_at 2 p, s))
    (given (AcceptedBefore S h s)
    (ends (λ r. (r.0 ≡ formatted) × Filled S s r.1))))

-- the bytes from 24 to 79 are zero
abbrev pub NoCounts : List ℕ → Type 0
NoCounts s = (k : ℕ) → 24 ≤ k → k < 80 → byte s k ≡ 0

-- the filled store: accepted, with the same rows, pages and directory, and it differs in these bytes only
pub record SameButCounts (S : Shape) (h : List ℕ → ℕ) (s t : List ℕ) : Type 0 where
  pub again : Accepted S h t
  pub long : length t ≡ length s
  pub rows : rows_held S t ≡ rows_held S s
  pub paged : (p : ℕ) → 2 ≤ p → p < pages S s → page S t p ≡ page S s p
  pub depth : dir_depth t ≡ dir_depth s
  pub entries : (i : ℕ) → entry_at S t i ≡ entry_at S s i
  pub bytes : (k : ℕ) → (k < 24) ⊎ (80 ≤ k) → byte t k ≡ byte s k

-- a result of the call on the store s
abbrev pub Fills : Shape → (List ℕ → ℕ) → List ℕ → Out → List ℕ → Type 0
Fills S h s o t = Answers (fill_table S h s) (o, t)

-- what the table comes to, at one page size and hash
pub record FillLaws (S : Shape) (h : List ℕ → ℕ) : Type 0 where
  -- any bytes have a result, and it settles the answer and every byte
  pub answered : (s : List ℕ) → ((k : ℕ) → byte s k < 256) → (o : Out) × ((t : List ℕ) × Fills S h s o t)
  pub settled : (s : List ℕ) (a b : Out × List ℕ) → Answers (fill_table S h s) a → Answers (fill_table S h s) b → a ≡ b
  -- 1 exactly for the length, 2 exactly with the page that the old rules name, filled exactly where the store meets them
  pub one : (s : List ℕ) (o : Out) (t : List ℕ) → Fills S h s o t → (o ≡ refused 1) ↔ (WholePages S s → ⊥)
  pub two : (s : List ℕ) (o : Out) (t : List ℕ) → Fills S h s o t → (p : ℕ) → (o ≡ refused_at 2 p) ↔ (WholePages S s × BrokenBefore S h s p)
  pub filled : (s : List ℕ) (o : Out) (t : List ℕ) → Fills S h s o t → (o ≡ formatted) ↔ AcceptedBefore S h s
  -- a refused call keeps every byte
  pub kept : (s : List ℕ) (o : Out) (t : List ℕ) → Fills S h s o t → ok o ≡ false → t ≡ s
  -- the filled store has the same rows, pages and directory and differs in these bytes only
  pub same : (s t : List ℕ) → Fills S h s formatted t → SameButCounts S h s t
  -- in other words: of a store without counts the old rules say what the check says of it with true ones; any other breaks them on page 0
  pub as_checked : (s t : List ℕ) → NoCounts s → Filled S s t → (AcceptedBefore S h s ↔ Accepted S h t) × ((p : ℕ) → BrokenBefore S h s p ↔ Broken S h t p)
  pub counted : (s : List ℕ) → (NoCounts s → ⊥) → BrokenBefore S h s 0
  -- an accepted store comes back from the same store without its counts
  pub back : (s t : List ℕ) → ((k : ℕ) → byte t k < 256) → Accepted S h t → Cleared t 24 80 s → Fills S h s formatted t
  -- a store whose counts are filled already is 2, page 0, unless it has no rows
  pub already : (s : List ℕ) → ((k : ℕ) → byte s k < 256) → Accepted S h s
      → (rows_held S s ≡ [] → Fills S h s formatted s) × ((rows_held S s ≡ [] → ⊥) → Fills S h s (refused_at 2 0) s)

-- for every page size, and whatever the hash
abbrev pub FillingShown : Type 0
FillingShown = (S : Shape) (h : List ℕ → ℕ) → Sized S → FillLaws S h
