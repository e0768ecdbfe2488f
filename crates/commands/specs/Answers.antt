-- Answers as text. Assumes nothing.
use Rattle.std.specs.Prelude.{ℕ, ◌+◌, ◌≤◌, ◌≡◌, List, [], ◌∷◌, ◌++◌, length, take, get_or}
use Rattle.page.specs.declared.Place.{Place}
use Rattle.store.specs.Tables.{Out, refused, refused_at, formatted, accepted, new, replaced, found, counted, row}
use Rattle.commands.specs.Texts.{text}
use Rattle.commands.specs.Numbers.{decimal, integer}
use Rattle.commands.specs.Codes.{shown}
use Rattle.commands.specs.declared.Fault.{Fault}
use Rattle.commands.specs.declared.Fault.TheVariants.{Word, Escape, Range, Form, Long, Filled, Room}

-- q is p with the text w at `at`, up to r
pub record Adds (w p : List ℕ) (at : ℕ) (q : List ℕ) (r : ℕ) : Type 0 where
  pub next : r ≡ at + length w
  pub said : take r q ≡ take at p ++ w
  pub long : length q ≡ length p

-- the three parts of a place, a space between each two
abbrev pub placed : Place → List ℕ
placed p = integer p.page ++ (32 ∷ (integer p.slot ++ (32 ∷ integer p.volume)))

-- a row: its code and its place
abbrev pub rowed : List ℕ → Place → List ℕ
rowed c p = shown c ++ (32 ∷ placed p)

-- the reason, for each number of a refusal
abbrev pub reason : ℕ → List ℕ
reason n = get_or (
    text "" ∷
    text "no store has such a length or page size" ∷
    text "a rule of the store fails there" ∷
    text "a code has 1 to 64 bytes" ∷
    text "a part of the place is negative" ∷
    text "no such code" ∷
    text "no room for codes that hash like it" ∷
    text "no free page for its buckets" ∷
    text "the output is under 64 bytes" ∷
    text "not so many rows" ∷
    text "a rule of the sheet fails there" ∷
    text "a place is not in the sheet" ∷
    text "the runs differ in length" ∷
    text "the code is there" ∷
    text "no such mode" ∷
    []) n []

-- the number of the line, and the reason w
abbrev pub because : ℕ → List ℕ → List ℕ
because at w = text " line " ++ (decimal at ++ (text ": " ++ w))

-- a refusal by its number, and by the page that it carries
abbrev pub numbered : Out → List ℕ
numbered (refused n) = text "refused " ++ decimal n
numbered (refused_at n p) = text "refused " ++ (decimal n ++ (text " page " ++ decimal p))
numbered formatted = []
numbered accepted = []
numbered new = []
numbered (replaced p) = []
numbered (found p) = []
numbered (counted n) = []
numbered (row n p) = []

-- why a refusal is given
abbrev pub why : Out → List ℕ
why (refused n) = reason n
why (refused_at n p) = reason n
why formatted = []
why accepted = []
why new = []
why (replaced p) = []
why (found p) = []
why (counted n) = []
why (row n p) = []

-- what an answer means, as text; the line has the number `at`, and a row's code begins the buffer k
abbrev pub shows : List ℕ → ℕ → Out → List ℕ
shows k at (refused n) = numbered (refused n) ++ because at (why (refused n))
shows k at (refused_at n p) = numbered (refused_at n p) ++ because at (why (refused_at n p))
shows k at formatted = text "ok"
shows k at accepted = text "accepted"
shows k at new = text "new"
shows k at (replaced p) = text "replaced " ++ placed p
shows k at (found p) = placed p
shows k at (counted n) = decimal n
shows k at (row n p) = rowed (take n k) p

-- why a line is not obeyed, where no call was asked
abbrev pub faulty : ℕ → Fault → List ℕ
faulty at Word = text "unknown" ++ because at (text "no such command")
faulty at Escape = text "unknown" ++ because at (text "% wants two hexadecimal digits")
faulty at Range = text "unknown" ++ because at (text "a number is out of range")
faulty at Form = text "unknown" ++ because at (text "its words are not those of the command")
faulty at Long = text "unknown" ++ because at (text "over 4096 bytes")
faulty at Filled = text "refused" ++ because at (text "the file is not empty, say format N anew")
faulty at Room = text "refused" ++ because at (text "so large a store wants an empty file and a stack of 80 MB (ulimit -s 81920)")

-- out begins with the text w as a line, r bytes long
pub record Lines (w out : List ℕ) (r : ℕ) : Type 0 where
  pub said : take r out ≡ w ++ (10 ∷ [])
  pub within : r ≤ length out
