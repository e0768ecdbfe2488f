-- What a run makes of its store: one line's call after the other. A store is its bytes; room is how many the run's buffer has. Assumes nothing.
use Rattle.std.specs.Prelude.{◌≡◌, ℕ, ◌<◌, ◌≤◌, Bool, true, false, ◌⊎◌, List, [], ◌∷◌, ◌++◌, length, take}
use Rattle.commands.specs.SheetLines.{words_of}
use Rattle.commands.specs.Texts.{text}
use Rattle.ground.specs.Ladder.{Answers}
use Rattle.ground.specs.Says.{Says}
use Rattle.store.specs.Demands.{ok}
use Rattle.store.specs.Tables.{Out, format_sized}
use Rattle.text_lines.specs.Ends.{ended_after, unended_after, input_lines}
use Rattle.text_lines.specs.LineText.{spaced, text_of, TooLong}
use Rattle.text_lines.specs.Reading.{ReadSoFar}
use Rattle.lots.specs.declared.Outcome.{Outcome}
use Rattle.lots.specs.declared.Outcome.TheVariants.{Silent, Unknown, Told, Changed, Listed, Format as Formats, Stopped}
use Rattle.lots.specs.declared.Session.{Session}
use Rattle.lots.specs.Obeys.{Obeys}
use Rattle.lots.specs.Sessions.{Kept, LacksRoom, lent_for, Quiet, SessionHolds}

-- l is a format, w, with " anew" behind it
pub record Anew (l w : List ℕ) : Type 0 where
  pub word : take 7 w ≡ text "format "
  pub ends : l ≡ w ++ text " anew"

-- " anew" stands at the end of a format from r on; where r is the end of l, it does not
pub record BeforeAnew (l : List ℕ) (r : ℕ) : Type 0 where
  pub within : r ≤ length l
  pub cut : r < length l → Anew l (take r l)
  pub uncut : r ≡ length l → (w : List ℕ) → Anew l w → ⊥

-- w is l, or what stands before " anew" in a format
abbrev pub Without : List ℕ → List ℕ → Bool → Type 0
Without l w false = (w ≡ l) × ((v : List ℕ) → Anew l v → ⊥)
Without l w true = Anew l w

-- the line is done; a format is left to the session
abbrev pub Done : Outcome → Type 0
Done Silent = Unit {0}
Done Unknown = Unit {0}
Done (Told x) = Unit {0}
Done (Changed x) = Unit {0}
Done (Listed n) = Unit {0}
Done Stopped = Unit {0}
Done (Formats n size) = ⊥

-- a format of n pages of a size: the call answers on as many bytes, whatever they held, and makes a store of them unless it is refused
pub record FormatCall (room n size : ℕ) (a b : List ℕ) : Type 0 where
  pub lent : List ℕ
  pub long : length lent ≡ lent_for room n size
  pub answer : Out
  pub left : List ℕ
  pub made : Answers (format_sized size lent) (answer, left)
  pub refused : ok answer ≡ false → b ≡ a
  pub done : ok answer ≡ true → b ≡ left

-- a format of n pages of a size is due on the store a: it would clear nothing or anew is said, and room is not lacking
abbrev pub DueOn : ℕ → ℕ → ℕ → Bool → List ℕ → Type 0
DueOn room n size anew a = ((length a ≡ 0) ⊎ (anew ≡ true)) × (LacksRoom room n size → ⊥)

-- the command w, with anew behind it or not, makes the store b of the store a
pub data Commanded (room : ℕ) (w : List ℕ) (anew : Bool) (a b : List ℕ) : Type 0 where
  -- by its call
  obeyed : (o : Outcome) → Obeys w a o b → Done o → Commanded room w anew a b
  -- by a format's call
  formats : (n size : ℕ) → Obeys w a (Formats n size) a → DueOn room n size anew a → FormatCall room n size a b → Commanded room w anew a b
  -- not at all: a format that is not due
  held : (n size : ℕ) → Obeys w a (Formats n size) a → (DueOn room n size anew a → ⊥) → b ≡ a → Commanded room w anew a b

-- quit and help ask nothing of the store
abbrev pub Aside : List ℕ → Type 0
Aside l = (l ≡ text "quit") ⊎ (l ≡ text "help")

-- the text l makes the store b of the store a
pub data Did (room : ℕ) (l a b : List ℕ) : Type 0 where
  aside : Aside l → b ≡ a → Did room l a b
  asked : (Aside l → ⊥) → (w : List ℕ) (anew : Bool) → Without l w anew → Commanded room w anew a b → Did room l a b

-- the line l makes the store b of the store a: by its text, unless it is too long
pub data LineDid (room : ℕ) (l a b : List ℕ) : Type 0 where
  passed : TooLong 4096 l → b ≡ a → LineDid room l a b
  spoken : (TooLong 4096 l → ⊥) → Did room (text_of l) a b → LineDid room l a b

-- the line is quit
abbrev pub Quits : List ℕ → Type 0
Quits l = (TooLong 4096 l → ⊥) × (text_of l ≡ text "quit")

-- the lines, one after the other, make the last store of the first; whether one is quit, behind which none is read
pub data Chain (room : ℕ) : Bool → List (List ℕ) → List ℕ → List ℕ → Type 0 where
  none : {a : List ℕ} → Chain room false [] a a
  last : {l : List ℕ} {ls : List (List ℕ)} {a b : List ℕ} → Quits l → LineDid room l a b → Chain room true (l ∷ ls) a b
  next : {q : Bool} {l : List ℕ} {ls : List (List ℕ)} {a b c : List ℕ} → (Quits l → ⊥) → LineDid room l a b → Chain room q ls b c → Chain room q (l ∷ ls) a c

-- the text l from z with the buffer s to r with the buffer t
pub record Turned (l : List ℕ) (z : Session) (s : List ℕ) (r : Session) (t : List ℕ) : Type 0 where
  pub kept : Kept z s r t
  pub line : r.line ≡ z.line
  pub quit : z.quit ≡ false → Says r.quit (l ≡ text "quit")
  pub did : Did (length s) l (take z.len s) (take r.len t)

-- from z with the buffer s to r with the buffer t by a line whose words, with one blank between, are w, unless it is over the room for them
pub record WordsTurned (over : Bool) (w : List ℕ) (z : Session) (s : List ℕ) (r : Session) (t : List ℕ) : Type 0 where
  pub kept : Kept z s r t
  pub line : r.line ≡ z.line
  pub passed : over ≡ true → (r.quit ≡ z.quit) × (take r.len t ≡ take z.len s)
  pub quit : over ≡ false → z.quit ≡ false → (l : List ℕ) → w ≡ spaced (words_of l) → Says r.quit (text_of l ≡ text "quit")
  pub did : over ≡ false → (l : List ℕ) → w ≡ spaced (words_of l) → Did (length s) (text_of l) (take z.len s) (take r.len t)

-- from z with the buffer s to r with the buffer t by the line that was read into the buffer p; the next one begins
pub record LineTurned (p : List ℕ) (z : Session) (s : List ℕ) (r : Session) (t : List ℕ) : Type 0 where
  pub kept : Kept z s r t
  pub line : (q : List ℕ) → ReadSoFar q r.line []
  pub quit : z.quit ≡ false → (l : List ℕ) → ReadSoFar p z.line l → Says r.quit (Quits l)
  pub did : (l : List ℕ) → ReadSoFar p z.line l → LineDid (length s) l (take z.len s) (take r.len t)

-- from z with the buffer s to r with the buffer t by the lines that the bytes i end, with w read before them: all, unless the run was stopped; what no line feed ends is in the buffer q
pub record Fed (w i : List ℕ) (z : Session) (s : List ℕ) (r : Session) (t q : List ℕ) : Type 0 where
  pub done : List (List ℕ)
  pub left : List (List ℕ)
  pub lines : ended_after w i ≡ done ++ left
  pub whole : r.stopped ≡ false → left ≡ []
  pub chain : Chain (length s) r.quit done (take z.len s) (take r.len t)
  pub begun : r.stopped ≡ false → r.quit ≡ false → ReadSoFar q r.line (unended_after w i)

-- the bytes i are fed to a session that reads: whatever was read of a line before them, they go on with it
pub record Feeds (i : List ℕ) (z : Session) (s p : List ℕ) (r : Session) (t q : List ℕ) : Type 0 where
  pub kept : Kept z s r t
  pub fits : r.line.fill ≤ length q
  pub fed : z.quit ≡ false → (w : List ℕ) → ReadSoFar p z.line w → Fed w i z s r t q

-- some bytes were read, whichever they are, and are fed to the session
pub record Brought (z : Session) (s p : List ℕ) (r : Session) (t q : List ℕ) : Type 0 where
  pub bytes : List ℕ
  pub feeds : Feeds bytes z s p r t q

-- The whole input on the first len bytes of s: the calls of its lines, up to quit, unless the run was stopped before. Where r is quiet the bytes are as they were.
pub record Ran (len : ℕ) (s : List ℕ) (r : Session) (t : List ℕ) : Type 0 where
  pub same : Quiet r → t ≡ s
  pub long : Quiet r → r.len ≡ len
  pub holds : SessionHolds r t
  pub input : List ℕ
  pub done : List (List ℕ)
  pub left : List (List ℕ)
  pub lines : input_lines input ≡ done ++ left
  pub whole : r.stopped ≡ false → left ≡ []
  pub chain : Chain (length s) r.quit done (take len s) (take r.len t)
