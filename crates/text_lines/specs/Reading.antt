-- A line as far as it is read into a buffer. Assumes nothing.
use Rattle.std.specs.Prelude.{ℕ, ◌≤◌, ◌≡◌, Bool, true, false, cond, List, [], ◌∷◌, ◌++◌, eqb, length, take, drop}
use Rattle.ground.specs.Says.{Says}
use Rattle.commands.specs.SheetLines.{words_of}
use Rattle.text_lines.specs.Ends.{behind_last}
use Rattle.text_lines.specs.LineText.{is_blank, spaced, text_of, TooLong}
use Rattle.text_lines.specs.declared.LineRead.{LineRead}

-- the word that a line ends with; none behind a blank
abbrev pub last_word : List ℕ → List ℕ
last_word l = behind_last is_blank [] l

-- how many blanks go before the next byte of a word, behind n bytes: one where a word was ended
abbrev pub gap_before : Bool → ℕ → ℕ
gap_before false n = 0
gap_before true n = cond (eqb n 0) 0 1

-- the buffer p has the line l so far, its words with one blank between, unless that is too long
pub record ReadSoFar (p : List ℕ) (g : LineRead) (l : List ℕ) : Type 0 where
  pub within : g.fill ≤ length p
  pub words : g.over ≡ false → take g.fill p ≡ spaced (words_of l)
  pub blank : g.over ≡ false → Says g.blank (last_word l ≡ [])
  pub long : g.over ≡ true → TooLong (length p) l

-- a byte of a word, for a line that is not too long
pub record WordByte (p : List ℕ) (g : LineRead) (b : ℕ) : Type 0 where
  pub within : g.fill ≤ length p
  pub room : g.over ≡ false
  pub word : is_blank b ≡ false

-- one byte b more: whatever line was read so far, it is read with that byte
pub record ByteRead (p : List ℕ) (g : LineRead) (b : ℕ) (q : List ℕ) (r : LineRead) : Type 0 where
  pub fits : r.fill ≤ length q
  pub more : (l : List ℕ) → ReadSoFar p g l → ReadSoFar q r (l ++ (b ∷ []))

-- from r on the words of a line, with one blank between, are its text
pub record TextFrom (t : List ℕ) (r : ℕ) : Type 0 where
  pub within : r ≤ length t
  pub text : (l : List ℕ) → t ≡ spaced (words_of l) → drop r t ≡ text_of l
