-- The text of a line: its words with one blank between, without a byte-order mark in front. Assumes nothing.
use Rattle.std.specs.Prelude.{ℕ, ◌≤◌, ◌<◌, ◌≡◌, Bool, false, cond, List, [], ◌∷◌, ◌++◌, eqb, length, drop}
use Rattle.ground.specs.Lists.{byte}
use Rattle.commands.specs.SheetLines.{blank_kind, word_then, words_of}

-- a space, a tab or a carriage return
abbrev pub is_blank : ℕ → Bool
is_blank b = eqb (blank_kind b) 1

-- words, each behind a blank
unfoldable pub behind_blanks : List (List ℕ) → List ℕ
behind_blanks [] = []
behind_blanks (w ∷ ws) = 32 ∷ (w ++ behind_blanks ws)

-- words with one blank between
unfoldable pub spaced : List (List ℕ) → List ℕ
spaced [] = []
spaced (w ∷ ws) = w ++ behind_blanks ws

-- a word without the byte-order mark EF BB BF that it begins with, if it does
unfoldable pub behind_mark : List ℕ → List ℕ
behind_mark w = cond (eqb (byte w 0) 239) (cond (eqb (byte w 1) 187) (cond (eqb (byte w 2) 191) (drop 3 w) w) w) w

-- words without a byte-order mark in front of the first, and without that word where it is nothing else
unfoldable pub markless : List (List ℕ) → List (List ℕ)
markless [] = []
markless (w ∷ ws) = word_then (behind_mark w) ws

-- the text of a line
abbrev pub text_of : List ℕ → List ℕ
text_of l = spaced (markless (words_of l))

-- the line's words, with one blank between, have more bytes than there is room for
abbrev pub TooLong : ℕ → List ℕ → Type 0
TooLong room l = room < length (spaced (words_of l))

-- no byte is a blank
abbrev pub Blankless : List ℕ → Type 0
Blankless [] = Unit {0}
Blankless (b ∷ l) = (is_blank b ≡ false) × Blankless l

-- each has a byte, and none has a blank
abbrev pub Worded : List (List ℕ) → Type 0
Worded [] = Unit {0}
Worded (w ∷ ws) = (1 ≤ length w) × Blankless w × Worded ws
