-- Bytes taken apart into lines, each of which a line feed ends. Assumes nothing.
use Rattle.std.specs.Prelude.{ℕ, ◌≡◌, Bool, cond, List, [], ◌∷◌, ◌++◌, eqb}

-- a line feed
abbrev pub is_feed : ℕ → Bool
is_feed b = eqb b 10

-- what stands behind the last byte that parts, of w and then l
unfoldable pub behind_last : (ℕ → Bool) → List ℕ → List ℕ → List ℕ
behind_last parts w [] = w
behind_last parts w (b ∷ l) = cond (parts b) (behind_last parts [] l) (behind_last parts (w ++ (b ∷ [])) l)

-- what stands before each line feed of l, before the first with w in front
unfoldable pub ended_after : List ℕ → List ℕ → List (List ℕ)
ended_after w [] = []
ended_after w (b ∷ l) = cond (is_feed b) (w ∷ ended_after [] l) (ended_after (w ++ (b ∷ [])) l)

-- what stands behind the last line feed of w and then l
abbrev pub unended_after : List ℕ → List ℕ → List ℕ
unended_after w l = behind_last is_feed w l

-- the lines of bytes that a line feed ends
abbrev pub ended : List ℕ → List (List ℕ)
ended l = ended_after [] l

-- what stands behind the last line feed
abbrev pub unended : List ℕ → List ℕ
unended l = unended_after [] l

-- the lines of an input: what stands behind the last line feed is one too
abbrev pub input_lines : List ℕ → List (List ℕ)
input_lines l = ended l ++ (unended l ∷ [])

-- lines with a line feed behind each, and then r
unfoldable pub with_feeds : List (List ℕ) → List ℕ → List ℕ
with_feeds [] r = r
with_feeds (x ∷ ls) r = x ++ (10 ∷ with_feeds ls r)

-- no byte is a line feed
abbrev pub Feedless : List ℕ → Type 0
Feedless [] = Unit {0}
Feedless (b ∷ l) = (b ≡ 10 → ⊥) × Feedless l

-- no line has one
abbrev pub FeedlessEach : List (List ℕ) → Type 0
FeedlessEach [] = Unit {0}
FeedlessEach (x ∷ ls) = Feedless x × FeedlessEach ls

-- in other words: the lines, each with its line feed, and the rest are the bytes, and have no other line feed
pub record LinesAre (l : List ℕ) (ls : List (List ℕ)) (r : List ℕ) : Type 0 where
  pub whole : l ≡ with_feeds ls r
  pub lines : FeedlessEach ls
  pub rest : Feedless r
