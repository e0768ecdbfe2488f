-- What a line of a sheet says: words with blanks between. Assumes nothing.
use Rattle.std.specs.Prelude.{ℕ, ◌^◌, ◌≤◌, ◌<◌, ◌≡◌, cond, ◌⊎◌, List, [], ◌∷◌, ◌++◌, eqb, ℤ, length}
use Rattle.std.specs.Int.Signed.{mag}
use Rattle.ground.specs.Lists.{byte}
use Rattle.page.specs.declared.Place.{Place}
use Rattle.page.specs.Places.{InRange}
use Rattle.commands.specs.Numbers.{Integer}
use Rattle.commands.specs.declared.SheetLine.{SheetLine}
use Rattle.commands.specs.declared.SheetLine.TheVariants.{Passed, Amount, Other}

-- 1 for a blank, which is a space, a tab or a carriage return; 0 for any other byte
abbrev pub blank_kind : ℕ → ℕ
blank_kind b = cond (eqb b 32) 1 (cond (eqb b 9) 1 (cond (eqb b 13) 1 0))

-- a word at its end, before the words ws; none where it has no byte
abbrev pub word_then : List ℕ → List (List ℕ) → List (List ℕ)
word_then [] ws = ws
word_then (b ∷ w) ws = (b ∷ w) ∷ ws

-- the words of a text that goes on with the word w
unfoldable pub cut_from : List ℕ → List ℕ → List (List ℕ)
cut_from w [] = word_then w []
cut_from w (b ∷ l) = cond (eqb (blank_kind b) 1) (word_then w (cut_from [] l)) (cut_from (w ++ (b ∷ [])) l)

-- the words of a line
abbrev pub words_of : List ℕ → List (List ℕ)
words_of l = cut_from [] l

-- the bytes from i up to r are of the kind k, and the one at r, if there is one, is not
pub record KindRun (k : ℕ) (l : List ℕ) (i r : ℕ) : Type 0 where
  pub from : i ≤ r
  pub within : r ≤ length l
  pub each : (j : ℕ) → i ≤ j → j < r → blank_kind (byte l j) ≡ k
  pub stops : r < length l → blank_kind (byte l r) ≡ k → ⊥

-- the first word begins with #
pub record Remark (l : List ℕ) : Type 0 where
  pub word : List ℕ
  pub rest : List (List ℕ)
  pub words : words_of l ≡ word ∷ rest
  pub opens : byte word 0 ≡ 35

-- a line that is passed over: it has no word, or is a remark
abbrev pub PassedOver : List ℕ → Type 0
PassedOver l = (words_of l ≡ []) ⊎ Remark l

-- four words that write a place and an amount
abbrev pub Writes : List ℕ → List ℕ → List ℕ → List ℕ → Place → ℤ → Type 0
Writes a b c d p z = Integer p.page a × Integer p.slot b × Integer p.volume c × Integer z d

-- the line's words are PAGE SLOT VOLUME CENTS
pub record RowLine (p : Place) (z : ℤ) (l : List ℕ) : Type 0 where
  pub page : List ℕ
  pub slot : List ℕ
  pub volume : List ℕ
  pub cents : List ℕ
  pub words : words_of l ≡ page ∷ slot ∷ volume ∷ cents ∷ []
  pub writes : Writes page slot volume cents p z

-- no number is too large for its field
abbrev pub FitsRow : Place → ℤ → Type 0
FitsRow p z = InRange p × (mag z < 2 ^ 63)

-- four words are read as a row, or as none
abbrev pub FourSay : List ℕ → List ℕ → List ℕ → List ℕ → SheetLine → Type 0
FourSay a b c d (Amount p z) = Writes a b c d p z
FourSay a b c d Other = (p : Place) (z : ℤ) → FitsRow p z → Writes a b c d p z → ⊥
FourSay a b c d Passed = ⊥

-- what a line of a sheet is: passed over, a row, or of another form
abbrev pub LineSays : List ℕ → SheetLine → Type 0
LineSays l Passed = PassedOver l
LineSays l (Amount p z) = RowLine p z l
LineSays l Other = (PassedOver l → ⊥) × ((p : Place) (z : ℤ) → FitsRow p z → RowLine p z l → ⊥)
