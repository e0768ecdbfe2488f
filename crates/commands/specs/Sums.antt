-- The lines of a report. Assumes nothing.
use Rattle.std.specs.Prelude.{ℕ, List, ◌∷◌, ◌++◌, ℤ}
use Rattle.page.specs.declared.Place.{Place}
use Rattle.commands.specs.Texts.{text}
use Rattle.commands.specs.Numbers.{decimal, integer}
use Rattle.commands.specs.Answers.{because, placed, reason}

-- a place and its amount
abbrev pub amounted : Place → ℤ → List ℕ
amounted p z = placed p ++ (32 ∷ integer z)

-- so many rows
abbrev pub many_rows : ℕ → List ℕ
many_rows n = decimal n ++ text " rows"

-- so many rows, and their sum
abbrev pub many_with : ℕ → ℤ → List ℕ
many_with n z = decimal n ++ (text " rows " ++ integer z)

-- 10, with the line of the sheet
abbrev pub bad_row : ℕ → List ℕ
bad_row l = text "refused 10" ++ because l (reason 10)

-- 11, with the place; the command stands on line `at`
abbrev pub not_there : Place → ℕ → List ℕ
not_there p at = text "refused 11 place " ++ (placed p ++ because at (reason 11))

-- the sheet of the command on line `at` cannot be read
abbrev pub unreadable : ℕ → List ℕ
unreadable at = text "refused" ++ because at (text "the sheet cannot be read")

-- its line l is of another form
abbrev pub no_row : ℕ → ℕ → List ℕ
no_row at l = text "refused" ++ (because at (text "not PAGE SLOT VOLUME CENTS on line ") ++ (decimal l ++ text " of the sheet"))
