-- The enum's cases have different numbers and values, so a table settles the enum too.
-- Assumes nothing.
use mathlib.Core.Path.{◌≡◌, refl, sym, ap, ◌∙◌}
use mathlib.Core.List.{[], ◌∷◌}
use Prim.Native.Nat.{ℕ}
use lib.ListN.{get_or}
use Rattle.store.specs.declared.Refusal.{Refusal}
use Rattle.store.specs.declared.Refusal.TheVariants.{BadLength, BadPage, BadCode, BadPlace, NoCode, PrefixFull, PagesFull, ShortOutput, NoRow, BadRuns, KnownCode, BadMode}
use Rattle.std.specs.Prelude.{Result, Ok, Err}
use Rattle.store.specs.declared.Done.{Done}
use Rattle.store.specs.declared.Done.TheVariants.{Formatted, Accepted, New, Replaced, Found, Rows, RowOf}
use Rattle.store.specs.Tables.{Out, refused, refused_at, formatted, accepted, new, replaced, found, counted, row, refusal, meaning}

-- the case of each number and value
abbrev case : Out → Result Done Refusal
case (refused n) = Err (get_or (BadLength ∷ BadLength ∷ BadLength ∷ BadCode ∷ BadPlace ∷ NoCode ∷ PrefixFull ∷ PagesFull ∷ ShortOutput ∷ NoRow ∷ BadLength ∷ BadLength ∷ BadRuns ∷ KnownCode ∷ BadMode ∷ []) n BadLength)
case (refused_at n p) = Err (BadPage p)
case formatted = Ok Formatted
case accepted = Ok Accepted
case new = Ok New
case (replaced p) = Ok (Replaced p)
case (found p) = Ok (Found p)
case (counted n) = Ok (Rows n)
case (row n p) = Ok (RowOf n p)

back_refusal : (r : Refusal) → case (refusal r) ≡ Err r
back_refusal BadLength = refl
back_refusal (BadPage p) = refl
back_refusal BadCode = refl
back_refusal BadPlace = refl
back_refusal NoCode = refl
back_refusal PrefixFull = refl
back_refusal PagesFull = refl
back_refusal ShortOutput = refl
back_refusal NoRow = refl
back_refusal BadRuns = refl
back_refusal KnownCode = refl
back_refusal BadMode = refl

back : (a : Result Done Refusal) → case (meaning a) ≡ a
back (Err r) = back_refusal r
back (Ok Formatted) = refl
back (Ok Accepted) = refl
back (Ok New) = refl
back (Ok (Replaced p)) = refl
back (Ok (Found p)) = refl
back (Ok (Rows n)) = refl
back (Ok (RowOf n p)) = refl

pub meaning_one : (a b : Result Done Refusal) → meaning a ≡ meaning b → a ≡ b
meaning_one a b e = sym (back a) ∙ ap case e ∙ back b

-- what holds of every number, and of every page of a broken rule, holds of a refusal
pub by_refusal : (P : Out → Type 0) → ((n : ℕ) → P (refused n)) → ((p : ℕ) → P (refused_at 2 p)) → (r : Refusal) → P (refusal r)
by_refusal P f g BadLength = f 1
by_refusal P f g (BadPage p) = g p
by_refusal P f g BadCode = f 3
by_refusal P f g BadPlace = f 4
by_refusal P f g NoCode = f 5
by_refusal P f g PrefixFull = f 6
by_refusal P f g PagesFull = f 7
by_refusal P f g ShortOutput = f 8
by_refusal P f g NoRow = f 9
by_refusal P f g BadRuns = f 12
by_refusal P f g KnownCode = f 13
by_refusal P f g BadMode = f 14
