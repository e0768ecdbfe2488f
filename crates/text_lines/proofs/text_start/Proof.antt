-- `text_lines::text_start` meets its contract. Assumes nothing.
use mathlib.Core.Logic.{inl, inr}
use native.Mathlib.Omega.{arith}
use Rattle.commands.specs.SheetLines.{words_of}
use Rattle.text_lines.proofs.Marks.{plain_text, four_on, three_on}
use Rattle.text_lines.proofs.Words.{words_worded}
use borrow.Author.Rules.{rules}
use Rattle.text_lines.proofs.text_start.Statement.{statement}
use Rattle.text_lines.proofs.text_start.Tie as tie

returns : tie.Need-returns-then-n-lt3
returns c = record { within = omega arith; text = λ l e. plain_text _ (words_of l) (words_worded l) e (inr (inr (inr c.if-n-lt3.true))) }

shared-slice-read-if2 : tie.Need-bounds-words-0
shared-slice-read-if2 c = search rules

returns-2 : tie.Need-returns-then-words
returns-2 c = record { within = omega arith; text = λ l e. plain_text _ (words_of l) (words_worded l) e (inl c.if-words.true) }

shared-slice-read-if3 : tie.Need-bounds-words-1
shared-slice-read-if3 c = search rules

returns-3 : tie.Need-returns-then-words-2
returns-3 c = record { within = omega arith; text = λ l e. plain_text _ (words_of l) (words_worded l) e (inr (inl c.if-words-2.true)) }

shared-slice-read-if4 : tie.Need-bounds-words-2
shared-slice-read-if4 c = search rules

returns-4 : tie.Need-returns-then-words-3
returns-4 c = record { within = omega arith; text = λ l e. plain_text _ (words_of l) (words_worded l) e (inr (inr (inl c.if-words-3.true))) }

shared-slice-read-if6 : tie.Need-bounds-words-3
shared-slice-read-if6 c = search rules

returns-5 : tie.Need-returns-then-words-eq32
returns-5 c = record { within = omega (arith, c.if-n-gt3.true); text = λ l e. four_on _ (words_of l) (words_worded l) e (record { first = c.if-words.false; second = c.if-words-2.false; third = c.if-words-3.false }) c.if-words-eq32.true }

returns-6 : tie.Need-returns-else-words-eq32
returns-6 c = record { within = omega (arith, c.if-n-gt3.true); text = λ l e. three_on _ (words_of l) (words_worded l) e (record { first = c.if-words.false; second = c.if-words-2.false; third = c.if-words-3.false }) (inl c.if-words-eq32.false) }

returns-7 : tie.Need-returns-else-n-gt3
returns-7 c = record { within = omega (arith, c.if-n-lt3.false); text = λ l e. three_on _ (words_of l) (words_worded l) e (record { first = c.if-words.false; second = c.if-words-2.false; third = c.if-words-3.false }) (inr c.if-n-gt3.false) }

pub text_start_spec : {M : Type 1} → statement M
text_start_spec =
    tie.close
    (tie.spec
    returns
    shared-slice-read-if2
    returns-2
    shared-slice-read-if3
    returns-3
    shared-slice-read-if4
    returns-4
    shared-slice-read-if6
    returns-5
    returns-6
    returns-7)
