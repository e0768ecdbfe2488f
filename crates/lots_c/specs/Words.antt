-- The answer words of include/lots.h. Assumes nothing.
use Rattle.std.specs.Prelude.{◌≡◌, List, ℕ, ◌+◌, ◌*◌, ◌%◌, ◌^◌, ℤ, pos, negsuc}
use Rattle.ground.specs.Ladder.{Ladder, Answers}
use Rattle.page.specs.declared.Place.{Place}
use Rattle.report.specs.Report.{Reported, other, missing, summed}
use Rattle.lots_c.specs.declared.ReportAnswer.{ReportAnswer}
use Rattle.store.specs.Tables.{Out, refused, refused_at, formatted, accepted, new, replaced, found, counted, row}

-- a part of a place; no part is negative
abbrev pub plain : ℤ → ℕ
plain (pos n) = n
plain (negsuc n) = 0

-- page in bits 0 to 31, slot in 32 to 47, volume in 48 to 63
abbrev pub place_word : Place → ℕ
place_word p = plain p.page + 2 ^ 32 * plain p.slot + 2 ^ 48 * plain p.volume

-- a refusal: bit 63, the number in bits 0 to 7, the page number in bits 8 to 39
abbrev pub refusal_word : ℕ → ℕ → ℕ
refusal_word n p = 2 ^ 63 + n + 256 * (p % 2 ^ 32)

-- the word of an answer
abbrev pub answer_word : Out → ℕ
answer_word (refused n) = refusal_word n 0
answer_word (refused_at n p) = refusal_word n p
answer_word formatted = 0
answer_word accepted = 0
answer_word new = 2 ^ 31
answer_word (replaced p) = place_word p
answer_word (found p) = place_word p
answer_word (counted n) = n
answer_word (row l p) = place_word p

-- the length of the code that was given, in 32 bits, or what stood there
abbrev pub length_after : Out → ℕ → ℕ
length_after (refused n) old = old
length_after (refused_at n p) old = old
length_after formatted old = old
length_after accepted old = old
length_after new old = old
length_after (replaced p) old = old
length_after (found p) old = old
length_after (counted n) old = old
length_after (row l p) old = l % 2 ^ 32

-- r is the word of an answer that the table allows
pub record Tells (T : Ladder Out) (r : ℕ) : Type 0 where
  pub out : Out
  pub allowed : Answers T out
  pub is : r ≡ answer_word out

-- r is the word of an answer that the table of a call which writes allows, with the bytes t that it leaves
pub record TellsAnd (T : Ladder (Out × List ℕ)) (t : List ℕ) (r : ℕ) : Type 0 where
  pub out : Out
  pub allowed : Answers T (out, t)
  pub is : r ≡ answer_word out

-- r is the word of an answer that a batch's table allows, with the bytes t that it leaves and its run of answers, which holds ns then
pub record TellsAll (T : Ladder (Out × (List ℕ × List ℕ))) (t ns : List ℕ) (r : ℕ) : Type 0 where
  pub out : Out
  pub allowed : Answers T (out, (t, ns))
  pub is : r ≡ answer_word out

-- r is the word of an answer that the table of a call which gives a row allows, and len the code's length
pub record TellsRow (T : Ladder (Out × List ℕ)) (t : List ℕ) (old len r : ℕ) : Type 0 where
  pub out : Out
  pub allowed : Answers T (out, t)
  pub is : r ≡ answer_word out
  pub size : len ≡ length_after out old

-- ---- the bid report

-- all is 0 in a refusal, but for the answer and the place in 11
abbrev pub no_sums : ℕ → ℕ → ReportAnswer
no_sums a p = record { answer = a; place = p; total = pos 0; hidden = 0; cents = pos 0; doubled = 0 }

abbrev pub report_words : Reported → ReportAnswer
report_words (other o) = no_sums (answer_word o) 0
report_words (missing p) = no_sums (refusal_word 11 0) (place_word p)
report_words (summed x) = record { answer = 0; place = 0; total = x.total; hidden = x.hidden; cents = x.cents; doubled = x.doubled }

-- r has the words of an answer that the table allows
pub record TellsReport (T : Ladder Reported) (r : ReportAnswer) : Type 0 where
  pub out : Reported
  pub allowed : Answers T out
  pub is : r ≡ report_words out
