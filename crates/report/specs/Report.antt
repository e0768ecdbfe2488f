-- The bid report over a store's listing and a sheet, as document 02 has it (Item 1). Assumes nothing.
use Rattle.std.specs.Prelude.{◌≡◌, Bool, false, cond, ◌&&◌, List, [], ◌∷◌, ℕ, ◌+◌, ◌≤◌, ◌<◌, eqb, leb, length, get_or, ℤ, pos, negsuc, neg_ℤ, ◌+ℤ◌, ◌*ℤ◌, ◌≤ℤ◌, ◌<ℤ◌, Result, Ok, Err}
use Rattle.std.proofs.Math.Option.{some}
use Rattle.std.proofs.Math.ListN.{get_elem?}
use Rattle.ground.specs.Ladder.{Ladder, rung, given, answer, refuse}
use Rattle.page.specs.declared.Place.{Place}
use Rattle.page.specs.Places.{place_from, Negative, InRange}
use Rattle.partition.specs.declared.Shape.{Shape}
use Rattle.partition.specs.Partition.{Row}
use Rattle.partition.specs.Listing.{listing}
use Rattle.store.specs.Pages.{rows_held}
use Rattle.store.specs.Tables.{Out, refused, refusal, Refusal1, checked}
use Rattle.report.specs.declared.SheetRow.{SheetRow}
use Rattle.report.specs.declared.Sums.{Sums}
use Rattle.report.specs.declared.ReportRefusal.{ReportRefusal}
use Rattle.report.specs.declared.ReportRefusal.TheVariants.{Store, BadSheet, NotInSheet}

-- ---- the sheet

-- The report's sheet may have 200,000 rows.
abbrev pub limit : ℕ
limit = 200000

-- amounts from -1,000,000,000,000 to 1,000,000,000,000
abbrev pub highest : ℤ
highest = pos 1000000000000

-- a sheet row's place
abbrev pub place_in : SheetRow → Place
place_in x = record { page = x.page; slot = x.slot; volume = x.volume }

-- row i; past the end one of zeros
abbrev pub zero_row : SheetRow
zero_row = record { page = pos 0; slot = pos 0; volume = pos 0; cents = pos 0 }

abbrev pub sheet_row : List SheetRow → ℕ → SheetRow
sheet_row xs i = get_or xs i zero_row

-- a row place: no part negative
pub record RowPlace (p : Place) : Type 0 where
  pub natural : Negative p → ⊥
  pub range : InRange p

-- ascending by page, slot, volume
pub data Precedes (a b : Place) : Type 0 where
  by_page : a.page <ℤ b.page → Precedes a b
  by_slot : a.page ≡ b.page → a.slot <ℤ b.slot → Precedes a b
  by_volume : a.page ≡ b.page → a.slot ≡ b.slot → a.volume <ℤ b.volume → Precedes a b

-- the rules
pub record GoodSheet (xs : List SheetRow) : Type 0 where
  pub most : length xs ≤ limit
  pub places : (i : ℕ) → i < length xs → RowPlace (place_in (sheet_row xs i))
  pub ascending : (i : ℕ) → i + 1 < length xs → Precedes (place_in (sheet_row xs i)) (place_in (sheet_row xs (i + 1)))
  pub amounts : (i : ℕ) → i < length xs → (neg_ℤ highest ≤ℤ (sheet_row xs i).cents) × ((sheet_row xs i).cents ≤ℤ highest)

-- ---- which sheet row a code names

abbrev pub same : ℤ → ℤ → Bool
same (pos m) (pos n) = eqb m n
same (pos m) (negsuc n) = false
same (negsuc m) (pos n) = false
same (negsuc m) (negsuc n) = eqb m n

abbrev pub same_place : Place → Place → Bool
same_place p q = same p.page q.page && (same p.slot q.slot && same p.volume q.volume)

-- a code names the sheet row that has its place
abbrev pub names : Row → SheetRow → Bool
names r x = same_place (place_from r.place) (place_in x)

-- how many codes of the listing name a sheet row
unfoldable pub times_named : List Row → SheetRow → ℕ
times_named [] x = 0
times_named (r ∷ rs) x = cond (names r x) 1 0 + times_named rs x

-- the amount at a code's place
unfoldable pub amount_of : List SheetRow → Row → ℤ
amount_of [] r = pos 0
amount_of (x ∷ xs) r = cond (names r x) x.cents (amount_of xs r)

-- ---- the sums

-- the exact total over the listing: a sheet row under two codes counts twice
unfoldable pub total_of : List SheetRow → List Row → ℤ
unfolding amount_of
total_of xs [] = pos 0
total_of xs (r ∷ rs) = amount_of xs r +ℤ total_of xs rs

-- how many sheet rows no code names
unfoldable pub hidden_of : List Row → List SheetRow → ℕ
unfolding times_named
hidden_of rs [] = 0
hidden_of rs (x ∷ xs) = cond (eqb (times_named rs x) 0) 1 0 + hidden_of rs xs

-- the sum of the sheet rows that no code names
unfoldable pub hidden_cents : List Row → List SheetRow → ℤ
unfolding times_named
hidden_cents rs [] = pos 0
hidden_cents rs (x ∷ xs) = cond (eqb (times_named rs x) 0) x.cents (pos 0) +ℤ hidden_cents rs xs

-- how many are named by more than one code
unfoldable pub doubled_of : List Row → List SheetRow → ℕ
unfolding times_named
doubled_of rs [] = 0
doubled_of rs (x ∷ xs) = cond (leb 2 (times_named rs x)) 1 0 + doubled_of rs xs

-- ---- the same sums, said again

-- the sheet's sum
unfoldable pub sheet_cents : List SheetRow → ℤ
sheet_cents [] = pos 0
sheet_cents (x ∷ xs) = x.cents +ℤ sheet_cents xs

-- the sum of the rows named at least once
unfoldable pub named_cents : List Row → List SheetRow → ℤ
unfolding times_named
named_cents rs [] = pos 0
named_cents rs (x ∷ xs) = cond (eqb (times_named rs x) 0) (pos 0) x.cents +ℤ named_cents rs xs

-- each sheet row's cents times the number of codes that name it
unfoldable pub row_by_row : List Row → List SheetRow → ℤ
unfolding times_named
row_by_row rs [] = pos 0
row_by_row rs (x ∷ xs) = (x.cents *ℤ pos (times_named rs x)) +ℤ row_by_row rs xs

-- ---- the answer

abbrev pub report_of : List SheetRow → List Row → Sums
report_of xs rs = record { total = total_of xs rs; hidden = hidden_of rs xs; cents = hidden_cents rs xs; doubled = doubled_of rs xs }

-- some sheet row has this place
abbrev pub InSheet : List SheetRow → Place → Type 0
InSheet xs p = (i : ℕ) × (i < length xs) × (place_in (sheet_row xs i) ≡ p)

-- p is the place of the row at place n of the listing
pub record PlaceAt (rs : List Row) (n : ℕ) (p : Place) : Type 0 where
  pub row : Row
  pub there : get_elem? rs n ≡ some row
  pub is : p ≡ place_from row.place

-- the first place in the listing that is not in the sheet
pub record FirstMissing (xs : List SheetRow) (rs : List Row) (p : Place) : Type 0 where
  pub n : ℕ
  pub listed : PlaceAt rs n p
  pub absent : InSheet xs p → ⊥
  pub before : (m : ℕ) (q : Place) → m < n → PlaceAt rs m q → InSheet xs q

-- a refusal by its number, 11 with its place; or the sums
pub data Reported : Type 0 where
  other : Out → Reported
  missing : Place → Reported
  summed : Sums → Reported

abbrev pub reported : Result Sums ReportRefusal → Reported
reported (Err (Store r)) = other (refusal r)
reported (Err BadSheet) = other (refused 10)
reported (Err (NotInSheet p)) = missing p
reported (Ok x) = summed x

-- 1; 10: the sheet breaks a rule; 2; 11: a code's place is not in the sheet
unfoldable pub report_table : Shape → (List ℕ → ℕ) → List ℕ → List SheetRow → Ladder Reported
report_table S h s xs =
    refuse (Refusal1 S s) (other (refused 1))
    (refuse (GoodSheet xs → ⊥) (other (refused 10))
    (given (GoodSheet xs)
    (checked S h s other
    (rung (FirstMissing xs (listing S h (rows_held S s))) (λ p. answer (missing p))
    (answer (summed (report_of xs (listing S h (rows_held S s)))))))))
