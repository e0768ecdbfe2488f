-- A sheet as two runs of numbers: each place as one number in the order page, slot, volume, each amount raised by 10^12; and the tally of a listing over them. Assumes nothing.
use Rattle.std.specs.Prelude.{◌≡◌, Bool, cond, ◌&&◌, List, [], ◌∷◌, map, ℕ, suc, ◌+◌, ◌*◌, ◌-◌, ◌≤◌, ◌<◌, ◌^◌, leb, ltb, eqb, length, get_or, set, take, drop, replicate, ℤ, pos, negsuc, ◌+ℤ◌, Option, Some, None, Result, Ok, Err}
use Rattle.std.proofs.Math.Option.{none}
use Rattle.std.proofs.Math.ListN.{get_elem?}
use Rattle.hash.specs.Fnv.{fnv}
use Rattle.ground.specs.Ladder.{Ladder, given, ends, refuse}
use Rattle.page.specs.declared.Place.{Place}
use Rattle.page.specs.Places.{place_from}
use Rattle.partition.specs.declared.Shape.{Shape}
use Rattle.partition.specs.Partition.{Row}
use Rattle.partition.specs.Listing.{listing}
use Rattle.store.specs.Accepted.{Accepted}
use Rattle.store.specs.Demands.{Sized}
use Rattle.store.specs.Pages.{rows_held}
use Rattle.store.specs.Tables.{refused, Refusal1, checked}
use Rattle.query.specs.declared.Cursor.{Cursor}
use Rattle.query.specs.Cursors.{At}
use Rattle.report.specs.declared.SheetRow.{SheetRow}
use Rattle.report.specs.declared.Counted.{Counted}
use Rattle.report.specs.declared.Sums.{Sums}
use Rattle.report.specs.Report.{place_in, limit, PlaceAt, Reported, other, missing, summed}

-- what no place and no amount has
abbrev pub outside : ℕ
outside = 9223372036854775808

-- a part of a place
abbrev pub nat_part : ℤ → ℕ
nat_part (pos n) = n
nat_part (negsuc n) = outside

-- three parts as one number
abbrev pub ranked : ℕ → ℕ → ℕ → ℕ
ranked a b c = cond (ltb a 2147483648 && (ltb b 32768 && ltb c 32768)) (a * 4294967296 + b * 65536 + c) outside

abbrev pub rank : Place → ℕ
rank p = ranked (nat_part p.page) (nat_part p.slot) (nat_part p.volume)

-- an amount raised by 10^12
abbrev pub raise_cents : ℤ → ℕ
raise_cents (pos n) = cond (leb n 1000000000000) (n + 1000000000000) outside
raise_cents (negsuc n) = cond (ltb n 1000000000000) (1000000000000 - suc n) outside

-- ---- the sheet laid out: ranks from 0, raised amounts from the limit on

-- row i, where there is room
abbrev pub laid : List ℕ → ℕ → SheetRow → List ℕ
laid fl i r = cond (ltb i limit && eqb (length fl) (2 * limit)) (set (set fl i (rank (place_in r))) (limit + i) (raise_cents r.cents)) fl

-- all rows, from row i on
abbrev pub spread_from : ℕ → List SheetRow → List ℕ → List ℕ
spread_from i [] fl = fl
spread_from i (r ∷ rs) fl = spread_from (suc i) rs (laid fl i r)

-- of the first n rows
abbrev pub ranks_of : List ℕ → ℕ → List ℕ
ranks_of fl n = take n fl

abbrev pub raised_of : List ℕ → ℕ → List ℕ
raised_of fl n = take n (drop limit fl)

pub record RisingNumbers (ps : List ℕ) : Type 0 where
  pub rises : (i j : ℕ) → i < j → j < length ps → get_or {A = ℕ} ps i 0 < get_or {A = ℕ} ps j 0

pub record AtMost (m : ℕ) (ls : List ℕ) : Type 0 where
  pub le : (i : ℕ) → i < length ls → get_or {A = ℕ} ls i 0 ≤ m

-- the sheet's rules over its numbers
pub record Sound (ps ls : List ℕ) : Type 0 where
  pub ascending : RisingNumbers ps
  pub places : AtMost 9223372036854775807 ps
  pub amounts : AtMost 2000000000000 ls

-- of as many amounts as places, at most the limit
pub record SoundSheet (ps ls : List ℕ) : Type 0 where
  pub sound : Sound ps ls
  pub paired : length ls ≡ length ps
  pub most : length ps ≤ limit

-- ---- the tally

-- an accepted store beside a sheet's numbers that keep the rules
pub record SheetReady (S : Shape) (s ps ls : List ℕ) : Type 0 where
  pub sized : Sized S
  pub accepted : Accepted S fnv s
  pub sheet : SoundSheet ps ls

-- where w is, or how many there are
abbrev pub index_of : ℕ → List ℕ → ℕ
index_of w [] = 0
index_of w (p ∷ ps) = cond (eqb p w) 0 (suc (index_of w ps))

-- the row i has w; or none has
abbrev pub Finds : ℕ → List ℕ → Option ℕ → Type 0
Finds w ps (Some i) = (i ≡ index_of w ps) × (i < length ps)
Finds w ps None = length ps ≤ index_of w ps

-- one code more under row i: none, one, many
abbrev pub mark_at : List ℕ → ℕ → List ℕ
mark_at cs i = cond (ltb (get_or cs i 0) 2) (set cs i (get_or cs i 0 + 1)) cs

-- the codes gone through, their sum and the marks, from k codes, a sum and marks on: all of them, or up to the first that is not there
abbrev pub tallied : List ℕ → List ℕ → List ℕ → ℕ → ℕ → List ℕ → ℕ × (ℕ × List ℕ)
tallied ps ls [] k s cs = (k, (s, cs))
tallied ps ls (w ∷ ws) k s cs = cond (ltb (index_of w ps) (length ps)) (tallied ps ls ws (k + 1) (s + get_or ls (index_of w ps) 0) (mark_at cs (index_of w ps))) (k, (s, cs))

-- the place of the row at place n of the listing, with a cursor before the next; or there is no such row
abbrev pub Follows : Shape → List ℕ → ℕ → Option (Place × Cursor) → Type 0
Follows S s n (Some (p, c)) = PlaceAt (listing S fnv (rows_held S s)) n p × At S s (n + 1) c
Follows S s n None = get_elem? (listing S fnv (rows_held S s)) n ≡ none

-- a code's place as a number
abbrev pub rank_on : Row → ℕ
rank_on r = rank (place_from r.place)

-- ---- what a tally counts

abbrev pub if_so : Bool → ℕ → ℕ
if_so t l = cond t l 0

-- without a mark: how many, and their sum
abbrev pub unmarked : List ℕ → ℕ
unmarked [] = 0
unmarked (c ∷ cs) = if_so (eqb c 0) 1 + unmarked cs

abbrev pub unmarked_sum : List ℕ → List ℕ → ℕ
unmarked_sum (l ∷ ls) (c ∷ cs) = if_so (eqb c 0) l + unmarked_sum ls cs
unmarked_sum [] cs = 0
unmarked_sum (l ∷ ls) [] = 0

-- marked more than once
abbrev pub remarked : List ℕ → ℕ
remarked [] = 0
remarked (c ∷ cs) = if_so (leb 2 c) 1 + remarked cs

-- the sum of all amounts
abbrev pub sum_of : List ℕ → ℕ
sum_of [] = 0
sum_of (l ∷ ls) = l + sum_of ls

-- one code more leaves each number a word
pub record RoomFor (t : Counted) (l : ℕ) : Type 0 where
  pub codes : t.codes + 1 < 2 ^ 64
  pub sum : t.sum + l < 2 ^ 64
  pub named : t.named + 1 < 2 ^ 64
  pub once : t.once + l < 2 ^ 64
  pub doubled : t.doubled + 1 < 2 ^ 64

-- t with one code more, of a row with the amount l and the mark m before
pub record OneMore (t : Counted) (l m : ℕ) (r : Counted) : Type 0 where
  pub codes : r.codes ≡ t.codes + 1
  pub sum : r.sum ≡ t.sum + l
  pub named : r.named ≡ t.named + if_so (eqb m 0) 1
  pub once : r.once ≡ t.once + if_so (eqb m 0) l
  pub doubled : r.doubled ≡ t.doubled + if_so (eqb m 1) 1

-- t has what is marked in cs' and not in cs, and what is marked more than once
pub record MarkedBy (ls cs cs' : List ℕ) (t : Counted) : Type 0 where
  pub named : unmarked cs' + t.named ≡ unmarked cs
  pub once : unmarked_sum ls cs' + t.once ≡ unmarked_sum ls cs
  pub doubled : remarked cs' ≡ remarked cs + t.doubled

-- the whole tally of the rows rs from the marks cs to the marks cs'
pub record WholeTally (ps ls : List ℕ) (rs : List Row) (cs : List ℕ) (t : Counted) (cs' : List ℕ) : Type 0 where
  pub codes : t.codes ≡ length rs
  pub all : (t.codes, (t.sum, cs')) ≡ tallied ps ls (map rank_on rs) 0 0 cs
  pub marks : MarkedBy ls cs cs' t

-- the tally of the rows rs from the marks cs ends with the marks cs': at the first place that is not there, or whole
abbrev pub Ends : List ℕ → List ℕ → List Row → List ℕ → Result Counted Place → List ℕ → Type 0
Ends ps ls rs cs (Err p) cs' = PlaceAt rs (tallied ps ls (map rank_on rs) 0 0 cs).0 p
Ends ps ls rs cs (Ok t) cs' = WholeTally ps ls rs cs t cs'

-- z is the sum of k amounts whose raised sum is s
abbrev pub Lowered : ℕ → ℕ → ℤ → Type 0
Lowered s k z = pos s ≡ z +ℤ pos (k * 1000000000000)

-- the sums of a whole tally
pub record SumsOf (ps ls : List ℕ) (rs : List Row) (cs : List ℕ) (x : Sums) : Type 0 where
  pub sum : ℕ
  pub marks : List ℕ
  pub all : (length rs, (sum, marks)) ≡ tallied ps ls (map rank_on rs) 0 0 cs
  pub total : Lowered sum (length rs) x.total
  pub hidden : x.hidden ≡ unmarked marks
  pub cents : Lowered (unmarked_sum ls marks) (unmarked marks) x.cents
  pub doubled : x.doubled ≡ remarked marks

-- over a sound sheet, from the marks cs
abbrev pub ToldBy : List ℕ → List ℕ → List Row → List ℕ → Reported → Type 0
ToldBy ps ls rs cs (other o) = ⊥
ToldBy ps ls rs cs (missing p) = PlaceAt rs (tallied ps ls (map rank_on rs) 0 0 cs).0 p
ToldBy ps ls rs cs (summed x) = SumsOf ps ls rs cs x

-- the report over the numbers of n rows
unfoldable pub numbers_table : Shape → (List ℕ → ℕ) → List ℕ → List ℕ → ℕ → Ladder Reported
numbers_table S h s fl n =
    refuse (Refusal1 S s) (other (refused 1))
    (refuse ((n ≤ limit) × Sound (ranks_of fl n) (raised_of fl n) → ⊥) (other (refused 10))
    (given ((n ≤ limit) × Sound (ranks_of fl n) (raised_of fl n))
    (checked S h s other
    (ends (ToldBy (ranks_of fl n) (raised_of fl n) (listing S h (rows_held S s)) (replicate n 0))))))
