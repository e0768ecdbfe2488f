-- The calls' tables: for every input the answer, and each byte of store and output afterwards. Assumes nothing.
use Rattle.std.specs.Prelude.{◌≡◌, List, ◌∷◌, ◌++◌, ◌⊎◌, ℕ, ◌-◌, ◌*◌, ◌≤◌, ◌<◌, length, drop, replicate, Result, Ok, Err}
use Rattle.std.proofs.Math.Option.{some, none}
use Rattle.std.proofs.Math.ListN.{get_elem?}
use Rattle.ground.specs.Lists.{byte}
use Rattle.words.specs.Le.{bytes}
use Rattle.words.specs.Folds.{fold}
use Rattle.page.specs.Page.{depth}
use Rattle.partition.specs.Bits.{top}
use Rattle.partition.specs.declared.Shape.{Shape}
use Rattle.partition.specs.Partition.{Row, needs, rows_of, buckets}
use Rattle.partition.specs.Sizes.{number_of_size, shape_for}
use Rattle.page.specs.declared.Place.{Place}
use Rattle.page.specs.Places.{place_from, stored, Negative}
use Rattle.store.specs.declared.Refusal.{Refusal}
use Rattle.store.specs.declared.Refusal.TheVariants.{BadLength, BadPage, BadCode, BadPlace, NoCode, PrefixFull, PagesFull, ShortOutput, NoRow, BadRuns, KnownCode, BadMode}
use Rattle.store.specs.declared.Done.{Done}
use Rattle.store.specs.declared.Done.TheVariants.{Formatted, Accepted as Passed, New, Replaced, Found, Rows, RowOf}
use Rattle.ground.specs.Ladder.{Ladder, rung, given, ends, answer, refuse}
use Rattle.partition.specs.Listing.{listing, place_of}
use Rattle.store.specs.Pages.{size, pages, Page, read, contents, rows_on, rows_held}
use Rattle.store.specs.Accepted.{GoodLength, Bucket, Zero, Accepted, Broken}
use Rattle.store.specs.Moves.{overwritten, put_new, removed}

-- what a call answers: a refusal by its number (2 carries the page number), or values
pub data Out : Type 0 where
  refused : ℕ → Out
  refused_at : ℕ → ℕ → Out
  formatted accepted new : Out
  replaced found : Place → Out
  counted : ℕ → Out
  row : ℕ → Place → Out

-- this paper's number of each refusal
abbrev pub refusal : Refusal → Out
refusal BadLength = refused 1
refusal (BadPage p) = refused_at 2 p
refusal BadCode = refused 3
refusal BadPlace = refused 4
refusal NoCode = refused 5
refusal PrefixFull = refused 6
refusal PagesFull = refused 7
refusal ShortOutput = refused 8
refusal NoRow = refused 9
refusal BadRuns = refused 12
refusal KnownCode = refused 13
refusal BadMode = refused 14

-- n is a refusal's number and p the page number that it carries: 2 carries one, any other none
abbrev pub Numbered : ℕ → ℕ → Out → Type 0
Numbered n p o = ((n ≡ 2 → ⊥) × (p ≡ 0) × (o ≡ refused n)) ⊎ ((n ≡ 2) × (o ≡ refused_at n p))

-- this paper's number and values for each of the enum's cases
abbrev pub meaning : Result Done Refusal → Out
meaning (Err r) = refusal r
meaning (Ok Formatted) = formatted
meaning (Ok Passed) = accepted
meaning (Ok New) = new
meaning (Ok (Replaced p)) = replaced p
meaning (Ok (Found p)) = found p
meaning (Ok (Rows n)) = counted n
meaning (Ok (RowOf n p)) = row n p

-- 1: store length not a multiple of 1,024, or under 3 or over 258 pages
abbrev pub Refusal1 : Shape → List ℕ → Type 0
Refusal1 S s = GoodLength S s → ⊥

-- 3: code length 0 or over 64
abbrev pub Refusal3 : List ℕ → Type 0
Refusal3 c = (length c ≡ 0) ⊎ (64 < length c)

-- 4: a part of the place is negative
abbrev pub Refusal4 : Place → Type 0
Refusal4 p = Negative p

-- 14: any other mode than 0 either, 1 only a new code, 2 only a known one
abbrev pub Refusal14 : ℕ → Type 0
Refusal14 m = 2 < m

-- 13: mode 1 and the code is there
abbrev pub Refusal13 : List Row → List ℕ → ℕ → Type 0
Refusal13 rs c m = (m ≡ 1) × ((old : List ℕ) × (place_of rs c ≡ some old))

-- 5 by put: mode 2 and the code is absent
abbrev pub Refusal5 : List Row → List ℕ → ℕ → Type 0
Refusal5 rs c m = (m ≡ 2) × (place_of rs c ≡ none)

-- 6: rows sharing its first 8 bits with it included need over 1,016
abbrev pub Refusal6 : Shape → (List ℕ → ℕ) → List Row → Row → Type 0
Refusal6 S h rs r = S.capacity < needs (rows_of h (r ∷ rs) S.deepest (top S.deepest (h r.code)))

-- 7: the partition with it has more buckets than pages less 2
abbrev pub Refusal7 : Shape → (List ℕ → ℕ) → List ℕ → List Row → Row → Type 0
Refusal7 S h s rs r = pages S s - 2 < length (buckets S h (r ∷ rs))

-- t is the accepted store of s's length whose pages from 2 on hold gs (directory and depth are then as defined)
pub record Becomes (S : Shape) (h : List ℕ → ℕ) (s : List ℕ) (gs : List Page) (t : List ℕ) : Type 0 where
  pub byte_size : (k : ℕ) → byte t k < 256
  pub long : length t ≡ length s
  pub held : contents S t ≡ gs
  pub again : Accepted S h t

-- 2: a rule fails; otherwise the store is accepted. w is the whole result of an answer
abbrev pub checked : {A : Type 0} → Shape → (List ℕ → ℕ) → List ℕ → (Out → A) → Ladder A → Ladder A
checked S h s w l = rung (Broken S h s) (λ p. answer (w (refused_at 2 p))) (given (Accepted S h s) l)

-- ---- format, check, count, lookup

-- page 0 with depth 0, all other pages cleared
unfoldable pub blank : Shape → List ℕ → List ℕ
unfolding bytes
blank S s = bytes 4 (pages S s) ++ bytes 4 (size S) ++ bytes 4 S.entries ++ bytes 4 (2 * size S) ++ bytes 4 0 ++ bytes 4 (number_of_size S) ++ replicate (length s - 24) 0

-- answer and store
unfoldable pub format_table : Shape → List ℕ → Ladder (Out × List ℕ)
format_table S s =
    refuse (Refusal1 S s) (refused 1, s)
    (answer (formatted, blank S s))

-- Allow page sizes 1,024, 4,096 and 16,384.
abbrev pub PageSize : ℕ → Type 0
PageSize n = (n ≡ 1024) ⊎ ((n ≡ 4096) ⊎ (n ≡ 16384))

-- Format goes by the size it is given, 1 for another.
unfoldable pub format_sized : ℕ → List ℕ → Ladder (Out × List ℕ)
format_sized n s = refuse (PageSize n → ⊥) (refused 1, s) (format_table (shape_for n) s)

-- answer; the store is lent for reading
unfoldable pub check_table : Shape → (List ℕ → ℕ) → List ℕ → Ladder Out
check_table S h s =
    refuse (Refusal1 S s) (refused 1)
    (checked S h s (λ o. o)
    (answer accepted))

unfoldable pub count_table : Shape → (List ℕ → ℕ) → List ℕ → Ladder Out
count_table S h s =
    refuse (Refusal1 S s) (refused 1)
    (checked S h s (λ o. o)
    (answer (counted (length (rows_held S s)))))

-- the place that the map gives; 5: code not there
abbrev pub looked_up : Shape → List ℕ → List ℕ → Ladder Out
looked_up S s c = rung (λ b. place_of (rows_held S s) c ≡ some b) (λ b. answer (found (place_from b))) (answer (refused 5))

unfoldable pub lookup_table : Shape → (List ℕ → ℕ) → List ℕ → List ℕ → Ladder Out
lookup_table S h s c =
    refuse (Refusal1 S s) (refused 1)
    (refuse (Refusal3 c) (refused 3)
    (checked S h s (λ o. o)
    (looked_up S s (fold c))))

-- ---- put, remove: answer and store

-- the answer o, and the store whose pages hold gs
abbrev pub writes : Shape → (List ℕ → ℕ) → List ℕ → Out → List Page → Ladder (Out × List ℕ)
writes S h s o gs = ends (λ r. (r.0 ≡ o) × Becomes S h s gs r.1)

-- put of the row r on an accepted store, whether the code is new or known
abbrev pub put_accepted : Shape → (List ℕ → ℕ) → List ℕ → Row → Ladder (Out × List ℕ)
put_accepted S h s r =
    rung (λ old. place_of (rows_held S s) r.code ≡ some old) (λ old. writes S h s (replaced (place_from old)) (overwritten (contents S s) r))
    (refuse (Refusal6 S h (rows_held S s) r) (refused 6, s)
    (refuse (Refusal7 S h s (rows_held S s) r) (refused 7, s)
    (writes S h s new (put_new S h (contents S s) r))))

-- put on an accepted store by the mode m: 13 and 5 stand before 6
abbrev pub put_by_mode : Shape → (List ℕ → ℕ) → List ℕ → ℕ → Row → Ladder (Out × List ℕ)
put_by_mode S h s m r =
    refuse (Refusal13 (rows_held S s) r.code m) (refused 13, s)
    (refuse (Refusal5 (rows_held S s) r.code m) (refused 5, s)
    (put_accepted S h s r))

unfoldable pub put_table : Shape → (List ℕ → ℕ) → List ℕ → List ℕ → Place → ℕ → Ladder (Out × List ℕ)
put_table S h s c p m =
    refuse (Refusal1 S s) (refused 1, s)
    (refuse (Refusal3 c) (refused 3, s)
    (refuse (Refusal4 p) (refused 4, s)
    (refuse (Refusal14 m) (refused 14, s) (checked S h s (λ o. (o, s))
    (put_by_mode S h s m (record { code = fold c; place = stored p }))))))

-- put as document 01 has it, before there were modes
unfoldable pub put_before : Shape → (List ℕ → ℕ) → List ℕ → List ℕ → Place → Ladder (Out × List ℕ)
put_before S h s c p =
    refuse (Refusal1 S s) (refused 1, s)
    (refuse (Refusal3 c) (refused 3, s)
    (refuse (Refusal4 p) (refused 4, s)
    (checked S h s (λ o. (o, s))
    (put_accepted S h s (record { code = fold c; place = stored p })))))

-- remove of the code c on an accepted store
abbrev pub remove_accepted : Shape → (List ℕ → ℕ) → List ℕ → List ℕ → Ladder (Out × List ℕ)
remove_accepted S h s c =
    rung (λ old. place_of (rows_held S s) c ≡ some old) (λ old. writes S h s (found (place_from old)) (removed S h (contents S s) c))
    (answer (refused 5, s))

unfoldable pub remove_table : Shape → (List ℕ → ℕ) → List ℕ → List ℕ → Ladder (Out × List ℕ)
remove_table S h s c =
    refuse (Refusal1 S s) (refused 1, s)
    (refuse (Refusal3 c) (refused 3, s)
    (checked S h s (λ o. (o, s))
    (remove_accepted S h s (fold c))))

-- ---- row at place n, inspection: answer and output

-- the code at the start of the output, the bytes after it left; length and place
abbrev pub giving : Row → List ℕ → Out × List ℕ
giving r out = (row (length r.code) (place_from r.place), r.code ++ drop (length r.code) out)

-- the row at place n of a list; 9: n not below the number of rows
abbrev pub row_of : List Row → ℕ → List ℕ → Ladder (Out × List ℕ)
row_of rs n out = rung (λ r. get_elem? rs n ≡ some r) (λ r. answer (giving r out)) (answer (refused 9, out))

unfoldable pub row_table : Shape → (List ℕ → ℕ) → List ℕ → ℕ → List ℕ → Ladder (Out × List ℕ)
row_table S h s n out =
    refuse (Refusal1 S s) (refused 1, out)
    (refuse (length out < 64) (refused 8, out)
    (checked S h s (λ o. (o, out))
    (row_of (listing S h (rows_held S s)) n out)))

-- a free page, or the bucket page's rules only, shared hash bits included, local depth 0 to 8
abbrev pub PageKeeps : Shape → (List ℕ → ℕ) → List ℕ → Type 0
PageKeeps S h g = Zero g ⊎ (Bucket h g × (depth g ≤ S.deepest))

unfoldable pub inspect_table : Shape → (List ℕ → ℕ) → List ℕ → ℕ → List ℕ → Ladder (Out × List ℕ)
inspect_table S h g n out =
    refuse (length g ≡ size S → ⊥) (refused 1, out)
    (refuse (length out < 64) (refused 8, out)
    (refuse (PageKeeps S h g → ⊥) (refused_at 2 0, out)
    (given (PageKeeps S h g)
    (row_of (rows_on (read g)) n out))))
