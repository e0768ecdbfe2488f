-- How the bytes move: what the pages from 2 on hold after a put or a remove. Assumes nothing.
use Rattle.std.specs.Prelude.{Bool, true, false, List, [], ◌∷◌, map, ℕ, suc, ◌+◌, ◌*◌, max, leb, eqb, length, get_or, set}
use Rattle.std.proofs.Math.Option.{Option, some, none}
use Rattle.page.specs.Page.{Record}
use Rattle.partition.specs.Bits.{top}
use Rattle.partition.specs.declared.Shape.{Shape}
use Rattle.partition.specs.Partition.{Row, Prefix, need, needs, rows_of, buckets, or_else}
use Rattle.words.specs.Codes.{order}
use Rattle.partition.specs.Listing.{by, insert, without, in_order}
use Rattle.store.specs.Pages.{size, Page, free, bucket, as_row, depth_on, rows_in}

abbrev pub pick {ℓ} : {A : Type ℓ} → Bool → A → A → A
pick true a b = a
pick false a b = b

-- the place in the list of the first page that passes a test: the lowest-numbered
unfoldable pub find : (Page → Bool) → List Page → ℕ
find f [] = 0
find f (g ∷ gs) = pick (f g) 0 (suc (find f gs))

abbrev pub is_free : Page → Bool
is_free free = true
is_free (bucket k rs) = false

-- how many of the pages are free
abbrev pub frees : List Page → ℕ
frees [] = 0
frees (free ∷ gs) = suc (frees gs)
frees (bucket k rs ∷ gs) = frees gs

module _ (h : List ℕ → ℕ) where
  -- a bucket whose rows' hashes begin with the k bits of v
  abbrev pub within : ℕ → ℕ → Page → Bool
  within k v free = false
  within k v (bucket d []) = false
  within k v (bucket d (r ∷ rs)) = eqb (top k (h r.code)) v

  -- the bucket whose prefix is that of the hash x
  abbrev pub holds : ℕ → Page → Bool
  holds x g = within (depth_on g) (top (depth_on g) x) g

-- of the buckets worked out afresh, the one whose prefix is that of the hash x
unfoldable pub bucket_of : ℕ → List Prefix → Option Prefix
bucket_of x [] = none
bucket_of x (p ∷ ps) = or_else (eqb (top p.bits x) p.value) p (bucket_of x ps)

abbrev pub record_at : ℕ → Row → Record
record_at o r = record { start = o; place = r.place; code = r.code }

-- packed: records from o in slot order
unfoldable pub pack_from : ℕ → List Row → List Record
pack_from o [] = []
pack_from o (r ∷ rs) = record_at o r ∷ pack_from (o + (8 + length r.code)) rs

-- a bucket written packed: its rows in code order, records from 8
unfoldable pub packed : (List ℕ → ℕ) → List Row → Prefix → Page
unfolding pack_from in_order
packed h rs p = bucket p.bits (pack_from 8 (in_order (rows_of h rs p.bits p.value)))

-- the frontier: the largest record end
unfoldable pub frontier_of : List Record → ℕ
frontier_of [] = 8
frontier_of (r ∷ rs) = max (r.start + (8 + length r.code)) (frontier_of rs)

-- the record goes at the frontier, its slot in code order
unfoldable pub at_frontier : List Record → Row → List Record
unfolding frontier_of insert
at_frontier rs r = insert (λ q. q.code) (record_at (frontier_of rs) r) rs

-- if the room between frontier and slots is at least the need, at the frontier; else the page is packed first, then the same
unfoldable pub added : Shape → List Record → Row → List Record
unfolding at_frontier pack_from
added S rs r = pick (leb (frontier_of rs + 4 * length rs + need r) (size S)) (at_frontier rs r) (at_frontier (pack_from 8 (map as_row rs)) r)

-- the first takes page i, each next the lowest free page
unfoldable pub written : List Page → ℕ → List Page → List Page
unfolding find
written gs i [] = gs
written gs i (n ∷ ns) = written (set gs i n) (find is_free (set gs i n)) ns

-- ---- put

abbrev pub place_on : Row → Record → Record
place_on r q = by (order r.code q.code) q (record_at q.start r) q

abbrev pub overwrite_on : Row → Page → Page
overwrite_on r free = free
overwrite_on r (bucket k rs) = bucket k (map (place_on r) rs)

-- put on a known code overwrites the 8 bytes of place
unfoldable pub overwritten : List Page → Row → List Page
unfolding order
overwritten gs r = map (overwrite_on r) gs

-- a bucket that did not exist takes the lowest-numbered free page
abbrev pub new_bucket : (List ℕ → ℕ) → List Page → Row → Option Prefix → List Page
new_bucket h gs r none = gs
new_bucket h gs r (some p) = set gs (find is_free gs) (packed h (r ∷ []) p)

-- the row fits its bucket, of these records
abbrev pub fits_on : Shape → List Record → Row → Bool
fits_on S rs r = leb (needs (r ∷ map as_row rs)) S.capacity

-- A new code that fits its bucket; if it doesn't fit, the new buckets are written packed, in prefix order: the first takes the old page.
abbrev pub put_on : Shape → (List ℕ → ℕ) → List Page → Row → ℕ → Page → List Page
put_on S h gs r i free = new_bucket h gs r (bucket_of (h r.code) (buckets S h (r ∷ rows_in gs)))
put_on S h gs r i (bucket k rs) =
    pick (fits_on S rs r)
    (set gs i (bucket k (added S rs r)))
    (written gs i (map (packed h (r ∷ map as_row rs)) (buckets S h (r ∷ map as_row rs))))

unfoldable pub put_new : Shape → (List ℕ → ℕ) → List Page → Row → List Page
unfolding find added written packed bucket_of
put_new S h gs r = let i : ℕ = find (holds h (h r.code)) gs in put_on S h gs r i (get_or gs i free)

-- ---- remove

-- the record goes and the slots close up
abbrev pub cleared_on : List ℕ → Page → Page
cleared_on c free = free
cleared_on c (bucket k rs) = bucket k (without (λ q. q.code) c rs)

-- the lowest-numbered page among those joined (the emptied one counted)
abbrev pub join_page : (List ℕ → ℕ) → List Page → Prefix → ℕ
join_page h gs p = find (within h p.bits p.value) gs

-- the joined rows are packed into it and the others are cleared
abbrev pub joined : (List ℕ → ℕ) → List Page → List Row → Prefix → List Page
joined h gs rs p = set (map (λ g. pick (within h p.bits p.value g) free g) gs) (join_page h gs p) (packed h rs p)

-- rs is what is left, i the code's page, then the bucket that its prefix has in the partition of rs; a bucket left empty with nothing to join is cleared
abbrev pub remove_on : (List ℕ → ℕ) → List Page → List ℕ → List Row → ℕ → Option Prefix → List Page
remove_on h gs c rs i none = set gs i free
remove_on h gs c rs i (some p) =
    pick (eqb p.bits (depth_on (get_or gs i free)))
    (set gs i (cleared_on c (get_or gs i free)))
    (joined h gs rs p)

unfoldable pub removed : Shape → (List ℕ → ℕ) → List Page → List ℕ → List Page
unfolding find packed bucket_of without
removed S h gs c =
    let rs : List Row = without (λ q. q.code) c (rows_in gs) in
    remove_on h gs c rs (find (holds h (h c)) gs) (bucket_of (h c) (buckets S h rs))
