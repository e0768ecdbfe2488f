-- The cases of document 01 that are marked P, 1 to 9, as one table. Cases 1 to 3 are of the hash, which is any function here; cases 4 to 9 are of the
-- partition alone, 5 to 9 under a hash chosen to give these bits. Assumes nothing.
use Rattle.std.specs.Prelude.{◌≡◌, Bool, true, false, List, [], ◌∷◌, ◌++◌, ℕ, zero, suc, ◌+◌, ◌-◌, ◌%◌, ◌^◌, ◌≤◌, length, replicate}
use Rattle.std.proofs.Math.Option.{Option, some, none}
use Rattle.ground.specs.Says.{Says}
use Rattle.ground.specs.Lists.{byte, tab}
use Rattle.partition.specs.Bits.{shared}
use Rattle.partition.specs.Partition.{Row, S1024, Prefix, needs, buckets, depth_of, entry}
use Rattle.partition.specs.Listing.{Once}

-- n rows that need k bytes each: their codes begin with the bytes b, b + 1, .. , so no code is there twice
abbrev pub rows_needing : ℕ → ℕ → ℕ → List Row
rows_needing zero k b = []
rows_needing (suc n) k b = record { code = b ∷ replicate (k - 13) 0; place = replicate 8 0 } ∷ rows_needing n k (suc b)

-- the hash chosen: a code that begins with the byte 80 + i has bit i, counted from the top, and no other; one that begins with a byte below 80 has none
abbrev pub chosen : List ℕ → ℕ
chosen c = 2 ^ (111 - byte c 0) % 2 ^ 32

abbrev pub pre : ℕ → ℕ → Prefix
pre k v = record { bits = k; value = v }

pub data Case : Type 0 where
  -- the hash of these bytes
  hashing : List ℕ → ℕ → Case
  -- the number of leading bits that the hashes of two codes share
  sharing : List ℕ → List ℕ → ℕ → Case
  -- what rows need, and whether they fit
  needing : List Row → ℕ → Bool → Case
  -- the buckets of rows, the depth, and the whole directory
  parting : List Row → List Prefix → ℕ → List (Option Prefix) → Case
  -- a row more: the number of buckets before, and how many come new
  growing : Row → List Row → ℕ → ℕ → Case

module _ (f : List ℕ → ℕ) where
  abbrev pub Holds : Case → Type 0
  Holds (hashing c n) = f c ≡ n
  Holds (sharing c e n) = shared (f c) (f e) ≡ n
  Holds (needing rs n ok) = Once rs × (needs rs ≡ n) × Says ok (needs rs ≤ S1024.capacity)
  Holds (parting rs ps d es) =
      Once rs × (buckets S1024 chosen rs ≡ ps) × (depth_of (buckets S1024 chosen rs) ≡ d)
      × (tab (λ i. entry (buckets S1024 chosen rs) d i) (2 ^ d) ≡ es)
  Holds (growing r rs n m) = Once (r ∷ rs) × (length (buckets S1024 chosen rs) ≡ n) × (length (buckets S1024 chosen (r ∷ rs)) ≡ n + m)

  abbrev pub All : List Case → Type 0
  All [] = Unit {0}
  All (c ∷ cs) = Holds c × All cs

-- "a", "b" and "c"
abbrev pub a : List ℕ
a = 97 ∷ []

abbrev pub b : List ℕ
b = 98 ∷ []

abbrev pub c : List ℕ
c = 99 ∷ []

-- rows at 000000, whose codes begin with the bytes from 0 on, and rows whose hash has one bit: at 1, 01, 001, ..
abbrev pub thirteen : List Row
thirteen = rows_needing 13 76 0

abbrev pub at_1 : List Row
at_1 = rows_needing 1 76 80

abbrev pub at_01 : List Row
at_01 = rows_needing 1 76 81

abbrev pub ladder : List Row
ladder = rows_needing 6 13 80 ++ rows_needing 72 13 0

abbrev pub large : Row
large = record { code = 72 ∷ replicate 63 0; place = replicate 8 0 }

abbrev pub entries_naming : ℕ → ℕ → ℕ → List (Option Prefix)
entries_naming n k v = replicate n (some (pre k v))

abbrev pub table : List Case
table =
    -- 1
    hashing [] 2_166_136_261
    -- 2
    ∷ hashing a 0xE40C292C
    ∷ hashing b 0xE70C2DE5
    ∷ hashing c 0xE60C2C52
    -- 3
    ∷ sharing a b 6
    ∷ sharing b c 7
    -- 4
    ∷ needing (rows_needing 13 76 0) 988 true
    ∷ needing (rows_needing 14 76 0) 1064 false
    ∷ needing (rows_needing 78 13 0) 1014 true
    ∷ needing (rows_needing 79 13 0) 1027 false
    -- 5
    ∷ parting (thirteen ++ at_01) (pre 2 0b00 ∷ pre 2 0b01 ∷ []) 2 (entries_naming 1 2 0b00 ++ entries_naming 1 2 0b01 ++ (none ∷ none ∷ []))
    -- 6
    ∷ parting (thirteen ++ at_01 ++ at_1) (pre 2 0b00 ∷ pre 2 0b01 ∷ pre 1 0b1 ∷ []) 2 (entries_naming 1 2 0b00 ++ entries_naming 1 2 0b01 ++ entries_naming 2 1 0b1)
    -- 7
    ∷ parting (thirteen ++ at_1) (pre 1 0b0 ∷ pre 1 0b1 ∷ []) 1 (entries_naming 1 1 0b0 ++ entries_naming 1 1 0b1)
    -- 8
    ∷ parting thirteen (pre 0 0 ∷ []) 0 (entries_naming 1 0 0)
    -- 9
    ∷ parting ladder (pre 0 0 ∷ []) 0 (entries_naming 1 0 0)
    ∷ parting (large ∷ ladder) (pre 6 0 ∷ pre 6 1 ∷ pre 5 1 ∷ pre 4 1 ∷ pre 3 1 ∷ pre 2 1 ∷ pre 1 1 ∷ []) 6
    (entries_naming 1 6 0 ++ entries_naming 1 6 1 ++ entries_naming 2 5 1 ++ entries_naming 4 4 1 ++ entries_naming 8 3 1 ++ entries_naming 16 2 1 ++ entries_naming 32 1 1)
    ∷ growing large ladder 1 6
    ∷ []

-- The edges that these leave open: rows that need just 1,016 are a bucket and of 1,017 none; the eighth bit parts rows that do not fit, into buckets of
-- depth 8; where rows that share 8 bits do not fit there is no bucket, though the ninth bit would part them.
abbrev pub just : List Row
just = rows_needing 12 76 0 ++ rows_needing 8 13 20

abbrev pub beyond : List Row
beyond = rows_needing 12 76 0 ++ rows_needing 7 13 20 ++ rows_needing 1 14 30

abbrev pub edges : List Case
edges =
    needing just 1016 true
    ∷ needing beyond 1017 false
    ∷ parting just (pre 0 0 ∷ []) 0 (entries_naming 1 0 0)
    ∷ parting beyond [] 0 (none ∷ [])
    ∷ parting (thirteen ++ rows_needing 1 76 87) (pre 8 0 ∷ pre 8 1 ∷ []) 8 (entries_naming 1 8 0 ++ entries_naming 1 8 1 ++ replicate 254 none)
    ∷ parting (thirteen ++ rows_needing 1 76 88) [] 0 (none ∷ [])
    ∷ []
