-- Laws of totals and of an insertion's rows. Assumes nothing.
use Prim.Native.Nat.{ℕ, zero, suc, ◌+◌, ◌*◌, ◌-◌, ◌/◌, ◌≤◌, ◌<◌}
use mathlib.Core.Path.{◌≡◌, refl, sym, ap, ◌∙◌}
use mathlib.Core.List.{List}
use native.Mathlib.Omega.{arith}
use native.Mathlib.Numerals.{add-one}
use lib.ListN.{length, get_or, take, drop, length-append, length-take, length-drop, get_or-append}
use lib.Seq.{get_or-take, get_or-append_seam, length-take-le}
use Rattle.ground.specs.Lists.{part, total, insert_at}
use Rattle.ground.proofs.Parts.{length_part}
use Rattle.words.specs.Codes.{GoodCode}
use Rattle.page.specs.Page.{Slotted, BucketPage, Record, rows, row_at, count, frontier, off, len, code, place, slot_need}
use Rattle.page.specs.Steps.{Inserted}
use Rattle.page.proofs.Slots.{Lies, lies}
use Rattle.ground.proofs.Tables.{length_tab, get_d_tab}

total_suc : (f : ℕ → ℕ) (n : ℕ) → total f (suc n) ≡ total f n + f n
unfolding total
total_suc f zero = omega arith
total_suc f (suc n) = let ih : total (λ i. f (suc i)) (suc n) ≡ total (λ i. f (suc i)) n + f (suc n) = total_suc (λ i. f (suc i)) n in omega arith

pub total_more : (f : ℕ → ℕ) (n : ℕ) → total f (n + 1) ≡ total f n + f n
total_more f n = rw add-one (total_suc f n)

pub total_none : (f : ℕ → ℕ) → total f 0 ≡ 0
unfolding total
total_none f = refl

total_up : (f : ℕ → ℕ) (m d : ℕ) → total f m ≤ total f (m + d)
total_up f m zero = let e : m + zero ≡ m = omega arith in rw e (omega arith)
total_up f m (suc d) =
    let e : m + suc d ≡ suc (m + d) = omega arith in
    let ih : total f m ≤ total f (m + d) = total_up f m d in
    rw e (omega (arith, total_suc f (m + d)))

pub total_le : (f : ℕ → ℕ) (m n : ℕ) → m ≤ n → total f m ≤ total f n
total_le f m n h = let e : m + (n - m) ≡ n = omega arith in rw e at (total_up f m (n - m))

pub total_need : (p : List ℕ) (n : ℕ) → total (slot_need p) n ≡ 4 * n + total (len p) n
total_need p zero = omega (arith, total_none (slot_need p), total_none (len p))
total_need p (suc n) = let ih : total (slot_need p) n ≡ 4 * n + total (len p) n = total_need p n in omega (arith, total_suc (slot_need p) n, total_suc (len p) n)

total_least : (f : ℕ → ℕ) (n : ℕ) → ((i : ℕ) → i < n → 13 ≤ f i) → 13 * n ≤ total f n
total_least f zero e = omega arith
total_least f (suc n) e = omega (arith, total_suc f n, e n (omega arith), total_least f n (λ i l. e i (omega arith)))

-- a row needs at least 13 bytes, so a page has at most (its size less 8) / 13 rows
pub row_room : (p : List ℕ) → Slotted p → 13 * count p + 8 ≤ length p
row_room p b = omega (arith, b.unused, b.least, total_least (slot_need p) (count p) (λ i l. omega (arith, b.short i l)))

pub most_rows : (p : List ℕ) → Slotted p → count p ≤ (length p - 8) / 13
most_rows p b = omega (arith, row_room p b)

-- row count (1 to 78)
pub row_count : (p : List ℕ) → BucketPage p → length p ≡ 1024 → (1 ≤ count p) × (count p ≤ 78)
row_count p b l = (b.some, omega (arith, row_room p b.rules))

pub len_of_code : (p : List ℕ) (i : ℕ) → Slotted p → i < count p → len p i ≡ 8 + length (code p i)
unfolding code
len_of_code p i b h = let l : Lies p i = lies i b h in omega (arith, length_part p (off p i + 8) (len p i - 8) (omega arith))

pub slot_code : (p : List ℕ) (i : ℕ) → Slotted p → i < count p → GoodCode (code p i)
slot_code p i b h = let l : Lies p i = lies i b h in record { least = omega (arith, len_of_code p i b h); most = omega (arith, len_of_code p i b h) }

module _ (p : List ℕ) (s : ℕ) (c pl q : List ℕ) (I : Inserted p s c pl q) (h : s ≤ count p) where
  pub count_more : count q ≡ count p + 1
  unfolding insert_at
  count_more =
      let e : length (rows q) ≡ length (insert_at s (record { start = frontier p; place = pl; code = c }) (rows p)) = ap length I.rows_of in
      omega (arith, length_tab (row_at q) (count q), length_tab (row_at p) (count p), simp (length-append, length-take, length-drop) at e)

  pub row_lo : (i : ℕ) → i < s → row_at q i ≡ row_at p i
  unfolding insert_at
  row_lo i l =
      let t : length (take s (rows p)) ≡ s = length-take-le s (rows p) (omega (arith, length_tab (row_at p) (count p))) in
      sym (get_d_tab (row_at q) (count q) i (row_at p 0) (omega (arith, count_more)))
      ∙ ap (λ x. get_or x i (row_at p 0)) I.rows_of
      ∙ get_or-append (take s (rows p)) _ (row_at p 0) i (omega arith)
      ∙ get_or-take s (rows p) i (row_at p 0) l
      ∙ get_d_tab (row_at p) (count p) i (row_at p 0) (omega arith)

  pub row_at_lem : ◌≡◌ {A = Record} (row_at q s) (record { start = frontier p; place = pl; code = c })
  unfolding insert_at
  row_at_lem =
      let t : length (take s (rows p)) ≡ s = length-take-le s (rows p) (omega (arith, length_tab (row_at p) (count p))) in
      sym (get_d_tab (row_at q) (count q) s (row_at p 0) (omega (arith, count_more)))
      ∙ ap (λ x. get_or x s (row_at p 0)) I.rows_of
      ∙ rw t at (get_or-append_seam (take s (rows p)) (record { start = frontier p; place = pl; code = c }) (drop s (rows p)) (row_at p 0))

-- the part of a page that holds slot i's place
pub place_part : (p : List ℕ) (i o : ℕ) → o ≡ off p i → take ((o + 8) - o) (drop o p) ≡ place p i
unfolding place part
place_part p i o e = let n : (o + 8) - o ≡ 8 = omega arith in λ k. take (n k) (drop (e k) p)
