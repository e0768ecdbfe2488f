-- A page that satisfies the rules is settled by its length, its depth and its rows. Assumes nothing.
use Prim.Native.Nat.{ℕ, zero, suc, ◌+◌, ◌*◌, ◌-◌, ◌/◌, ◌≤◌, ◌<◌}
use mathlib.Core.Path.{◌≡◌, sym, ap, ◌∙◌}
use mathlib.Core.Logic.{◌⊎◌, inl, inr, ⊎_elim}
use mathlib.Core.List.{List}
use native.Mathlib.Omega.{arith}
use lib.ListN.{length, get_or}
use lib.Seq.{ext_get_or}
use Rattle.ground.specs.Lists.{byte, total}
use Rattle.words.specs.Le.{le32}
use Rattle.ground.proofs.Sides.{side}
use Rattle.ground.proofs.Parts.{byte_part, length_part}
use Rattle.words.proofs.Bytes.{le16_bytes, le32_byte}
use Rattle.page.specs.Page.{Slotted, In, rows, row_at, slot_need, word, off, len, kind, place, code, count, frontier, free, depth, slot_at}
use Rattle.ground.proofs.Tables.{length_tab, get_d_tab, total_same}
use Rattle.page.proofs.Slots.{Lies, lies}

-- a slot's word from its parts
word_is : (p : List ℕ) (i : ℕ) → word p i ≡ off p i + 16384 * len p i + 268435456 * kind p i
unfolding off len kind
word_is p i = omega arith

-- the record that byte k is of, or that there is none
owner : (p : List ℕ) (k n : ℕ) → ((i : ℕ) × (i < n) × In p i k) ⊎ ((i : ℕ) → i < n → In p i k → ⊥)
owner p k zero = inr (λ i h a. absurd (omega arith))
owner p k (suc n) = ⊎_elim (λ f. inl (f.0, omega (arith, f.1), f.2)) (λ none. at none (side k (off p n)) (side k (off p n + len p n))) (owner p k n)
  where
    last : ((i : ℕ) → i < n → In p i k → ⊥) → (In p n k → ⊥) → (i : ℕ) → i < suc n → In p i k → ⊥
    last none no_n i h a = ⊎_elim (λ l. none i l a) (λ g. let e : i ≡ n = omega arith in no_n (rw e at a)) (side i n)

    at : ((i : ℕ) → i < n → In p i k → ⊥) → (k < off p n) ⊎ (off p n ≤ k) → (k < off p n + len p n) ⊎ (off p n + len p n ≤ k) → ((i : ℕ) × (i < suc n) × In p i k) ⊎ ((i : ℕ) → i < suc n → In p i k → ⊥)
    at none (inl l) y = inr (last none (λ a. omega (arith, a.from)))
    at none (inr g) (inl l) = inl (n, omega arith, record { from = g; to = l })
    at none (inr g) (inr g₂) = inr (last none (λ a. omega (arith, a.to)))

module _ (p q : List ℕ) (P : Slotted p) (Q : Slotted q) (l : length p ≡ length q) (d : depth p ≡ depth q) (e : rows p ≡ rows q) where
  counts : count p ≡ count q
  counts = sym (length_tab (row_at p) (count p)) ∙ ap length e ∙ length_tab (row_at q) (count q)

  row : (i : ℕ) → i < count p → row_at p i ≡ row_at q i
  row i h = sym (get_d_tab (row_at p) (count p) i (row_at p 0) h) ∙ ap (λ t. get_or t i (row_at p 0)) e ∙ get_d_tab (row_at q) (count q) i (row_at p 0) (omega (arith, counts))

  offs : (i : ℕ) → i < count p → off p i ≡ off q i
  offs i h = ap (λ r. r.start) (row i h)

  lens : (i : ℕ) → i < count p → len p i ≡ len q i
  unfolding code
  lens i h =
      let a : Lies p i = lies i P h in
      let b : Lies q i = lies i Q (omega (arith, counts)) in
      let m : length (code p i) ≡ length (code q i) = ap (λ r. length r.code) (row i h) in
      omega (arith, m, length_part p (off p i + 8) (len p i - 8) (omega arith), length_part q (off q i + 8) (len q i - 8) (omega arith))

  words : (i : ℕ) → i < count p → word p i ≡ word q i
  words i h = omega (arith, word_is p i, word_is q i, offs i h, lens i h, P.kinds i h, Q.kinds i (omega (arith, counts)))

  frontiers_some : 1 ≤ count p → frontier p ≡ frontier q
  frontiers_some h =
      let t : (i : ℕ) × (i < count p) × (off p i + len p i ≡ frontier p) = P.top h in
      let u : (i : ℕ) × (i < count q) × (off q i + len q i ≡ frontier q) = Q.top (omega (arith, counts)) in
      let hu : u.0 < count p = omega (arith, counts, u.1) in
      omega (arith, t.2, u.2, P.inside u.0 hu, Q.inside t.0 (omega (arith, counts, t.1)), offs t.0 t.1, lens t.0 t.1, offs u.0 hu, lens u.0 hu)

  frontiers : frontier p ≡ frontier q
  frontiers = ⊎_elim (λ none. P.empty (omega arith) ∙ sym (Q.empty (omega (arith, counts)))) (λ h. frontiers_some h) (side (count p) 1)

  frees : free p ≡ free q
  frees =
      let t : total (slot_need p) (count p) ≡ total (slot_need q) (count p) = total_same (slot_need p) (slot_need q) (count p) (λ i h. omega (arith, lens i h)) in
      let u : total (slot_need p) (count p) ≡ total (slot_need q) (count q) = t ∙ ap (λ n. total (slot_need q) n) counts in
      omega (arith, P.unused, Q.unused, l, u)

  -- a byte of record i
  in_row : (i k : ℕ) → i < count p → In p i k → byte p k ≡ byte q k
  unfolding place code
  in_row i k h a =
      let o : off p i ≡ off q i = offs i h in
      let n : len p i ≡ len q i = lens i h in
      let pl : place p i ≡ place q i = ap (λ r. r.place) (row i h) in
      let cd : code p i ≡ code q i = ap (λ r. r.code) (row i h) in
      let f : off p i ≤ k = a.from in
      let t : k < off p i + len p i = a.to in
      ⊎_elim
      (λ lt. let x : off p i + (k - off p i) ≡ k = omega arith in let y : off q i + (k - off p i) ≡ k = omega arith in
      rw (x, y) at (sym (byte_part p (off p i) 8 (k - off p i) (omega arith)) ∙ ap (λ s. byte s (k - off p i)) pl ∙ byte_part q (off q i) 8 (k - off p i) (omega arith)))
      (λ ge. let x : off p i + 8 + (k - (off p i + 8)) ≡ k = omega arith in let y : off q i + 8 + (k - (off p i + 8)) ≡ k = omega arith in
      rw (x, y) at (sym (byte_part p (off p i + 8) (len p i - 8) (k - (off p i + 8)) (omega arith)) ∙ ap (λ s. byte s (k - (off p i + 8))) cd ∙ byte_part q (off q i + 8) (len q i - 8) (k - (off p i + 8)) (omega arith)))
      (side k (off p i + 8))

  in_q : (i k : ℕ) → i < count q → In q i k → In p i k
  in_q i k h a = record { from = omega (arith, offs i (omega (arith, counts)), a.from); to = omega (arith, offs i (omega (arith, counts)), lens i (omega (arith, counts)), a.to) }

  middle : (k : ℕ) → 8 ≤ k → k + 4 * count p < length p → byte p k ≡ byte q k
  middle k h m = ⊎_elim
      (λ f. in_row f.0 k f.1 f.2)
      (λ none. P.clear k h m none ∙ sym (Q.clear k h (omega (arith, counts)) (λ i g a. none i (omega (arith, counts)) (in_q i k g a))))
      (owner p k (count p))

  in_slots : (k : ℕ) → k < length p → length p ≤ k + 4 * count p → byte p k ≡ byte q k
  unfolding word
  in_slots k h m =
      let i : ℕ = (length p - 1 - k) / 4 in
      let j : ℕ = k - slot_at p ((length p - 1 - k) / 4) in
      let r : frontier p + 4 * count p ≤ length p = P.room in
      let hi : (length p - 1 - k) / 4 < count p = omega arith in
      let x : slot_at p ((length p - 1 - k) / 4) + (k - slot_at p ((length p - 1 - k) / 4)) ≡ k = omega arith in
      let w : le32 p (slot_at p ((length p - 1 - k) / 4)) ≡ le32 q (slot_at p ((length p - 1 - k) / 4)) = rw l (rw l at (words ((length p - 1 - k) / 4) hi)) in
      rw x at (le32_byte p q (slot_at p ((length p - 1 - k) / 4)) (k - slot_at p ((length p - 1 - k) / 4)) P.bytes Q.bytes w (omega arith))

  head : (k : ℕ) → k < 8 → byte p k ≡ byte q k
  head zero h = P.one ∙ sym Q.one
  head (suc zero) h = d
  head (suc (suc zero)) h = (le16_bytes p q 2 P.bytes Q.bytes counts).0
  head (suc (suc (suc zero))) h = (le16_bytes p q 2 P.bytes Q.bytes counts).1
  head (suc (suc (suc (suc zero)))) h = (le16_bytes p q 4 P.bytes Q.bytes frontiers).0
  head (suc (suc (suc (suc (suc zero))))) h = (le16_bytes p q 4 P.bytes Q.bytes frontiers).1
  head (suc (suc (suc (suc (suc (suc zero)))))) h = (le16_bytes p q 6 P.bytes Q.bytes frees).0
  head (suc (suc (suc (suc (suc (suc (suc zero))))))) h = (le16_bytes p q 6 P.bytes Q.bytes frees).1
  head (suc (suc (suc (suc (suc (suc (suc (suc k)))))))) h = absurd (omega arith)

  pub unique : p ≡ q
  unique = ext_get_or 0 p q l (λ k h. ⊎_elim (λ lt. head k lt) (λ ge. ⊎_elim (λ lt. middle k ge lt) (λ g. in_slots k h g) (side (k + 4 * count p) (length p))) (side k 8))
