-- What rows of a prefix need, row by row, and the buckets below a prefix, case by case. Over any page size and hash. Assumes nothing.
use mathlib.Core.Path.{◌≡◌, refl, sym, ap, subst, ◌∙◌}
use mathlib.Core.Bool.{Bool, true, false}
use mathlib.Core.List.{List, [], ◌∷◌, ◌++◌, map, append-nil, Memᴰ}
use mathlib.Core.Logic.{⊎_elim}
use Prim.Native.Nat.{ℕ, zero, suc, ◌+◌, ◌-◌, ◌*◌, ◌/◌, ◌^◌, ◌≤◌, ◌<◌}
use native.Mathlib.Omega.{arith}
use native.Mathlib.Nat.{pow-suc}
use native.Mathlib.Numerals.{add-one}
use lib.Dec.{eqb}
use lib.Pow.{pow_pos, pow_mono}
use lib.ListN.{length, get_or, drop, set, length-append, length-map, length-set}
use Rattle.std.proofs.lemmas.List.{get_or-map}
use lib.Seq.{map-set, drop-cons, drop-length, get_or-set_same, get_or-set_other}
use Rattle.ground.proofs.Tables.{length_tab, get_d_tab}
use Rattle.page.specs.Page.{Slotted, count, code, rows, row_at}
use Rattle.page.proofs.Sums.{len_of_code}
use Rattle.partition.specs.Bits.{top}
use Rattle.partition.specs.declared.Shape.{Shape}
use Rattle.partition.specs.Partition.{Row, Grade, bare, fits, over, keep, need, needs, rows_of, grade, walk, buckets}
use Rattle.partition.proofs.Tree.{pfx, Means}
use Rattle.partition.proofs.Rows.{load, mean_of, mean_one}
use Rattle.ground.proofs.Sides.{side}
use Rattle.partition.proofs.Bits.{top_step, top_lt}
use Rattle.partition.proofs.Laws.{share_fewer}
use Rattle.partition.proofs.Sum.{rows_halves}
use Rattle.partition.proofs.Pages.{rows_every}
use Rattle.partition.proofs.Reorders.{needs_same, needs_append}
use Rattle.partition.proofs.Splice.{walk_bare, walk_fits}
use Rattle.store.specs.Pages.{as_row}
use Rattle.store.proofs.Paging.PageTies.{rows_tab}
use Rattle.store.specs.Moves.{pick}
use Rattle.store_check.proofs.Fills.{Filled, filled_more}
use Rattle.putting.specs.declared.weigh.Weight.{Weight}
use Rattle.putting.specs.Split.{weight, keyed, Each, Told, hashes_in, needs_in, below}

-- ---- what is told of a page's codes and a new one

-- a list that is filled for the slots, and then set for the new code
pub told : (f : List ℕ → ℕ) (g c : List ℕ) {m i : ℕ} {l : List ℕ} → Filled (λ j x. x ≡ f (code g j)) m 0 i l → (n : ℕ) → n ≡ count g → n ≤ i → n < m → (x : ℕ) → x ≡ f c → Told f g c (set l n x)
told f g c {l = l} F n e a b x q = record {
  rows = record {
    long = omega (arith, length-set l n x, F.long);
    at = λ i s. get_or-set_other l n i x 0 (λ w. omega arith) ∙ F.each i (omega arith) (omega arith);
  };
  new = ap (λ k. get_or (set l n x) k 0) (sym e) ∙ get_or-set_same l n x 0 (omega (arith, F.long)) ∙ q;
}

-- the same of weights, one part of each
module _ (of : Weight → ℕ) where
  pub filled_next : (P : ℕ → ℕ → Type 0) {n i : ℕ} (ws : List Weight) → Filled P n 0 i (map of ws) → i < n → (w : Weight) → P i (of w) → Filled P n 0 (i + 1) (map of (set ws i w))
  filled_next P {n} {i} ws F l w p = subst (Filled P n 0 (i + 1)) (sym (map-set of ws i w)) (filled_more P F l p)

  pub told_new : (f : List ℕ → ℕ) (g c : List ℕ) {m i : ℕ} (ws : List Weight) → Filled (λ j x. x ≡ f (code g j)) m 0 i (map of ws) → (n : ℕ) → n ≡ count g → n ≤ i → n < m → (w : Weight) → of w ≡ f c → Told f g c (map of (set ws n w))
  told_new f g c ws F n e a b w q = subst (Told f g c) (sym (map-set of ws n w)) (told f g c F n e a b (of w) q)

module _ (f : List ℕ → ℕ) (of : Weight → ℕ) (g : List ℕ) (ws : List Weight) (d : Weight) where
  pub slot_at : Each f g (map of ws) → (i : ℕ) → i < count g → of (get_or ws i d) ≡ f (code g i)
  slot_at E i l = sym (get_or-map of ws i d 0 (omega (arith, E.long, length-map ws of))) ∙ E.at i l

  pub new_at : (c : List ℕ) → Told f g c (map of ws) → (n : ℕ) → n ≡ count g → of (get_or ws n d) ≡ f c
  new_at c T n e = ap (λ m. of (get_or ws m d)) e ∙ sym (get_or-map of ws (count g) d 0 (omega (arith, T.rows.long, length-map ws of))) ∙ T.new

-- a row of a page needs 76 at most
pub light : (g : List ℕ) (i : ℕ) → Slotted g → i < count g → weight (code g i) ≤ 76
light g i Z l = omega (arith, len_of_code g i Z l, Z.long i l)

module _ (h : List ℕ → ℕ) where
  -- a row's place does not weigh
  keep_any : (b : Bool) (r q : Row) → r.code ≡ q.code → (s t : List Row) → needs s ≡ needs t → needs (keep b r s) ≡ needs (keep b q t)
  unfolding needs need
  keep_any true r q e s t n = λ i. 12 + length (e i) + n i
  keep_any false r q e s t n = n

  pub load_any : (r q : Row) → r.code ≡ q.code → (s t : List Row) (k v : ℕ) → load h s k v ≡ load h t k v → load h (r ∷ s) k v ≡ load h (q ∷ t) k v
  unfolding rows_of
  load_any r q e s t k v n = ap (λ c. needs (keep (eqb (top k (h c)) v) r (rows_of h s k v))) e ∙ keep_any (eqb (top k (h q.code)) v) r q e (rows_of h s k v) (rows_of h t k v) n

  -- one row and the others
  keep_one : (b : Bool) (r : Row) (l : List Row) → needs (keep b r l) ≡ needs (keep b r []) + needs l
  unfolding needs
  keep_one true r l = omega arith
  keep_one false r l = omega arith

  pub load_cons : (r : Row) (l : List Row) (k v : ℕ) → load h (r ∷ l) k v ≡ load h (r ∷ []) k v + load h l k v
  unfolding rows_of
  load_cons r l k v = keep_one (eqb (top k (h r.code)) v) r (rows_of h l k v)

  pub load_none : (k v : ℕ) → load h [] k v ≡ 0
  unfolding rows_of needs
  load_none k v = refl

  keep_pick : (b : Bool) (c : List ℕ) → needs (keep b (keyed c) []) ≡ pick b (weight c) 0
  unfolding needs need
  keep_pick true c = omega arith
  keep_pick false c = refl

  load_pick : (c : List ℕ) (k v : ℕ) → load h (keyed c ∷ []) k v ≡ pick (eqb (top k (h c)) v) (weight c) 0
  unfolding rows_of
  load_pick c k v = keep_pick (eqb (top k (h c)) v) c

  -- as it is told: that of a slot, and that of the new row
  module _ (g c : List ℕ) (ws : List Weight) (d : Weight) (k v : ℕ) (H : Told h g c (hashes_in ws)) (N : Told weight g c (needs_in ws)) where
    pub slot_told : (i : ℕ) → i < count g → pick (eqb (top k (get_or ws i d).hash) v) (get_or ws i d).need 0 ≡ load h (keyed (code g i) ∷ []) k v
    slot_told i l = (λ x. pick (eqb (top k (slot_at h (λ (w : Weight). w.hash) g ws d H.rows i l x)) v) (slot_at weight (λ (w : Weight). w.need) g ws d N.rows i l x) 0) ∙ sym (load_pick (code g i) k v)

    pub new_told : (n : ℕ) → n ≡ count g → pick (eqb (top k (get_or ws n d).hash) v) (get_or ws n d).need 0 ≡ load h (keyed c ∷ []) k v
    new_told n e = (λ x. pick (eqb (top k (new_at h (λ (w : Weight). w.hash) g ws d c H n e x)) v) (new_at weight (λ (w : Weight). w.need) g ws d c N n e x) 0) ∙ sym (load_pick c k v)

  -- ---- a page's rows, slot by slot

  pub load_slot : (g : List ℕ) (i k v : ℕ) → i < count g
      → load h (drop i (map as_row (rows g))) k v ≡ load h (keyed (code g i) ∷ []) k v + load h (drop (i + 1) (map as_row (rows g))) k v
  load_slot g i k v l =
      let rs : List Row = map as_row (rows g) in
      let r : Row = as_row (row_at g i) in
      let n : i < length rs = omega (arith, length-map (rows g) as_row, length_tab (row_at g) (count g)) in
      let e : get_or rs i (keyed []) ≡ r = ap (λ x. get_or x i (keyed [])) (rows_tab g) ∙ get_d_tab (λ j. as_row (row_at g j)) (count g) i (keyed []) l in
      ap (λ x. load h x k v) (drop-cons rs i (keyed []) n ∙ (λ x. e x ∷ drop (sym (add-one i) x) rs))
      ∙ load_cons r (drop (i + 1) rs) k v ∙ ap (λ n. n + load h (drop (i + 1) rs) k v) (load_any r (keyed (code g i)) refl [] [] k v refl)

  pub load_end : (g : List ℕ) (i k v : ℕ) → i ≡ count g → load h (drop i (map as_row (rows g))) k v ≡ 0
  load_end g i k v e =
      let n : i ≡ length (map as_row (rows g)) = e ∙ sym (length-map (rows g) as_row ∙ length_tab (row_at g) (count g)) in
      ap (λ m. load h (drop m (map as_row (rows g))) k v) n ∙ ap (λ l. load h l k v) (drop-length (map as_row (rows g))) ∙ load_none k v

-- ---- buckets

module _ (S : Shape) (h : List ℕ → ℕ) (rs : List Row) where
  abbrev cap : ℕ
  cap = S.capacity

  abbrev G : ℕ → ℕ → Grade
  G j w = grade cap (rows_of h rs j w)

  graded : (k v : ℕ) (g : Grade) → Means cap (load h rs k v) g → G k v ≡ g
  graded k v g m = mean_one cap (load h rs k v) (G k v) g (mean_of cap (rows_of h rs k v)) m

  pub below_none : (k v : ℕ) → load h rs k v ≡ 0 → below S h rs k v ≡ []
  unfolding below
  below_none k v e = ap (λ g. walk G (S.deepest - k) g k v) (graded k v bare e) ∙ walk_bare G (S.deepest - k) k v

  pub below_one : (k v : ℕ) → 0 < load h rs k v → load h rs k v ≤ S.capacity → below S h rs k v ≡ pfx k v ∷ []
  unfolding below
  below_one k v p l = ap (λ g. walk G (S.deepest - k) g k v) (graded k v fits (p, l)) ∙ walk_fits G (S.deepest - k) k v

  pub below_deep : (k v : ℕ) → S.deepest ≤ k → S.capacity < load h rs k v → below S h rs k v ≡ []
  unfolding below
  below_deep k v l o =
      let z : S.deepest - k ≡ 0 = omega arith in
      ap (λ n. walk G n (G k v) k v) z ∙ ap (λ g. walk G 0 g k v) (graded k v over o)

  pub below_two : (k v : ℕ) → k < S.deepest → S.capacity < load h rs k v → below S h rs k v ≡ below S h rs (k + 1) (2 * v) ++ below S h rs (k + 1) (2 * v + 1)
  unfolding below
  below_two k v l o =
      let d : S.deepest - k ≡ suc (S.deepest - (k + 1)) = omega arith in
      ap (λ g. walk G (S.deepest - k) g k v) (graded k v over o) ∙ ap (λ n. walk G n over k v) d
      ∙ (λ i. walk G (S.deepest - (k + 1)) (G (sym (add-one k) i) (2 * v)) (sym (add-one k) i) (2 * v)
      ++ walk G (S.deepest - (k + 1)) (G (sym (add-one k) i) (2 * v + 1)) (sym (add-one k) i) (2 * v + 1))

  grown : (d : ℕ) (g : Grade) (k v : ℕ) → length (walk G d g k v) ≤ 2 ^ d
  unfolding walk
  grown zero bare k v = omega arith
  grown zero fits k v = omega arith
  grown zero over k v = omega arith
  grown (suc d) bare k v = omega arith
  grown (suc d) fits k v = omega (arith, pow_pos (suc d))
  grown (suc d) over k v =
      rw length-append
      (omega (arith, pow-suc 2 d, grown d (G (suc k) (2 * v)) (suc k) (2 * v), grown d (G (suc k) (2 * v + 1)) (suc k) (2 * v + 1)))

  pub below_most : (k v : ℕ) → length (below S h rs k v) ≤ 2 ^ S.deepest
  unfolding below
  below_most k v =
      let l : S.deepest - k ≤ S.deepest = omega arith in
      let m : 2 ^ (S.deepest - k) ≤ 2 ^ S.deepest = pow_mono l in
      omega (arith, grown (S.deepest - k) (G k v) k v)

  -- ---- rows that share their first bits

  halved : (k v : ℕ) → load h rs k v ≡ load h rs (k + 1) (2 * v) + load h rs (k + 1) (2 * v + 1)
  halved k v =
      needs_same (rows_halves h rs k v) ∙ needs_append (rows_of h rs (suc k) (2 * v)) (rows_of h rs (suc k) (2 * v + 1))
      ∙ (λ i. load h rs (sym (add-one k) i) (2 * v) + load h rs (sym (add-one k) i) (2 * v + 1))

  -- where one half has all that do not fit, the buckets are that half's
  one_half : (k v u : ℕ) → k < S.deepest → u / 2 ≡ v → S.capacity < load h rs k v → load h rs (k + 1) u ≡ load h rs k v → below S h rs k v ≡ below S h rs (k + 1) u
  one_half k v u l e o s = ⊎_elim
      (λ a.
      let q : u ≡ 2 * v = omega arith in
      let z : load h rs (k + 1) (2 * v + 1) ≡ 0 = omega (arith, halved k v, s, ap (load h rs (k + 1)) q) in
      below_two k v l o ∙ ap (λ b. below S h rs (k + 1) (2 * v) ++ b) (below_none (k + 1) (2 * v + 1) z) ∙ append-nil (below S h rs (k + 1) (2 * v)) ∙ ap (below S h rs (k + 1)) (sym q))
      (λ a.
      let q : u ≡ 2 * v + 1 = omega arith in
      let z : load h rs (k + 1) (2 * v) ≡ 0 = omega (arith, halved k v, s, ap (load h rs (k + 1)) q) in
      below_two k v l o ∙ ap (λ b. b ++ below S h rs (k + 1) (2 * v + 1)) (below_none (k + 1) (2 * v) z) ∙ ap (below S h rs (k + 1)) (sym q))
      (side u (2 * v + 1))

  -- where all share k bits and do not fit together, all buckets are those below these bits
  pub below_shared : (x k : ℕ) → x < 2 ^ 32 → k ≤ S.deepest → ((q : Row) → Memᴰ q rs → top k (h q.code) ≡ top k x) → S.capacity < needs rs → below S h rs k (top k x) ≡ below S h rs 0 0
  below_shared x zero m l s o = let z : top 0 x < 1 = top_lt x 0 m in let e : top 0 x ≡ 0 = omega arith in ap (below S h rs 0) e
  below_shared x (suc k) m l s o =
      let f : (q : Row) → Memᴰ q rs → top k (h q.code) ≡ top k x = λ q b. share_fewer (h q.code) x k (suc k) (omega arith) (s q b) in
      let a : load h rs k (top k x) ≡ needs rs = ap needs (rows_every h rs k (top k x) f) in
      let b : load h rs (k + 1) (top (suc k) x) ≡ needs rs = ap (λ n. load h rs n (top (suc k) x)) (add-one k) ∙ ap needs (rows_every h rs (suc k) (top (suc k) x) s) in
      ap (λ n. below S h rs n (top (suc k) x)) (sym (add-one k))
      ∙ sym (one_half k (top k x) (top (suc k) x) (omega arith) (top_step x k) (omega (arith, a, o)) (b ∙ sym a)) ∙ below_shared x k m (omega arith) f o

  pub below_all : below S h rs 0 0 ≡ buckets S h rs
  unfolding below buckets
  below_all = let e : S.deepest - 0 ≡ S.deepest = omega arith in ap (λ n. walk G n (G 0 0) 0 0) e

pub double : (k : ℕ) → 2 ^ (k + 1) ≡ 2 * 2 ^ k
double k = ap (λ n. 2 ^ n) (add-one k) ∙ pow-suc 2 k ∙ omega arith
