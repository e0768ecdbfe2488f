-- Amounts in cells: one more falls to its cell, and the amount of a run of cells is a difference of two sums. Assumes nothing.
use mathlib.Core.Path.{◌≡◌, refl, sym, ap, ◌∙◌}
use mathlib.Core.Bool.{Bool, true, false}
use mathlib.Core.List.{List}
use mathlib.Core.Logic.{◌⊎◌, inl, inr, ⊎_elim}
use Prim.Native.Nat.{ℕ, zero, suc, ◌+◌, ◌*◌, ◌≤◌, ◌<◌}
use native.Mathlib.Omega.{arith}
use lib.Dec.{eqb, ltb}
use lib.ListN.{length, get_or, set, length-set}
use lib.Seq.{get_or-set_same, get_or-set_other}
use borrow.Author.Tests.{eq-eqb, ne_eqb}
use Rattle.ground.specs.Says.{Says}
use Rattle.ground.specs.Lists.{total}
use Rattle.ground.proofs.Sides.{side, same}
use Rattle.ground.proofs.Tests.{says_eqb, says_ltb}
use Rattle.ground.proofs.Tables.{total_same}
use Rattle.page.proofs.Sums.{total_more, total_none}
use Rattle.words.specs.Zeros.{Zero}
use Rattle.store.specs.Moves.{pick}
use Rattle.store_check.specs.Heaps.{heap, below, Heaped}

total_add : (f g : ℕ → ℕ) (n : ℕ) → total (λ i. f i + g i) n ≡ total f n + total g n
unfolding total
total_add f g zero = refl
total_add f g (suc n) = let ih : total (λ i. f (suc i) + g (suc i)) n ≡ total (λ i. f (suc i)) n + total (λ i. g (suc i)) n = total_add (λ i. f (suc i)) (λ i. g (suc i)) n in omega arith

total_most : (f : ℕ → ℕ) (n c : ℕ) → ((i : ℕ) → i < n → f i ≤ c) → total f n ≤ c * n
total_most f zero c h = omega (arith, total_none f)
total_most f (suc n) c h =
    let ih : total f n ≤ c * n = total_most f n c (λ i l. h i (omega arith)) in
    let e : n + 1 ≡ suc n = omega arith in
    let m : c * suc n ≡ c * n + c = omega arith in
    ap_le (total f (suc n)) (total f n) (f n) (c * n) c (c * suc n) (sym (ap (total f) e) ∙ total_more f n) ih (h n (omega arith)) m
  where
    ap_le : (a b d x y z : ℕ) → a ≡ b + d → b ≤ x → d ≤ y → z ≡ x + y → a ≤ z
    ap_le a b d x y z e f g h = omega arith

pick_most : (b : Bool) (x c : ℕ) → x ≤ c → pick b x 0 ≤ c
pick_most true x c l = l
pick_most false x c l = omega arith

-- h says that one of the two holds that f and g say, and not both do
pick_add : {P Q R : Type 0} (f g h : Bool) → Says f P → Says g Q → Says h R → (P → R) → (Q → R) → (R → P ⊎ Q) → (P → Q → ⊥) → (x : ℕ) → pick h x 0 ≡ pick f x 0 + pick g x 0
pick_add true true h p q r a b c d x = absurd (d p q)
pick_add true false true p q r a b c d x = omega arith
pick_add true false false p q r a b c d x = absurd (r (a p))
pick_add false true true p q r a b c d x = omega arith
pick_add false true false p q r a b c d x = absurd (r (b q))
pick_add false false true p q r a b c d x = absurd (⊎_elim p q (c r))
pick_add false false false p q r a b c d x = omega arith

-- x is in the run from a up to b
abbrev In : ℕ → ℕ → ℕ → Type 0
In a b x = (a ≤ x) × (x < b)

pick_run : (f g h : Bool) (a b c x : ℕ) → a ≤ b → b ≤ c → Says f (In a b x) → Says g (In b c x) → Says h (In a c x) → (y : ℕ) → pick h y 0 ≡ pick f y 0 + pick g y 0
pick_run f g h a b c x l m p q r = pick_add {P = In a b x} {Q = In b c x} {R = In a c x} f g h p q r
    (λ i. (i.0, omega (arith, i.1))) (λ i. (omega (arith, i.0), i.1)) (λ i. ⊎_elim (λ y. inl (i.0, y)) (λ y. inr (y, i.1)) (side x b)) (λ i j. omega (arith, i.1, j.0))

below_says : (x v : ℕ) → Says (ltb x v) (In 0 v x)
below_says x v = says_ltb x v (λ l. (omega arith, l)) (λ i. i.1)

module _ (t l : ℕ → ℕ) where
  -- cells that are all zero
  pub heaped_none : (m : ℕ) (cells : List ℕ) → length cells ≡ m → Zero cells → Heaped t l 0 m cells
  heaped_none m cells e z = record { long = e; each = λ v _. z v ∙ sym (total_none (λ i. pick (eqb (t i) v) (l i) 0)) }

  pub heaped_more : {n m x y : ℕ} {cells : List ℕ} → Heaped t l n m cells → x ≡ t n → x < m → y ≡ get_or cells x 0 + l n → Heaped t l (n + 1) m (set cells x y)
  heaped_more {n} {m} {x} {y} {cells} H e k f = record {
    long = length-set cells x y ∙ H.long;
    each = λ v b. ⊎_elim
        (λ q.
        let p : eqb (t n) v ≡ true = eq-eqb (t n) v (sym e ∙ q) in
        let g : get_or cells x 0 ≡ heap t l n v = ap (λ i. get_or cells i 0) q ∙ H.each v b in
        ap (λ i. get_or (set cells x y) i 0) (sym q) ∙ get_or-set_same cells x y 0 (omega (arith, H.long)) ∙ f ∙ ap (λ i. i + l n) g
        ∙ ap (λ r. heap t l n v + pick r (l n) 0) (sym p) ∙ sym (total_more (λ i. pick (eqb (t i) v) (l i) 0) n))
        (λ q.
        let p : eqb (t n) v ≡ false = ne_eqb (t n) v (λ i. q (e ∙ i)) in
        let z : heap t l n v ≡ heap t l n v + 0 = omega arith in
        get_or-set_other cells x v y 0 (λ i. q (sym i)) ∙ H.each v b ∙ z
        ∙ ap (λ r. heap t l n v + pick r (l n) 0) (sym p) ∙ sym (total_more (λ i. pick (eqb (t i) v) (l i) 0) n))
        (same x v);
  }

  module _ (n : ℕ) where
    -- the amount of a run of cells: r says of each whether it falls into the run
    pub between : (r : ℕ → Bool) (a b : ℕ) → a ≤ b → ((i : ℕ) → i < n → Says (r i) ((a ≤ t i) × (t i < b))) → below t l n b ≡ below t l n a + total (λ i. pick (r i) (l i) 0) n
    between r a b le says =
        total_same _ _ n (λ i k. pick_run (ltb (t i) a) (r i) (ltb (t i) b) 0 a b (t i) (omega arith) le (below_says (t i) a) (says i k) (below_says (t i) b) (l i))
        ∙ total_add (λ i. pick (ltb (t i) a) (l i) 0) (λ i. pick (r i) (l i) 0) n

    below_none : (k : ℕ) → k ≤ n → total (λ i. pick (ltb (t i) 0) (l i) 0) k ≡ 0
    below_none k m =
        let z : total (λ i. pick (ltb (t i) 0) (l i) 0) k ≤ 0 * k = total_most _ k 0 (λ i _. pick_no (ltb (t i) 0) (t i) (below_says (t i) 0) (l i)) in
        omega arith
      where
        pick_no : (b : Bool) (x : ℕ) → Says b (In 0 0 x) → (y : ℕ) → pick b y 0 ≤ 0
        pick_no true x s y = absurd (omega (arith, s.1))
        pick_no false x s y = omega arith

    -- the cells below v, added up
    pub cells_below : (v : ℕ) → total (heap t l n) v ≡ below t l n v
    cells_below zero = total_none (heap t l n) ∙ sym (below_none n (omega arith))
    cells_below (suc v) =
        let e : suc v ≡ v + 1 = omega arith in
        ap (total (heap t l n)) e ∙ total_more (heap t l n) v ∙ ap (λ x. x + heap t l n v) (cells_below v)
        ∙ sym (between (λ i. eqb (t i) v) v (suc v) (omega arith) (λ i _. says_eqb (t i) v (λ q. (omega arith, omega arith)) (λ q. omega (arith, q.0, q.1))))

    module _ (c : ℕ) (small : (i : ℕ) → i < n → l i ≤ c) where
      pub heap_most : (v : ℕ) → heap t l n v ≤ c * n
      heap_most v = total_most _ n c (λ i k. pick_most (eqb (t i) v) (l i) c (small i k))

      pub below_most : (v : ℕ) → below t l n v ≤ c * n
      below_most v = total_most _ n c (λ i k. pick_most (ltb (t i) v) (l i) c (small i k))
