-- A run of entries that are all one number, and as many as there are of it, is exactly the entries that are it. Assumes nothing.
use mathlib.Core.Path.{◌≡◌, refl, ap, ◌∙◌}
use mathlib.Core.Bool.{Bool, true, false}
use mathlib.Core.List.{List}
use mathlib.Core.Logic.{⊎_elim, ◌↔◌}
use Prim.Native.Nat.{ℕ, zero, suc, ◌+◌, ◌-◌, ◌≤◌, ◌<◌}
use native.Mathlib.Omega.{arith}
use lib.Dec.{eqb, ltb}
use lib.ListN.{get_or}
use borrow.Author.Tests.{eq-eqb}
use Rattle.ground.specs.Says.{Says}
use Rattle.ground.specs.Lists.{total}
use Rattle.ground.proofs.Sides.{side}
use Rattle.ground.proofs.Tests.{says_true, says_one, says_same, says_ltb, says_eqb}
use Rattle.ground.proofs.Tables.{total_same}
use Rattle.page.proofs.Sums.{total_more, total_none}
use Rattle.store.specs.Moves.{pick}
use Rattle.store_check.specs.Directory.{AllAre}
use Rattle.store_check.specs.Heaps.{heap}

-- of the entries up to m, exactly those from a up to b are x
abbrev pub Exactly : List ℕ → ℕ → ℕ → ℕ → ℕ → Type 0
Exactly dir m a b x = (i : ℕ) → i < m → (get_or dir i 0 ≡ x) ↔ ((a ≤ i) × (i < b))

-- sums of numbers that are each at most another's are equal only where all are
rise : (f g : ℕ → ℕ) (n : ℕ) → ((i : ℕ) → i < n → f i ≤ g i) → total f n ≤ total g n
unfolding total
rise f g zero h = omega arith
rise f g (suc n) h =
    let a : total (λ i. f (suc i)) n ≤ total (λ i. g (suc i)) n = rise (λ i. f (suc i)) (λ i. g (suc i)) n (λ i l. h (suc i) (omega arith)) in
    omega (arith, h zero (omega arith))

tight : (f g : ℕ → ℕ) (n : ℕ) → ((i : ℕ) → i < n → f i ≤ g i) → total g n ≤ total f n → (i : ℕ) → i < n → g i ≤ f i
unfolding total
tight f g zero h e i l = absurd (omega arith)
tight f g (suc n) h e zero l =
    let a : total (λ i. f (suc i)) n ≤ total (λ i. g (suc i)) n = rise (λ i. f (suc i)) (λ i. g (suc i)) n (λ i l. h (suc i) (omega arith)) in
    omega arith
tight f g (suc n) h e (suc i) l = tight (λ i. f (suc i)) (λ i. g (suc i)) n (λ i l. h (suc i) (omega arith)) (omega (arith, h zero (omega arith))) i (omega arith)

pick_rise : (a b : Bool) → (a ≡ true → b ≡ true) → pick a 1 0 ≤ pick b 1 0
pick_rise true true h = omega arith
pick_rise true false h = absurd (untrue (h refl))
  where
    untrue : false ≡ true → ⊥
    untrue e = let n : ◌≡◌ {A = ℕ} 0 1 = ap (λ b. pick b 1 0) e in omega arith
pick_rise false b h = omega arith

pick_up : (a b : Bool) → pick b 1 0 ≤ pick a 1 0 → b ≡ true → a ≡ true
pick_up true b h e = refl
pick_up false b h e = let n : ◌≡◌ {A = ℕ} (pick b 1 0) 1 = ap (λ x. pick x 1 0) e in absurd (omega arith)

-- whether i is from a up to b
inside : ℕ → ℕ → ℕ → Bool
inside a b i = pick (ltb i a) false (ltb i b)

inside_says : (a b i : ℕ) → Says (inside a b i) ((a ≤ i) × (i < b))
unfolding inside
inside_says a b i = go (ltb i a) (says_ltb i a (λ l. l) (λ l. l))
  where
    go : (t : Bool) → Says t (i < a) → Says (pick t false (ltb i b)) ((a ≤ i) × (i < b))
    go true l = λ x. omega (arith, l, x.0)
    go false n = says_ltb i b (λ l. (⊎_elim (λ k. absurd (n k)) (λ k. k) (side i a), l)) (λ x. x.1)

counts_one : {P : Type 0} (t : Bool) → Says t P → P → ◌≡◌ {A = ℕ} (pick t 1 0) 1
counts_one true s p = refl
counts_one false s p = absurd (s p)

counts_none : {P : Type 0} (t : Bool) → Says t P → (P → ⊥) → ◌≡◌ {A = ℕ} (pick t 1 0) 0
counts_none true s n = absurd (n s)
counts_none false s n = refl

-- how many numbers below m are in the run: none before it, then each, then no more
module _ (a b : ℕ) (up : a ≤ b) where
  abbrev met : ℕ → ℕ
  met m = total (λ i. pick (inside a b i) 1 0) m

  met_one : (m : ℕ) → a ≤ m → m < b → met (suc m) ≡ met m + 1
  met_one m l h =
      let e : suc m ≡ m + 1 = omega arith in
      ap met e ∙ total_more (λ i. pick (inside a b i) 1 0) m ∙ ap (λ x. met m + x) (counts_one {P = (a ≤ m) × (m < b)} (inside a b m) (inside_says a b m) (l, h))

  met_none : (m : ℕ) → ((a ≤ m) × (m < b) → ⊥) → met (suc m) ≡ met m
  met_none m n =
      let e : suc m ≡ m + 1 = omega arith in
      let z : met m + 0 ≡ met m = omega arith in
      ap met e ∙ total_more (λ i. pick (inside a b i) 1 0) m ∙ ap (λ x. met m + x) (counts_none {P = (a ≤ m) × (m < b)} (inside a b m) (inside_says a b m) n) ∙ z

  run_before : (m : ℕ) → m ≤ a → met m ≡ 0
  run_before zero l = total_none (λ i. pick (inside a b i) 1 0)
  run_before (suc m) l = met_none m (λ x. omega (arith, x.0)) ∙ run_before m (omega arith)

  run_in : (m : ℕ) → a ≤ m → m ≤ b → met m + a ≡ m
  run_in zero l h = omega (arith, total_none (λ i. pick (inside a b i) 1 0))
  run_in (suc m) l h = ⊎_elim (λ lt. omega (arith, run_before (suc m) lt)) (λ ge. omega (arith, met_one m ge (omega arith), run_in m ge (omega arith))) (side m a)

  run_past : (m : ℕ) → b ≤ m → met m + a ≡ b
  run_past zero h = omega (arith, total_none (λ i. pick (inside a b i) 1 0))
  run_past (suc m) h = ⊎_elim (λ lt. omega (arith, run_in (suc m) (omega arith) lt)) (λ ge. omega (arith, met_none m (λ x. omega (arith, x.1)), run_past m ge)) (side m b)

module _ (dir : List ℕ) (m p a b : ℕ) (up : a ≤ b) (within : b ≤ m) where
  abbrev count : ℕ
  count = heap (λ i. get_or dir i 0) (λ i. 1) m p

  run_length : total (λ i. pick (inside a b i) 1 0) m ≡ b - a
  run_length = omega (arith, run_past a b up m within)

  is_p : (i : ℕ) → Says (eqb (get_or dir i 0) p) (get_or dir i 0 ≡ p)
  is_p i = says_eqb (get_or dir i 0) p (λ e. e) (λ e. e)

  pub exactly_counted : AllAre dir a b p → count ≡ b - a → Exactly dir m a b p
  exactly_counted all e i l = (
    (λ q. true_says (pick_up (inside a b i) (eqb (get_or dir i 0) p)
        (tight (λ i. pick (inside a b i) 1 0) (λ i. pick (eqb (get_or dir i 0) p) 1 0) m
        (λ j _. pick_rise (inside a b j) (eqb (get_or dir j 0) p) (λ t. let x = says_true {P = (a ≤ j) × (j < b)} (inside a b j) t (inside_says a b j) in eq-eqb (get_or dir j 0) p (all j x.0 x.1)))
        (omega (arith, e, run_length)) i l)
        (eq-eqb (get_or dir i 0) p q))),
    (λ x. all i x.0 x.1),
  )
    where
      true_says : inside a b i ≡ true → (a ≤ i) × (i < b)
      true_says t = says_true {P = (a ≤ i) × (i < b)} (inside a b i) t (inside_says a b i)

  pub counted_exactly : Exactly dir m a b p → AllAre dir a b p × (count ≡ b - a)
  counted_exactly x = (
    (λ i l h. (x i (omega arith)).1 (l, h)),
    total_same _ _ m (λ i l. ap (λ t. pick t 1 0)
        (says_one ((a ≤ i) × (i < b)) (eqb (get_or dir i 0) p) (inside a b i) (says_same {P = get_or dir i 0 ≡ p} (eqb (get_or dir i 0) p) (is_p i) (x i l).0 (x i l).1) (inside_says a b i)))
        ∙ run_length,
  )
