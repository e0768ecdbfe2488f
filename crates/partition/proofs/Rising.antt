-- Lists in code order, strictly ascending: sorted insertion puts in where the code belongs, leaving out a code takes out where it stands.
-- Over anything that has a code: rows here, records of a page above. Assumes nothing.
use mathlib.Core.Path.{◌≡◌, refl, sym, ap, subst, ◌∙◌}
use mathlib.Core.Logic.{◌⊎◌, inl, inr}
use mathlib.Core.List.Memᴰ
use mathlib.Core.List.{List, [], ◌∷◌, map, Memᴰ}
use Prim.Native.Nat.{ℕ, zero, suc, ◌≤◌, ◌<◌, Ordering}
use native.Mathlib.Omega.{arith}
use Rattle.ground.specs.Lists.{insert_at, remove_at, tab}
use Rattle.words.specs.Codes.{order, Before}
use Rattle.words.proofs.Orders.{order_refl, order_eq, after_order, is_after, is_before, gt_or, not_gt, irrefl, before_trans}
use Rattle.partition.specs.Listing.{by, insert, without, Rising}
use Rattle.partition.proofs.Strict.{strict_ext}

by_gt : {A : Type 0} (o : Ordering) (a b c : A) → o ≡ Ordering.gt → by o a b c ≡ c
by_gt o a b c e = ap (λ p. by p a b c) e

by_le : {A : Type 0} (o : Ordering) (a c : A) → (o ≡ Ordering.gt → ⊥) → by o a a c ≡ a
by_le Ordering.lt a c n = refl
by_le Ordering.eq a c n = refl
by_le Ordering.gt a c n = absurd (n refl)

pub by_ne : {A : Type 0} (o : Ordering) (a b : A) → (o ≡ Ordering.eq → ⊥) → by o a b a ≡ a
by_ne Ordering.lt a b n = refl
by_ne Ordering.eq a b n = absurd (n refl)
by_ne Ordering.gt a b n = refl

by_eq : {A : Type 0} (o : Ordering) (a b : A) → o ≡ Ordering.eq → by o a b a ≡ b
by_eq o a b e = ap (λ p. by p a b a) e

-- of two codes, one before the other, neither is the other
pub unlike : (s t : List ℕ) → Before s t → order s t ≡ Ordering.eq → ⊥
unlike s t b e = irrefl t (subst (λ x. Before x t) (order_eq s t e) b)

pub unlike_after : (s t : List ℕ) → Before t s → order s t ≡ Ordering.eq → ⊥
unlike_after s t b e = irrefl s (subst (λ x. Before x s) (sym (order_eq s t e)) b)

-- the members of a table
pub tab_in : {A : Type 0} (f : ℕ → A) (n i : ℕ) → i < n → Memᴰ (f i) (tab f n)
unfolding tab
tab_in f zero i l = absurd (omega arith)
tab_in f (suc n) zero l = Memᴰ.head refl
tab_in f (suc n) (suc i) l = Memᴰ.tail (tab_in (λ j. f (suc j)) n i (omega arith))

pub tab_member : {A : Type 0} (f : ℕ → A) (n : ℕ) (a : A) → Memᴰ a (tab f n) → (i : ℕ) × (i < n) × (a ≡ f i)
unfolding tab
tab_member f zero a m = absurd (Memᴰ.not-nil m)
tab_member f (suc n) a m = go (Memᴰ.cases_cons m) (tab_member (λ i. f (suc i)) n a)
  where
    go : (a ≡ f 0) ⊎ Memᴰ a (tab (λ i. f (suc i)) n) → (Memᴰ a (tab (λ i. f (suc i)) n) → (i : ℕ) × (i < n) × (a ≡ f (suc i))) → (i : ℕ) × (i < suc n) × (a ≡ f i)
    go (inl e) rest = (0, omega arith, e)
    go (inr t) rest = let w = rest t in (suc w.0, omega (arith, w.1), w.2)

module _ {A : Type 0} (code : A → List ℕ) where
  -- a comes before all of l
  abbrev pub Ahead : A → List A → Type 0
  Ahead a l = (b : A) → Memᴰ b l → Before (code a) (code b)

  pub rising_tab : (f : ℕ → A) (n : ℕ) → ((i j : ℕ) → i < j → j < n → Before (code (f i)) (code (f j))) → Rising code (tab f n)
  unfolding tab
  rising_tab f zero u = tt
  rising_tab f (suc n) u = (
    λ b m. let w = tab_member (λ i. f (suc i)) n b m in subst (λ x. Before (code (f 0)) (code x)) (sym w.2) (u 0 (suc w.0) (omega arith) (omega (arith, w.1))),
    rising_tab (λ i. f (suc i)) n (λ i j l k. u (suc i) (suc j) (omega arith) (omega arith)),
  )

  -- two lists in order with the same members are equal
  pub rising_ext : (s t : List A) → Rising code s → Rising code t → ((a : A) → Memᴰ a s → Memᴰ a t) → ((a : A) → Memᴰ a t → Memᴰ a s) → s ≡ t
  rising_ext = strict_ext (λ a b. Before (code a) (code b)) (λ a b x y. irrefl (code a) (before_trans x y))

  -- ---- insertion

  pub insert_nil : (r : A) → insert code r [] ≡ r ∷ []
  unfolding insert
  insert_nil r = refl

  pub insert_gt : (r x : A) (l : List A) → order (code r) (code x) ≡ Ordering.gt → insert code r (x ∷ l) ≡ x ∷ insert code r l
  unfolding insert
  insert_gt r x l e = by_gt (order (code r) (code x)) (r ∷ x ∷ l) (r ∷ x ∷ l) (x ∷ insert code r l) e

  pub insert_le : (r x : A) (l : List A) → (order (code r) (code x) ≡ Ordering.gt → ⊥) → insert code r (x ∷ l) ≡ r ∷ x ∷ l
  unfolding insert
  insert_le r x l n = by_le (order (code r) (code x)) (r ∷ x ∷ l) (x ∷ insert code r l) n

  pub insert_ahead : (r : A) (l : List A) → Ahead r l → insert code r l ≡ r ∷ l
  insert_ahead r [] u = insert_nil r
  insert_ahead r (x ∷ l) u = insert_le r x l (not_gt (code r) (code x) (u x (Memᴰ.head refl)))

  pub insert_member : (r : A) (l : List A) (b : A) → Memᴰ b (insert code r l) → (b ≡ r) ⊎ Memᴰ b l
  unfolding insert
  insert_member r [] b m = Memᴰ.cases_cons m
  insert_member r (x ∷ l) b m = go (order (code r) (code x)) m (insert_member r l b)
    where
      past : (b ≡ x) ⊎ Memᴰ b (insert code r l) → (Memᴰ b (insert code r l) → (b ≡ r) ⊎ Memᴰ b l) → (b ≡ r) ⊎ Memᴰ b (x ∷ l)
      past (inl e) f = inr (Memᴰ.head e)
      past (inr t) f = two (f t)
        where
          two : (b ≡ r) ⊎ Memᴰ b l → (b ≡ r) ⊎ Memᴰ b (x ∷ l)
          two (inl e) = inl e
          two (inr y) = inr (Memᴰ.tail y)

      go : (o : Ordering) → Memᴰ b (by o (r ∷ x ∷ l) (r ∷ x ∷ l) (x ∷ insert code r l)) → (Memᴰ b (insert code r l) → (b ≡ r) ⊎ Memᴰ b l) → (b ≡ r) ⊎ Memᴰ b (x ∷ l)
      go Ordering.lt t f = Memᴰ.cases_cons t
      go Ordering.eq t f = Memᴰ.cases_cons t
      go Ordering.gt t f = past (Memᴰ.cases_cons t) f

  -- a new code put in keeps the order
  pub insert_rising : (r : A) (l : List A) → ((b : A) → Memᴰ b l → order (code r) (code b) ≡ Ordering.eq → ⊥) → Rising code l → Rising code (insert code r l)
  insert_rising r [] new u = subst (Rising code) (sym (insert_nil r)) ((λ b m. absurd (Memᴰ.not-nil m)), tt)
  insert_rising r (x ∷ l) new u = go (gt_or (code r) (code x)) (insert_rising r l (λ b m. new b (Memᴰ.tail m)) u.1)
    where
      go : (order (code r) (code x) ≡ Ordering.gt) ⊎ (order (code r) (code x) ≡ Ordering.gt → ⊥) → Rising code (insert code r l) → Rising code (insert code r (x ∷ l))
      go (inl g) i = subst (Rising code) (sym (insert_gt r x l g)) ((λ b m. ahead b (insert_member r l b m)), i)
        where
          ahead : (b : A) → (b ≡ r) ⊎ Memᴰ b l → Before (code x) (code b)
          ahead b (inl e) = subst (λ y. Before (code x) (code y)) (sym e) (is_after (code r) (code x) g)
          ahead b (inr t) = u.0 b t
      go (inr n) i = subst (Rising code) (sym (insert_le r x l n)) ((λ b m. ahead b (Memᴰ.cases_cons m)), u)
        where
          first : Before (code r) (code x)
          first = is_before (code r) (code x) n (new x (Memᴰ.head refl))

          ahead : (b : A) → (b ≡ x) ⊎ Memᴰ b l → Before (code r) (code b)
          ahead b (inl e) = subst (λ y. Before (code r) (code y)) (sym e) first
          ahead b (inr t) = before_trans first (u.0 b t)

  -- put in at the place where its code belongs
  pub insert_tab : (f : ℕ → A) (n s : ℕ) (r : A) → s ≤ n → ((i : ℕ) → i < s → Before (code (f i)) (code r)) → ((i : ℕ) → s ≤ i → i < n → Before (code r) (code (f i)))
      → insert code r (tab f n) ≡ insert_at s r (tab f n)
  unfolding tab insert_at
  insert_tab f zero zero r l a b = insert_nil r
  insert_tab f (suc n) zero r l a b = insert_le r (f 0) (tab (λ i. f (suc i)) n) (not_gt (code r) (code (f 0)) (b 0 (omega arith) (omega arith)))
  insert_tab f zero (suc s) r l a b = absurd (omega arith)
  insert_tab f (suc n) (suc s) r l a b =
      insert_gt r (f 0) (tab (λ i. f (suc i)) n) (after_order (code r) (code (f 0)) (a 0 (omega arith)))
      ∙ ap (λ t. f 0 ∷ t) (insert_tab (λ i. f (suc i)) n s r (omega arith) (λ i h. a (suc i) (omega arith)) (λ i h k. b (suc i) (omega arith) (omega arith)))

  -- ---- leaving out

  without_on : (c : List ℕ) (x : A) (l : List A) → order c (code x) ≡ Ordering.eq → without code c (x ∷ l) ≡ without code c l
  unfolding without
  without_on c x l e = by_eq (order c (code x)) (x ∷ without code c l) (without code c l) e

  without_off : (c : List ℕ) (x : A) (l : List A) → (order c (code x) ≡ Ordering.eq → ⊥) → without code c (x ∷ l) ≡ x ∷ without code c l
  unfolding without
  without_off c x l n = by_ne (order c (code x)) (x ∷ without code c l) (without code c l) n

  pub without_member : (c : List ℕ) (l : List A) (b : A) → Memᴰ b (without code c l) → Memᴰ b l
  unfolding without
  without_member c [] b m = m
  without_member c (x ∷ l) b m = go (order c (code x)) m (without_member c l b)
    where
      step : (b ≡ x) ⊎ Memᴰ b (without code c l) → (Memᴰ b (without code c l) → Memᴰ b l) → Memᴰ b (x ∷ l)
      step (inl e) f = Memᴰ.head e
      step (inr t) f = Memᴰ.tail (f t)

      go : (o : Ordering) → Memᴰ b (by o (x ∷ without code c l) (without code c l) (x ∷ without code c l)) → (Memᴰ b (without code c l) → Memᴰ b l) → Memᴰ b (x ∷ l)
      go Ordering.lt t f = step (Memᴰ.cases_cons t) f
      go Ordering.eq t f = Memᴰ.tail (f t)
      go Ordering.gt t f = step (Memᴰ.cases_cons t) f

  -- keeps the order
  pub without_rising : (c : List ℕ) (l : List A) → Rising code l → Rising code (without code c l)
  unfolding without
  without_rising c [] u = tt
  without_rising c (x ∷ l) u = go (order c (code x)) (λ b m. u.0 b (without_member c l b m)) (without_rising c l u.1)
    where
      go : (o : Ordering) → Ahead x (without code c l) → Rising code (without code c l) → Rising code (by o (x ∷ without code c l) (without code c l) (x ∷ without code c l))
      go Ordering.lt a i = (a, i)
      go Ordering.eq a i = i
      go Ordering.gt a i = (a, i)

  -- a code that none has
  pub without_none : (c : List ℕ) (l : List A) → ((b : A) → Memᴰ b l → order c (code b) ≡ Ordering.eq → ⊥) → without code c l ≡ l
  unfolding without
  without_none c [] n = refl
  without_none c (x ∷ l) n = without_off c x l (n x (Memᴰ.head refl)) ∙ ap (λ t. x ∷ t) (without_none c l (λ b m. n b (Memᴰ.tail m)))

  -- taken out at the place where its code stands
  pub without_tab : (f : ℕ → A) (n s : ℕ) → s < n → ((i : ℕ) → i < s → Before (code (f i)) (code (f s))) → ((i : ℕ) → s < i → i < n → Before (code (f s)) (code (f i)))
      → without code (code (f s)) (tab f n) ≡ remove_at s (tab f n)
  unfolding tab remove_at
  without_tab f zero s l a b = absurd (omega arith)
  without_tab f (suc n) zero l a b =
      without_on (code (f 0)) (f 0) (tab (λ i. f (suc i)) n) (order_refl (code (f 0)))
      ∙ without_none (code (f 0)) (tab (λ i. f (suc i)) n) (λ x m. let w = tab_member (λ i. f (suc i)) n x m in
      unlike (code (f 0)) (code x) (subst (λ y. Before (code (f 0)) (code y)) (sym w.2) (b (suc w.0) (omega arith) (omega (arith, w.1)))))
  without_tab f (suc n) (suc s) l a b =
      without_off (code (f (suc s))) (f 0) (tab (λ i. f (suc i)) n) (unlike_after (code (f (suc s))) (code (f 0)) (a 0 (omega arith)))
      ∙ ap (λ t. f 0 ∷ t) (without_tab (λ i. f (suc i)) n s (omega arith) (λ i h. a (suc i) (omega arith)) (λ i h k. b (suc i) (omega arith) (omega arith)))

-- ---- what keeps the codes keeps both

module _ {A B : Type 0} (code : A → List ℕ) (code' : B → List ℕ) (f : A → B) (same : (a : A) → code' (f a) ≡ code a) where
  pub insert_map : (r : A) (l : List A) → map f (insert code r l) ≡ insert code' (f r) (map f l)
  unfolding insert
  insert_map r [] = refl
  insert_map r (x ∷ l) = go (order (code r) (code x)) (insert_map r l) ∙ ap (λ o. by o (f r ∷ f x ∷ map f l) (f r ∷ f x ∷ map f l) (f x ∷ insert code' (f r) (map f l))) codes
    where
      codes : order (code r) (code x) ≡ order (code' (f r)) (code' (f x))
      codes = ap (λ c. order c (code x)) (sym (same r)) ∙ ap (order (code' (f r))) (sym (same x))

      go : (o : Ordering) → map f (insert code r l) ≡ insert code' (f r) (map f l)
          → map f (by o (r ∷ x ∷ l) (r ∷ x ∷ l) (x ∷ insert code r l)) ≡ by o (f r ∷ f x ∷ map f l) (f r ∷ f x ∷ map f l) (f x ∷ insert code' (f r) (map f l))
      go Ordering.lt e = refl
      go Ordering.eq e = refl
      go Ordering.gt e = ap (λ t. f x ∷ t) e

  pub without_map : (c : List ℕ) (l : List A) → map f (without code c l) ≡ without code' c (map f l)
  unfolding without
  without_map c [] = refl
  without_map c (x ∷ l) = go (order c (code x)) (without_map c l) ∙ ap (λ d. by (order c d) (f x ∷ without code' c (map f l)) (without code' c (map f l)) (f x ∷ without code' c (map f l))) (sym (same x))
    where
      go : (o : Ordering) → map f (without code c l) ≡ without code' c (map f l)
          → map f (by o (x ∷ without code c l) (without code c l) (x ∷ without code c l)) ≡ by o (f x ∷ without code' c (map f l)) (without code' c (map f l)) (f x ∷ without code' c (map f l))
      go Ordering.lt e = ap (λ t. f x ∷ t) e
      go Ordering.eq e = e
      go Ordering.gt e = ap (λ t. f x ∷ t) e
