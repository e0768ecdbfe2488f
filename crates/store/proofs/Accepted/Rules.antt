-- The rules of an accepted store, each by its name; and the page at which the check stops: one, and the first that breaks a rule. Assumes nothing.
use mathlib.Core.Path.{◌≡◌, refl, sym, subst, ◌∙◌}
use mathlib.Core.List.{List, [], ◌∷◌, ◌++◌}
use mathlib.Core.Logic.{◌⊎◌, inl, inr, ⊎_elim}
use Prim.Native.Nat.{ℕ, zero, suc, ◌+◌, ◌-◌, ◌≤◌, ◌<◌}
use native.Mathlib.Omega.{arith}
use Rattle.ground.specs.Lists.{tab}
use Rattle.partition.specs.declared.Shape.{Shape}
use Rattle.store.specs.Pages.{pages}
use Rattle.store.specs.Accepted.{GoodLength, Page0, Page1, Stands, Parted, Deepest, Rule, rule, rules, in_turn, upward, Every, Stops, Broken, Accepted}
use Rattle.store.specs.Counts.{Counts}
use Rattle.store.specs.Demands.{Below, StopsAt, page_0, page_1, first_pass, second_pass, depth_0, counts}

-- the check stops at one page at most, and at none where every rule holds
pub stops_one : (l : List Rule) (p q : ℕ) → Stops l p → Stops l q → p ≡ q
stops_one [] p q a b = absurd a
stops_one (r ∷ l) p q (inl a) (inl b) = a.1 ∙ sym b.1
stops_one (r ∷ l) p q (inl a) (inr b) = absurd (a.0 b.0)
stops_one (r ∷ l) p q (inr a) (inl b) = absurd (b.0 a.0)
stops_one (r ∷ l) p q (inr a) (inr b) = stops_one l p q a.1 b.1

pub stops_not : (l : List Rule) (p : ℕ) → Every l → Stops l p → ⊥
stops_not [] p e a = a
stops_not (r ∷ l) p e (inl a) = a.0 e.0
stops_not (r ∷ l) p e (inr a) = stops_not l p e.1 a.1

-- ---- where a run of rules stops: at its first that fails; else the check goes on

stops_tab : (f : ℕ → Rule) (n : ℕ) (l : List Rule) (p : ℕ) → Stops (tab f n ++ l) p
    → ((i : ℕ) × (i < n) × (p ≡ (f i).at) × ((j : ℕ) → j < i → (f j).holds) × ((f i).holds → ⊥)) ⊎ (((j : ℕ) → j < n → (f j).holds) × Stops l p)
unfolding tab
stops_tab f zero l p a = inr ((λ j m. absurd (omega arith)), a)
stops_tab f (suc n) l p (inl a) = inl (0, omega arith, a.1, (λ j m. absurd (omega arith)), a.0)
stops_tab f (suc n) l p (inr a) = ⊎_elim
    (λ w. inl (suc w.0, omega (arith, w.1), w.2, also w.0 w.3, w.4))
    (λ w. inr (also n w.0, w.1))
    (stops_tab (λ i. f (suc i)) n l p a.1)
  where
    also : (m : ℕ) → ((j : ℕ) → j < m → (f (suc j)).holds) → (j : ℕ) → j < suc m → (f j).holds
    also m g zero k = a.0
    also m g (suc j) k = g j (omega arith)

tab_stops : (f : ℕ → Rule) (n : ℕ) (l : List Rule) (i : ℕ) → i < n → ((j : ℕ) → j < i → (f j).holds) → ((f i).holds → ⊥) → Stops (tab f n ++ l) (f i).at
unfolding tab
tab_stops f zero l i m b n = absurd (omega arith)
tab_stops f (suc k) l zero m b n = inl (n, refl)
tab_stops f (suc k) l (suc i) m b n = inr (b zero (omega arith), tab_stops (λ j. f (suc j)) k l i (omega arith) (λ j m. b (suc j) (omega arith)) n)

stops_after : (l m : List Rule) (p : ℕ) → Every l → Stops m p → Stops (l ++ m) p
stops_after [] m p e a = a
stops_after (r ∷ l) m p e a = inr (e.0, stops_after l m p e.1 a)

module _ (n : ℕ) (P : ℕ → Type 0) (l : List Rule) (p : ℕ) where
  stops_up : Stops (upward n P ++ l) p → ((2 ≤ p) × (p < n) × Below p P × (P p → ⊥)) ⊎ (Below n P × Stops l p)
  stops_up a = ⊎_elim
      (λ w. let e : w.0 + 2 ≡ p = sym w.2 in inl (omega arith, omega (arith, w.1), (λ q u v. back q u (w.3 (q - 2) (omega arith))), (λ x. w.4 (subst P (sym e) x))))
      (λ w. inr ((λ q u v. back q u (w.0 (q - 2) (omega arith))), w.1))
      (stops_tab (λ i. rule (i + 2) (P (i + 2))) (n - 2) l p a)
    where
      back : (q : ℕ) → 2 ≤ q → P (q - 2 + 2) → P q
      back q u x = let e : q - 2 + 2 ≡ q = omega arith in subst P e x

  up_stops : 2 ≤ p → p < n → Below p P → (P p → ⊥) → Stops (upward n P ++ l) p
  up_stops a b f g =
      let e : p - 2 + 2 ≡ p = omega arith in
      subst (λ q. Stops (upward n P ++ l) q) e
      (tab_stops (λ i. rule (i + 2) (P (i + 2))) (n - 2) l (p - 2) (omega arith) (λ j k. f (j + 2) (omega arith) (omega arith)) (λ x. g (subst P e x)))

-- ---- every rule of an accepted store

every_left : (l m : List Rule) → Every (l ++ m) → Every l
every_left [] m e = tt
every_left (r ∷ l) m e = (e.0, every_left l m e.1)

every_right : (l m : List Rule) → Every (l ++ m) → Every m
every_right [] m e = e
every_right (r ∷ l) m e = every_right l m e.1

every_tab : (f : ℕ → Rule) (n : ℕ) → Every (tab f n) → (i : ℕ) → i < n → (f i).holds
unfolding tab
every_tab f zero e i h = absurd (omega arith)
every_tab f (suc n) e zero h = e.0
every_tab f (suc n) e (suc i) h = every_tab (λ j. f (suc j)) n e.1 i (omega arith)

every_up : (n : ℕ) (P : ℕ → Type 0) → Every (upward n P) → (p : ℕ) → 2 ≤ p → p < n → P p
every_up n P e p l h =
    let q : p - 2 + 2 ≡ p = omega arith in
    subst P q (every_tab (λ i. rule (i + 2) (P (i + 2))) (n - 2) e (p - 2) (omega arith))

pub record Opened (S : Shape) (h : List ℕ → ℕ) (s : List ℕ) : Type 0 where
  pub long : GoodLength S s
  pub page0 : Page0 S s
  pub page1 : Page1 S s
  pub stands : (p : ℕ) → 2 ≤ p → p < pages S s → Stands S h s p
  pub parted : (p : ℕ) → 2 ≤ p → p < pages S s → Parted S h s p
  pub deepest : Deepest S s
  pub counts : Counts S s

pub opened : (S : Shape) (h : List ℕ → ℕ) (s : List ℕ) → Accepted S h s → Opened S h s
unfolding rules
opened S h s a =
    let e = a.keeps in
    let up : List Rule = upward (pages S s) (Stands S h s) in
    let again : List Rule = upward (pages S s) (Parted S h s) in
    let second = every_right up _ e.1.1 in
    record {
      long = a.long;
      page0 = e.0;
      page1 = e.1.0;
      stands = every_up (pages S s) (Stands S h s) (every_left up _ e.1.1);
      parted = every_up (pages S s) (Parted S h s) (every_left again _ second);
      deepest = (every_right again _ second).0;
      counts = (every_right again _ second).1.0;
    }

every_append : (l m : List Rule) → Every l → Every m → Every (l ++ m)
every_append [] m a b = b
every_append (r ∷ l) m a b = (a.0, every_append l m a.1 b)

tab_every : (f : ℕ → Rule) (n : ℕ) → ((i : ℕ) → i < n → (f i).holds) → Every (tab f n)
unfolding tab
tab_every f zero h = tt
tab_every f (suc n) h = (h zero (omega arith), tab_every (λ i. f (suc i)) n (λ i l. h (suc i) (omega arith)))

pub up_every : (n : ℕ) (P : ℕ → Type 0) → ((p : ℕ) → 2 ≤ p → p < n → P p) → Every (upward n P)
up_every n P h = tab_every (λ i. rule (i + 2) (P (i + 2))) (n - 2) (λ i l. h (i + 2) (omega arith) (omega arith))

pub closed : (S : Shape) (h : List ℕ → ℕ) (s : List ℕ) → Opened S h s → Accepted S h s
unfolding rules
closed S h s o = record {
  long = o.long;
  keeps = (
    o.page0,
    (
      o.page1,
      every_append (upward (pages S s) (Stands S h s)) _ (up_every (pages S s) (Stands S h s) o.stands)
          (every_append (upward (pages S s) (Parted S h s)) _ (up_every (pages S s) (Parted S h s) o.parted) (o.deepest, (o.counts, tt))),
    ),
  );
}

module _ (S : Shape) (h : List ℕ → ℕ) (s : List ℕ) where
  pub broken_one : (p q : ℕ) → Broken S h s p → Broken S h s q → p ≡ q
  unfolding Broken
  broken_one p q a b = stops_one (rules S h s) p q a b

  pub accepted_whole : Accepted S h s → (p : ℕ) → Broken S h s p → ⊥
  unfolding Broken
  accepted_whole a p b = stops_not (rules S h s) p a.keeps b

  at : (p : ℕ) {q : ℕ} → p ≡ q → StopsAt S h s q → StopsAt S h s p
  at p e x = subst (λ r. StopsAt S h s r) (sym e) x

  -- THE CHECK STOPS AT THE FIRST PAGE, IN THE ORDER OF DOCUMENT 01, THAT BREAKS A RULE
  pub broken_stops : (p : ℕ) → Broken S h s p → StopsAt S h s p
  unfolding Broken rules
  broken_stops p (inl a) = at p a.1 (page_0 a.0)
  broken_stops p (inr (z, inl a)) = at p a.1 (page_1 z a.0)
  broken_stops p (inr (z, inr (f, a))) = ⊎_elim
      (λ w. first_pass z f p w.0 w.1 w.2 w.3)
      (λ w. ⊎_elim
      (λ v. second_pass z f w.0 p v.0 v.1 v.2 v.3)
      (λ v. ⊎_elim
      (λ u. at p u.1 (depth_0 z f w.0 v.0 u.0))
      (λ u. ⊎_elim (λ x. at p x.1 (counts z f w.0 v.0 u.0 x.0)) (λ x. absurd x.1) u.1)
      v.1)
      (stops_up (pages S s) (Parted S h s) _ p w.1))
      (stops_up (pages S s) (Stands S h s) _ p a)

  pub stops_broken : {p : ℕ} → StopsAt S h s p → Broken S h s p
  unfolding Broken rules
  stops_broken (page_0 n) = inl (n, refl)
  stops_broken (page_1 z n) = inr (z, inl (n, refl))
  stops_broken (first_pass z f p a b g n) = inr (z, inr (f, up_stops (pages S s) (Stands S h s) _ p a b g n))
  stops_broken (second_pass z f e p a b g n) =
      inr (z, inr (f, stops_after (upward (pages S s) (Stands S h s)) _ p (up_every (pages S s) (Stands S h s) e) (up_stops (pages S s) (Parted S h s) _ p a b g n)))
  stops_broken (depth_0 z f e g n) =
      inr (z, inr (f, stops_after (upward (pages S s) (Stands S h s)) _ 0 (up_every (pages S s) (Stands S h s) e) (stops_after (upward (pages S s) (Parted S h s)) _ 0 (up_every (pages S s) (Parted S h s) g) (inl (n, refl)))))
  stops_broken (counts z f e g d n) =
      inr (z, inr (f, stops_after (upward (pages S s) (Stands S h s)) _ 0 (up_every (pages S s) (Stands S h s) e) (stops_after (upward (pages S s) (Parted S h s)) _ 0 (up_every (pages S s) (Parted S h s) g) (inr (d, inl (n, refl))))))

  pub stops_below : {p : ℕ} → 2 ≤ pages S s → StopsAt S h s p → p < pages S s
  stops_below two (page_0 n) = omega arith
  stops_below two (page_1 z n) = omega arith
  stops_below two (first_pass z f p a b g n) = b
  stops_below two (second_pass z f e p a b g n) = b
  stops_below two (depth_0 z f e g n) = omega arith
  stops_below two (counts z f e g d n) = omega arith

  pub broken_below : 2 ≤ pages S s → (p : ℕ) → Broken S h s p → p < pages S s
  broken_below two p b = stops_below two (broken_stops p b)

-- ---- the rules in turn, with any rule for page 0 and any rules last

-- what stops a list of rules stops it with more of them behind
stops_then : (l m n : List Rule) (p : ℕ) → (Stops m p → Stops n p) → Stops (l ++ m) p → Stops (l ++ n) p
stops_then [] m n p f a = f a
stops_then (r ∷ l) m n p f (inl a) = inl a
stops_then (r ∷ l) m n p f (inr a) = inr (a.0, stops_then l m n p f a.1)

every_then : (l m n : List Rule) → (Every m → Every n) → Every (l ++ m) → Every (l ++ n)
every_then [] m n f a = f a
every_then (r ∷ l) m n f a = (a.0, every_then l m n f a.1)

module _ (S : Shape) (h : List ℕ → ℕ) (s : List ℕ) (P : Type 0) where
  abbrev up : List Rule
  up = upward (pages S s) (Stands S h s)

  abbrev again : List Rule
  again = upward (pages S s) (Parted S h s)

  abbrev deep : Rule
  deep = rule 0 (Deepest S s)

  pub at_0 : (P → ⊥) → Stops (in_turn S h s P []) 0
  at_0 n = inl (n, refl)

  pub at_1 : P → (Page1 S s → ⊥) → Stops (in_turn S h s P []) 1
  at_1 z n = inr (z, inl (n, refl))

  pub at_first : P → Page1 S s → (p : ℕ) → 2 ≤ p → p < pages S s → Below p (Stands S h s) → (Stands S h s p → ⊥) → Stops (in_turn S h s P []) p
  at_first z f p a b g n = inr (z, inr (f, up_stops (pages S s) (Stands S h s) _ p a b g n))

  pub at_second : P → Page1 S s → Below (pages S s) (Stands S h s) → (p : ℕ) → 2 ≤ p → p < pages S s → Below p (Parted S h s) → (Parted S h s p → ⊥) → Stops (in_turn S h s P []) p
  at_second z f e p a b g n = inr (z, inr (f, stops_after up _ p (up_every (pages S s) (Stands S h s) e) (up_stops (pages S s) (Parted S h s) _ p a b g n)))

  pub at_depth : P → Page1 S s → Below (pages S s) (Stands S h s) → Below (pages S s) (Parted S h s) → (Deepest S s → ⊥) → Stops (in_turn S h s P []) 0
  at_depth z f e g n = inr (z, inr (f, stops_after up _ 0 (up_every (pages S s) (Stands S h s) e) (stops_after again _ 0 (up_every (pages S s) (Parted S h s) g) (inl (n, refl)))))

  pub all_in_turn : P → Page1 S s → Below (pages S s) (Stands S h s) → Below (pages S s) (Parted S h s) → Deepest S s → Every (in_turn S h s P [])
  all_in_turn z f e g d = (z, (f, every_append up _ (up_every (pages S s) (Stands S h s) e) (every_append again _ (up_every (pages S s) (Parted S h s) g) (d, tt))))

  -- with rules behind them
  pub stops_more : (rs : List Rule) (p : ℕ) → Stops (in_turn S h s P []) p → Stops (in_turn S h s P rs) p
  stops_more rs p (inl a) = inl a
  stops_more rs p (inr (z, inl a)) = inr (z, inl a)
  stops_more rs p (inr (z, inr (f, a))) = inr (z, inr (f, stops_then up (again ++ (deep ∷ [])) (again ++ (deep ∷ rs)) p (stops_then again (deep ∷ []) (deep ∷ rs) p last) a))
    where
      last : Stops (deep ∷ []) p → Stops (deep ∷ rs) p
      last (inl x) = inl x
      last (inr x) = absurd x.1

  pub every_more : (rs : List Rule) → Every (in_turn S h s P []) → Every rs → Every (in_turn S h s P rs)
  every_more rs a e = (a.0, (a.1.0, every_then up (again ++ (deep ∷ [])) (again ++ (deep ∷ rs)) (every_then again (deep ∷ []) (deep ∷ rs) (λ x. (x.0, e))) a.1.1))

  pub stops_last : (rs : List Rule) (p : ℕ) → Every (in_turn S h s P []) → Stops rs p → Stops (in_turn S h s P rs) p
  stops_last rs p a b = inr (
    a.0,
    inr (
      a.1.0,
      stops_after up (again ++ (deep ∷ rs)) p (every_left up (again ++ (deep ∷ [])) a.1.1)
          (stops_after again (deep ∷ rs) p (every_left again (deep ∷ []) (every_right up (again ++ (deep ∷ [])) a.1.1)) (inr ((every_right again (deep ∷ []) (every_right up (again ++ (deep ∷ [])) a.1.1)).0, b))),
    ),
  )

  pub all_stand : Every (in_turn S h s P []) → (p : ℕ) → 2 ≤ p → p < pages S s → Stands S h s p
  all_stand a = every_up (pages S s) (Stands S h s) (every_left up (again ++ (deep ∷ [])) a.1.1)
