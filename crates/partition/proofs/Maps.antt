-- Rows as a map from code to place: what put (`r ∷ cut r.code rs`) and remove (`cut c rs`) do to it; no code twice; members and map.
-- Assumes nothing.
use mathlib.Core.Path.{◌≡◌, refl, sym, ap, subst, ◌∙◌}
use mathlib.Core.Logic.{◌⊎◌, inl, inr, ◌≢◌, ◌↔◌}
use mathlib.Core.List.Memᴰ
use mathlib.Core.List.{List, [], ◌∷◌, Memᴰ}
use mathlib.Core.Option.{Option, some, none}
use Prim.Native.Nat.{ℕ, suc, Ordering}
use native.Mathlib.Omega.{arith}
use lib.ListN.{length}
use Rattle.ground.proofs.Tests.{none_some}
use Rattle.words.specs.Codes.{order}
use Rattle.words.proofs.Orders.{order_eq, order_refl}
use Rattle.partition.specs.Partition.{Row, Reordered, empty, front, swap, chain}
use Rattle.partition.specs.Listing.{by, without, place_of, Once}
use Rattle.partition.proofs.Reorders.{same_order, length_same}
use Rattle.partition.proofs.Rising.{by_ne}

-- ---- one step of the map, by the outcome of a comparison

pub passed : (o : Ordering) (m : Option (List ℕ)) (b : List ℕ) → by o m (some b) m ≡ none → (o ≡ Ordering.eq → ⊥) × (m ≡ none)
passed Ordering.lt m b e = ((λ f. let n : ◌≡◌ {A = ℕ} 0 1 = cc in omega arith), e)
passed Ordering.eq m b e = absurd (none_some e refl)
passed Ordering.gt m b e = ((λ f. let n : ◌≡◌ {A = ℕ} 0 1 = cc in omega arith), e)

both_none : (o : Ordering) → by {A = Option (List ℕ)} o none none none ≡ none
both_none Ordering.lt = refl
both_none Ordering.eq = refl
both_none Ordering.gt = refl

-- ---- the rows without a code

-- the rows of another code than c
abbrev pub cut : List ℕ → List Row → List Row
cut c rs = without (λ q. q.code) c rs

pub cut_none : (c : List ℕ) (rs : List Row) → place_of rs c ≡ none → cut c rs ≡ rs
unfolding without place_of
cut_none c [] e = refl
cut_none c (q ∷ rs) e = go (order c q.code) e (cut_none c rs)
  where
    go : (o : Ordering) → by o (place_of rs c) (some q.place) (place_of rs c) ≡ none → (place_of rs c ≡ none → cut c rs ≡ rs)
        → by o (q ∷ cut c rs) (cut c rs) (q ∷ cut c rs) ≡ q ∷ rs
    go Ordering.lt x f = ap (λ l. q ∷ l) (f x)
    go Ordering.eq x f = absurd (none_some x refl)
    go Ordering.gt x f = ap (λ l. q ∷ l) (f x)

by_front : (o : Ordering) (q : Row) {m n : List Row} → Reordered m n → Reordered (by o (q ∷ m) m (q ∷ m)) (by o (q ∷ n) n (q ∷ n))
by_front Ordering.lt q p = front q p
by_front Ordering.eq q p = p
by_front Ordering.gt q p = front q p

step : Ordering → Row → List Row → List Row
step o q m = by o (q ∷ m) m (q ∷ m)

by_swap : (o o' : Ordering) (r q : Row) {m n : List Row} → Reordered m n → Reordered (step o r (step o' q m)) (step o' q (step o r n))
unfolding step
by_swap Ordering.lt Ordering.lt r q p = swap r q p
by_swap Ordering.lt Ordering.eq r q p = front r p
by_swap Ordering.lt Ordering.gt r q p = swap r q p
by_swap Ordering.eq Ordering.lt r q p = front q p
by_swap Ordering.eq Ordering.eq r q p = p
by_swap Ordering.eq Ordering.gt r q p = front q p
by_swap Ordering.gt Ordering.lt r q p = swap r q p
by_swap Ordering.gt Ordering.eq r q p = front r p
by_swap Ordering.gt Ordering.gt r q p = swap r q p

pub cut_same : (c : List ℕ) {rs qs : List Row} → Reordered rs qs → Reordered (cut c rs) (cut c qs)
unfolding without step
cut_same c empty = empty
cut_same c (front r p) = by_front (order c r.code) r (cut_same c p)
cut_same c (swap r q p) = by_swap (order c r.code) (order c q.code) r q (cut_same c p)
cut_same c (chain p q) = chain (cut_same c p) (cut_same c q)

-- ---- the map after a put and after a remove

same_code : (c x : List ℕ) (q : Row) → order c q.code ≡ Ordering.eq → (order x c ≡ Ordering.eq → ⊥) → order x q.code ≡ Ordering.eq → ⊥
same_code c x q e n f = n (subst (λ d. order x d ≡ Ordering.eq) (sym (order_eq c q.code e)) f)

pub cut_other : (c x : List ℕ) (rs : List Row) → (order x c ≡ Ordering.eq → ⊥) → place_of (cut c rs) x ≡ place_of rs x
unfolding without place_of
cut_other c x [] n = refl
cut_other c x (q ∷ rs) n = go (order c q.code) refl (cut_other c x rs n)
  where
    go : (o : Ordering) → order c q.code ≡ o → place_of (cut c rs) x ≡ place_of rs x → place_of (by o (q ∷ cut c rs) (cut c rs) (q ∷ cut c rs)) x ≡ place_of (q ∷ rs) x
    go Ordering.lt e i = ap (λ m. by (order x q.code) m (some q.place) m) i
    go Ordering.eq e i = i ∙ sym (by_ne (order x q.code) (place_of rs x) (some q.place) (same_code c x q e n))
    go Ordering.gt e i = ap (λ m. by (order x q.code) m (some q.place) m) i

pub cut_gone : (c : List ℕ) (rs : List Row) → place_of (cut c rs) c ≡ none
unfolding without place_of
cut_gone c [] = refl
cut_gone c (q ∷ rs) = go (order c q.code) refl (cut_gone c rs)
  where
    go : (o : Ordering) → order c q.code ≡ o → place_of (cut c rs) c ≡ none → place_of (by o (q ∷ cut c rs) (cut c rs) (q ∷ cut c rs)) c ≡ none
    go Ordering.lt e i = ap (λ o. by o (place_of (cut c rs) c) (some q.place) (place_of (cut c rs) c)) e ∙ i
    go Ordering.eq e i = i
    go Ordering.gt e i = ap (λ o. by o (place_of (cut c rs) c) (some q.place) (place_of (cut c rs) c)) e ∙ i

-- REMOVE drops the code from the map
pub map_remove : (c x : List ℕ) (rs : List Row) → place_of (cut c rs) x ≡ by (order x c) (place_of rs x) none (place_of rs x)
map_remove c x rs = go (order x c) refl
  where
    go : (o : Ordering) → order x c ≡ o → place_of (cut c rs) x ≡ by o (place_of rs x) none (place_of rs x)
    go Ordering.lt e = cut_other c x rs (λ f. let z : Ordering.lt ≡ Ordering.eq = sym e ∙ f in let n : ◌≡◌ {A = ℕ} 0 1 = cc in omega arith)
    go Ordering.eq e = subst (λ y. place_of (cut c rs) y ≡ none) (sym (order_eq x c e)) (cut_gone c rs)
    go Ordering.gt e = cut_other c x rs (λ f. let z : Ordering.gt ≡ Ordering.eq = sym e ∙ f in let n : ◌≡◌ {A = ℕ} 0 1 = cc in omega arith)

-- PUT sets it
pub map_put : (r : Row) (x : List ℕ) (rs : List Row) → place_of (r ∷ cut r.code rs) x ≡ by (order x r.code) (place_of rs x) (some r.place) (place_of rs x)
unfolding place_of
map_put r x rs = go (order x r.code) refl
  where
    go : (o : Ordering) → order x r.code ≡ o → by o (place_of (cut r.code rs) x) (some r.place) (place_of (cut r.code rs) x) ≡ by o (place_of rs x) (some r.place) (place_of rs x)
    go Ordering.lt e = cut_other r.code x rs (λ f. let z : Ordering.lt ≡ Ordering.eq = sym e ∙ f in let n : ◌≡◌ {A = ℕ} 0 1 = cc in omega arith)
    go Ordering.eq e = refl
    go Ordering.gt e = cut_other r.code x rs (λ f. let z : Ordering.gt ≡ Ordering.eq = sym e ∙ f in let n : ◌≡◌ {A = ℕ} 0 1 = cc in omega arith)

-- ---- no code twice, kept by put and remove

cut_absent : (c x : List ℕ) (rs : List Row) → place_of rs x ≡ none → place_of (cut c rs) x ≡ none
cut_absent c x rs e = map_remove c x rs ∙ ap (λ m. by (order x c) m none m) e ∙ both_none (order x c)

pub once_remove : (c : List ℕ) (rs : List Row) → Once rs → Once (cut c rs)
unfolding without
once_remove c [] o = tt
once_remove c (q ∷ rs) o = go (order c q.code) (cut_absent c q.code rs o.0) (once_remove c rs o.1)
  where
    go : (p : Ordering) → place_of (cut c rs) q.code ≡ none → Once (cut c rs) → Once (by p (q ∷ cut c rs) (cut c rs) (q ∷ cut c rs))
    go Ordering.lt a i = (a, i)
    go Ordering.eq a i = i
    go Ordering.gt a i = (a, i)

pub once_put : (r : Row) (rs : List Row) → Once rs → Once (r ∷ cut r.code rs)
once_put r rs o = (cut_gone r.code rs, once_remove r.code rs o)

-- ---- members and map

-- a place that the map gives is that of a row
pub found : (c b : List ℕ) (rs : List Row) → place_of rs c ≡ some b → Memᴰ (record { code = c; place = b }) rs
unfolding place_of
found c b [] e = absurd (none_some refl e)
found c b (q ∷ rs) e = go (order c q.code) refl e (found c b rs)
  where
    go : (o : Ordering) → order c q.code ≡ o → by o (place_of rs c) (some q.place) (place_of rs c) ≡ some b
        → (place_of rs c ≡ some b → Memᴰ (record { code = c; place = b }) rs) → Memᴰ (record { code = c; place = b }) (q ∷ rs)
    go Ordering.lt t x f = Memᴰ.tail (f x)
    go Ordering.eq t x f =
        let y : q.place ≡ b = cc in
        Memᴰ.head (λ i. record { code = order_eq c q.code t i; place = sym y i })
    go Ordering.gt t x f = Memᴰ.tail (f x)

-- a code is nowhere exactly when no row has it
pub absent : (rs : List Row) (c : List ℕ) → place_of rs c ≡ none → (r : Row) → Memᴰ r rs → c ≢ r.code
unfolding place_of
absent [] c e r m f = Memᴰ.not-nil m
absent (q ∷ rs) c e r m f = go (passed (order c q.code) (place_of rs c) q.place e) (Memᴰ.cases_cons m) (absent rs c)
  where
    go : (order c q.code ≡ Ordering.eq → ⊥) × (place_of rs c ≡ none) → (r ≡ q) ⊎ Memᴰ r rs
        → (place_of rs c ≡ none → (r : Row) → Memᴰ r rs → c ≢ r.code) → ⊥
    go t (inl x) rest = t.0 (subst (λ d. order c d ≡ Ordering.eq) (f ∙ ap (λ y. y.code) x) (order_refl c))
    go t (inr x) rest = rest t.1 r x f

pub missing : (rs : List Row) (c : List ℕ) → ((r : Row) → Memᴰ r rs → c ≢ r.code) → place_of rs c ≡ none
unfolding place_of
missing [] c f = refl
missing (q ∷ rs) c f =
    by_ne (order c q.code) (place_of rs c) (some q.place) (λ e. f q (Memᴰ.head refl) (order_eq c q.code e)) ∙ missing rs c (λ r m. f r (Memᴰ.tail m))

-- where no code is there twice, the map has exactly the rows
pub placed : (rs : List Row) → Once rs → (r : Row) → Memᴰ r rs → place_of rs r.code ≡ some r.place
unfolding place_of
placed [] o r m = absurd (Memᴰ.not-nil m)
placed (q ∷ rs) o r m = go (Memᴰ.cases_cons m) (placed rs o.1 r)
  where
    go : (r ≡ q) ⊎ Memᴰ r rs → (Memᴰ r rs → place_of rs r.code ≡ some r.place) → place_of (q ∷ rs) r.code ≡ some r.place
    go (inl e) f =
        subst (λ (z : Row). place_of (q ∷ rs) z.code ≡ some z.place) (sym e)
        (ap (λ p. by p (place_of rs q.code) (some q.place) (place_of rs q.code)) (order_refl q.code))
    go (inr t) f =
        by_ne (order r.code q.code) (place_of rs r.code) (some q.place) (λ e. absent rs q.code o.0 r t (sym (order_eq r.code q.code e))) ∙ f t

pub placed_iff : (rs : List Row) → Once rs → (c b : List ℕ) → (place_of rs c ≡ some b) ↔ Memᴰ (record { code = c; place = b }) rs
placed_iff rs o c b = (found c b rs, placed rs o (record { code = c; place = b }))

-- a known row, and the others
pub cut_front : (c b : List ℕ) (rs : List Row) → Once rs → place_of rs c ≡ some b → Reordered rs (record { code = c; place = b } ∷ cut c rs)
unfolding place_of without
cut_front c b [] o e = absurd (none_some refl e)
cut_front c b (q ∷ rs) o e = go (order c q.code) refl e (cut_front c b rs o.1)
  where
    r : Row
    r = record { code = c; place = b }

    go : (p : Ordering) → order c q.code ≡ p → by p (place_of rs c) (some q.place) (place_of rs c) ≡ some b → (place_of rs c ≡ some b → Reordered rs (r ∷ cut c rs))
        → Reordered (q ∷ rs) (r ∷ by p (q ∷ cut c rs) (cut c rs) (q ∷ cut c rs))
    go Ordering.lt t x i = chain (front q (i x)) (swap q r (same_order (cut c rs)))
    go Ordering.eq t x i =
        let y : q.place ≡ b = cc in
        let z : cut c rs ≡ rs = cut_none c rs (subst (λ d. place_of rs d ≡ none) (sym (order_eq c q.code t)) o.0) in
        let w : q ≡ r = (λ i. record { code = sym (order_eq c q.code t) i; place = y i }) in
        rw (z, w) (same_order (r ∷ rs))
    go Ordering.gt t x i = chain (front q (i x)) (swap q r (same_order (cut c rs)))

pub cut_length : (c b : List ℕ) (rs : List Row) → Once rs → place_of rs c ≡ some b → length rs ≡ suc (length (cut c rs))
cut_length c b rs o e = length_same (cut_front c b rs o e)
