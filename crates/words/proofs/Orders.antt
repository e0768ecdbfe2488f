-- The byte order of codes is a strict order; where two codes differ first. Assumes nothing.
use mathlib.Core.Path.{◌≡◌, refl, sym, ap, subst, ◌∙◌}
use mathlib.Core.List.{List, [], ◌∷◌}
use mathlib.Core.Logic.{◌⊎◌, inl, inr, ⊎_elim}
use Prim.Native.Nat.compare
use Prim.Native.Nat.{ℕ, zero, suc, ◌+◌, ◌≤◌, ◌<◌, compare, Ordering}
use native.Mathlib.Omega.{arith}
use lib.ListN.{length}
use Rattle.ground.specs.Lists.{byte}
use Rattle.ground.proofs.Sides.{side}
use Rattle.std.specs.declared.cmp.Ordering as answer
use Rattle.std.specs.declared.cmp.Ordering.TheVariants.{Less, Equal, Greater}
use Rattle.std.specs.Ordering.{MatchOrdering, is_lt, is_eq}
use Rattle.ground.specs.Says.{Says}
use Rattle.words.specs.Codes.{order, then, Before, Ordered}

-- s and t agree before place `at`, and there s ends, or has the smaller byte
pub record Differ (s t : List ℕ) : Type 0 where
  pub at : ℕ
  pub in_s : at ≤ length s
  pub in_t : at < length t
  pub agree : (i : ℕ) → i < at → byte s i ≡ byte t i
  pub less : at < length s → byte s at < byte t at

never : (s : List ℕ) → Differ s s → ⊥
never s b = let h : byte s b.at < byte s b.at = b.less b.in_t in omega arith

differ_trans : {s t u : List ℕ} → Differ s t → Differ t u → Differ s u
differ_trans {s} {t} {u} a b = ⊎_elim
    (λ lt. let e : byte t a.at ≡ byte u a.at = b.agree a.at lt in record {
      at = a.at;
      in_s = a.in_s;
      in_t = omega (arith, b.in_t);
      agree = λ i h. a.agree i h ∙ b.agree i (omega arith);
      less = λ h. omega (arith, a.less h);
    })
    (λ ge. ⊎_elim
    (λ lt. let e : byte s b.at ≡ byte t b.at = a.agree b.at lt in record {
      at = b.at;
      in_s = omega (arith, a.in_s);
      in_t = b.in_t;
      agree = λ i h. a.agree i (omega arith) ∙ b.agree i h;
      less = λ h. omega (arith, b.less (omega (arith, a.in_t)));
    })
    (λ ge₂. let e : b.at ≡ a.at = omega arith in record {
      at = a.at;
      in_s = a.in_s;
      in_t = omega (arith, b.in_t);
      agree = λ i h. a.agree i h ∙ b.agree i (omega arith);
      less = λ h. let m : byte t a.at < byte u a.at = rw e at (b.less (omega (arith, a.in_t))) in omega (arith, a.less h);
    })
    (side b.at a.at))
    (side a.at b.at)

-- what each outcome says of two numbers, and of two codes
abbrev Cmp : ℕ → ℕ → Ordering → Type 0
Cmp x y Ordering.lt = x < y
Cmp x y Ordering.eq = x ≡ y
Cmp x y Ordering.gt = y < x

abbrev Ord : List ℕ → List ℕ → Ordering → Type 0
Ord s t Ordering.lt = Differ s t
Ord s t Ordering.eq = s ≡ t
Ord s t Ordering.gt = Differ t s

up : (x y : ℕ) (o : Ordering) → Cmp x y o → Cmp (suc x) (suc y) o
up x y Ordering.lt c = omega arith
up x y Ordering.eq c = ap suc c
up x y Ordering.gt c = omega arith

cmp : (x y : ℕ) → Cmp x y (compare x y)
cmp zero zero = subst (Cmp zero zero) (sym compare.zero-zero) refl
cmp zero (suc y) = subst (Cmp zero (suc y)) (sym (compare.zero-suc y)) (omega arith)
cmp (suc x) zero = subst (Cmp (suc x) zero) (sym (compare.suc-zero x)) (omega arith)
cmp (suc x) (suc y) = subst (Cmp (suc x) (suc y)) (sym (compare.suc-suc x y)) (up x y (compare x y) (cmp x y))

first : (x y : ℕ) (s t : List ℕ) → x < y → Differ (x ∷ s) (y ∷ t)
first x y s t l = record { at = 0; in_s = omega arith; in_t = omega arith; agree = λ i h. absurd (omega arith); less = λ _. l }

next : (x y : ℕ) (s t : List ℕ) → x ≡ y → Differ s t → Differ (x ∷ s) (y ∷ t)
next x y s t e b = record { at = suc b.at; in_s = omega (arith, b.in_s); in_t = omega (arith, b.in_t); agree = agree; less = λ h. b.less (omega arith) }
  where
    agree : (i : ℕ) → i < suc b.at → byte (x ∷ s) i ≡ byte (y ∷ t) i
    agree zero h = e
    agree (suc i) h = b.agree i (omega arith)

step : (x y : ℕ) (s t : List ℕ) (o p : Ordering) → Cmp x y o → Ord s t p → Ord (x ∷ s) (y ∷ t) (then o p)
step x y s t Ordering.lt p c r = first x y s t c
step x y s t Ordering.eq Ordering.lt c r = next x y s t c r
step x y s t Ordering.eq Ordering.eq c r = cc
step x y s t Ordering.eq Ordering.gt c r = next y x t s (sym c) r
step x y s t Ordering.gt p c r = first y x t s c

ord : (s t : List ℕ) → Ord s t (order s t)
unfolding order
ord [] [] = refl
ord [] (y ∷ t) = record { at = 0; in_s = omega arith; in_t = omega arith; agree = λ i h. absurd (omega arith); less = λ h. absurd (omega arith) }
ord (x ∷ s) [] = record { at = 0; in_s = omega arith; in_t = omega arith; agree = λ i h. absurd (omega arith); less = λ h. absurd (omega arith) }
ord (x ∷ s) (y ∷ t) = step x y s t (compare x y) (order s t) (cmp x y) (ord s t)

-- the first difference decides the order
pub differ_before : (s t : List ℕ) → Differ s t → Before s t
differ_before s t b = go (order s t) refl (ord s t)
  where
    go : (o : Ordering) → order s t ≡ o → Ord s t o → Before s t
    go Ordering.lt e r = record { less = e }
    go Ordering.eq e r = absurd (never t (subst (λ x. Differ x t) r b))
    go Ordering.gt e r = absurd (never s (differ_trans b r))

-- so do the first bytes, where they differ
pub by_first : (s t : List ℕ) → 1 ≤ length s → 1 ≤ length t → byte s 0 < byte t 0 → Before s t
by_first s t h l d = differ_before s t (record { at = 0; in_s = omega arith; in_t = l; agree = λ i x. absurd (omega arith); less = λ _. d })

-- an empty code is before all others
pub empty_before : (s t : List ℕ) → length s < 1 → 1 ≤ length t → Before s t
empty_before s t h l = differ_before s t (record { at = 0; in_s = omega arith; in_t = l; agree = λ i x. absurd (omega arith); less = λ x. absurd (omega arith) })

before_differ : {s t : List ℕ} → Before s t → Differ s t
before_differ {s} {t} b = subst (Ord s t) b.less (ord s t)

pub irrefl : (s : List ℕ) → Before s s → ⊥
irrefl s b = never s (before_differ b)

pub before_trans : {s t u : List ℕ} → Before s t → Before t u → Before s u
before_trans {s} {t} {u} a b = differ_before s u (differ_trans (before_differ a) (before_differ b))

pub order_eq : (s t : List ℕ) → order s t ≡ Ordering.eq → s ≡ t
order_eq s t e = subst (Ord s t) e (ord s t)

pub is_after : (s t : List ℕ) → order s t ≡ Ordering.gt → Before t s
is_after s t e = differ_before t s (subst (Ord s t) e (ord s t))

-- two codes one way or the other
pub data Either (s t : List ℕ) : Type 0 where
  before : Before s t → Either s t
  equal : order s t ≡ Ordering.eq → Either s t
  after : order s t ≡ Ordering.gt → Either s t

pub either : (s t : List ℕ) → Either s t
either s t = go (order s t) refl
  where
    go : (o : Ordering) → order s t ≡ o → Either s t
    go Ordering.lt e = before (record { less = e })
    go Ordering.eq e = equal e
    go Ordering.gt e = after e

pub order_refl : (s : List ℕ) → order s s ≡ Ordering.eq
order_refl s = elim (either s s) [ before b ↦ absurd (irrefl s b) | equal e ↦ e | after e ↦ absurd (irrefl s (is_after s s e)) ]

pub after_order : (s t : List ℕ) → Before t s → order s t ≡ Ordering.gt
after_order s t b = elim (either s t) [
  | before a ↦ absurd (irrefl s (before_trans a b))
  | equal e ↦ absurd (irrefl t (subst (λ x. Before t x) (order_eq s t e) b))
  | after e ↦ e
]

-- not after x, and x before r
pub at_most : (q x r : List ℕ) → (order q x ≡ Ordering.gt → ⊥) → Before x r → Before q r
at_most q x r n b = elim (either q x) [
  | before a ↦ before_trans a b
  | equal e ↦ subst (λ y. Before y r) (sym (order_eq q x e)) b
  | after e ↦ absurd (n e)
]

pub not_gt : (s t : List ℕ) → Before s t → order s t ≡ Ordering.gt → ⊥
not_gt s t b e = irrefl s (before_trans b (is_after s t e))

pub gt_or : (s t : List ℕ) → (order s t ≡ Ordering.gt) ⊎ (order s t ≡ Ordering.gt → ⊥)
gt_or s t = elim (either s t) [
  | before a ↦ inr (not_gt s t a)
  | equal e ↦ inr (λ f. let z : Ordering.eq ≡ Ordering.gt = sym e ∙ f in let n : ◌≡◌ {A = ℕ} 0 1 = cc in omega arith)
  | after e ↦ inl e
]

-- neither after nor the same
pub is_before : (s t : List ℕ) → (order s t ≡ Ordering.gt → ⊥) → (order s t ≡ Ordering.eq → ⊥) → Before s t
is_before s t n m = elim (either s t) [ before a ↦ a | equal e ↦ absurd (m e) | after e ↦ absurd (n e) ]

-- what an answer says of two codes that go on after one byte, the same or another
pub ordered_next : (x y : ℕ) (s t : List ℕ) (o : answer.Ordering) → x ≡ y → Ordered s t o → Ordered (x ∷ s) (y ∷ t) o
ordered_next x y s t Less e b = differ_before (x ∷ s) (y ∷ t) (next x y s t e (before_differ b))
ordered_next x y s t Equal e b = cc
ordered_next x y s t Greater e b = differ_before (y ∷ t) (x ∷ s) (next y x t s (sym e) (before_differ b))

pub ordered_first : (x y : ℕ) (s t : List ℕ) (o : answer.Ordering) → MatchOrdering o (x < y) (x ≡ y) (y < x) → (x ≡ y → ⊥) → Ordered (x ∷ s) (y ∷ t) o
ordered_first x y s t Less h n = differ_before (x ∷ s) (y ∷ t) (first x y s t h)
ordered_first x y s t Equal h n = absurd (n h)
ordered_first x y s t Greater h n = differ_before (y ∷ t) (x ∷ s) (first y x t s h)

-- where one of them has ended, the lengths decide
pub ordered_end : (s t : List ℕ) (m n : ℕ) (o : answer.Ordering) → (length s ≡ 0) ⊎ (length t ≡ 0) → m + length t ≡ n + length s → MatchOrdering o (m < n) (m ≡ n) (n < m) → Ordered s t o
ordered_end [] [] m n Less e l h = absurd (omega arith)
ordered_end [] [] m n Equal e l h = refl
ordered_end [] [] m n Greater e l h = absurd (omega arith)
ordered_end [] (y ∷ t) m n Less e l h = empty_before [] (y ∷ t) (omega arith) (omega arith)
ordered_end [] (y ∷ t) m n Equal e l h = absurd (omega arith)
ordered_end [] (y ∷ t) m n Greater e l h = absurd (omega arith)
ordered_end (x ∷ s) [] m n Less e l h = absurd (omega arith)
ordered_end (x ∷ s) [] m n Equal e l h = absurd (omega arith)
ordered_end (x ∷ s) [] m n Greater e l h = empty_before [] (x ∷ s) (omega arith) (omega arith)
ordered_end (x ∷ s) (y ∷ t) m n o e l h = absurd (omega arith)

-- what the tests of an answer say
pub lt_says : (s t : List ℕ) (o : answer.Ordering) → Ordered s t o → Says (is_lt o) (Before s t)
lt_says s t Less h = h
lt_says s t Equal h = λ b. irrefl t (subst (λ z. Before z t) h b)
lt_says s t Greater h = λ b. irrefl s (before_trans b h)

pub eq_says : (s t : List ℕ) (o : answer.Ordering) → Ordered s t o → Says (is_eq o) (s ≡ t)
eq_says s t Less h = λ e. irrefl t (subst (λ z. Before z t) e h)
eq_says s t Equal h = h
eq_says s t Greater h = λ e. irrefl t (subst (λ z. Before t z) e h)
