-- Decisions put together: and, or, implies, exactly when, for all and for some below a bound. Assumes nothing.
use mathlib.Core.Path.{◌≡◌, refl, subst}
use mathlib.Core.Logic.{◌⊎◌, inl, inr, ◌↔◌, ⊎_elim}
use Prim.Native.Nat.{ℕ, zero, suc, ◌<◌, Ordering}
use native.Mathlib.Omega.{arith}
use Rattle.ground.proofs.Sides.{side}

pub both : {A B : Type 0} → Dec A → Dec B → Dec (A × B)
both (yes a) (yes b) = yes (a, b)
both (yes a) (no b) = no (λ x. b x.1)
both (no a) b = no (λ x. a x.0)

pub either : {A B : Type 0} → Dec A → Dec B → Dec (A ⊎ B)
either (yes a) b = yes (inl a)
either (no a) (yes b) = yes (inr b)
either (no a) (no b) = no (λ x. ⊎_elim a b x)

pub implies : {A B : Type 0} → Dec A → Dec B → Dec (A → B)
implies (yes a) (yes b) = yes (λ _. b)
implies (yes a) (no b) = no (λ f. b (f a))
implies (no a) b = yes (λ x. absurd (a x))

pub not : {A : Type 0} → Dec A → Dec (A → ⊥)
not (yes a) = no (λ f. f a)
not (no a) = yes a

pub exactly : {A B : Type 0} → Dec A → Dec B → Dec (A ↔ B)
exactly a b = both (implies a b) (implies b a)

-- below n
pub all : (n : ℕ) (P : ℕ → Type 0) → ((i : ℕ) → i < n → Dec (P i)) → Dec ((i : ℕ) → i < n → P i)
all zero P f = yes (λ i l. absurd (omega arith))
all (suc n) P f = go (all n P (λ i l. f i (omega arith))) (f n (omega arith))
  where
    go : Dec ((i : ℕ) → i < n → P i) → Dec (P n) → Dec ((i : ℕ) → i < suc n → P i)
    go (yes a) (yes b) = yes (λ i l. ⊎_elim (a i) (λ g. let e : n ≡ i = omega arith in subst P e b) (side i n))
    go (yes a) (no b) = no (λ g. b (g n (omega arith)))
    go (no a) b = no (λ g. a (λ i l. g i (omega arith)))

pub some : (n : ℕ) (P : ℕ → Type 0) → ((i : ℕ) → i < n → Dec (P i)) → Dec ((i : ℕ) × (i < n) × P i)
some zero P f = no (λ x. omega (arith, x.1))
some (suc n) P f = go (some n P (λ i l. f i (omega arith))) (f n (omega arith))
  where
    go : Dec ((i : ℕ) × (i < n) × P i) → Dec (P n) → Dec ((i : ℕ) × (i < suc n) × P i)
    go (yes a) b = yes (a.0, omega (arith, a.1), a.2)
    go (no a) (yes b) = yes (n, omega arith, b)
    go (no a) (no b) = no (λ x. ⊎_elim (λ l. a (x.0, l, x.2)) (λ g. let e : x.0 ≡ n = omega (arith, x.1) in b (subst P e x.2)) (side x.0 n))

-- an order is less
pub is_less : (o : Ordering) → Dec (o ≡ Ordering.lt)
is_less Ordering.lt = yes refl
is_less Ordering.eq = no (λ e. let n : ◌≡◌ {A = ℕ} 0 1 = cc in omega arith)
is_less Ordering.gt = no (λ e. let n : ◌≡◌ {A = ℕ} 0 1 = cc in omega arith)
