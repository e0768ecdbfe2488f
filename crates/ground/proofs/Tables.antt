-- Laws of tables and totals. Assumes nothing.
use Prim.Native.Nat.{ℕ, zero, suc, ◌+◌, ◌≤◌, ◌<◌, suc-le-suc, zero-le}
use mathlib.Core.Path.{◌≡◌, refl, ap}
use mathlib.Core.List.{◌∷◌, map}
use native.Mathlib.Omega.{arith}
use native.Mathlib.Nat.{le_of_suc-le-suc, not-suc-le-zero}
use lib.ListN.{length, get_or, set}
use Rattle.ground.specs.Lists.{tab, total, insert_at, remove_at}

pub length_tab {ℓ} : {A : Type ℓ} (f : ℕ → A) (n : ℕ) → length (tab f n) ≡ n
unfolding tab
length_tab f zero = refl
length_tab f (suc n) = ap suc (length_tab (λ i. f (suc i)) n)

pub get_d_tab {ℓ} : {A : Type ℓ} (f : ℕ → A) (n i : ℕ) (d : A) → i < n → get_or (tab f n) i d ≡ f i
unfolding tab
get_d_tab f zero i d h = absurd (not-suc-le-zero h)
get_d_tab f (suc n) zero d h = refl
get_d_tab f (suc n) (suc i) d h = get_d_tab (λ i. f (suc i)) n i d (le_of_suc-le-suc h)

pub tab_same {ℓ} : {A : Type ℓ} (f g : ℕ → A) (n : ℕ) → ((i : ℕ) → i < n → f i ≡ g i) → tab f n ≡ tab g n
unfolding tab
tab_same f g zero h = refl
tab_same f g (suc n) h = λ k. h zero (suc-le-suc zero-le) k ∷ tab_same (λ i. f (suc i)) (λ i. g (suc i)) n (λ i l. h (suc i) (suc-le-suc l)) k

-- g is f with one more at s
pub tab_insert {ℓ} : {A : Type ℓ} (f g : ℕ → A) (n s : ℕ) → s ≤ n → ((i : ℕ) → i < s → g i ≡ f i) → ((i : ℕ) → s ≤ i → i < n → g (suc i) ≡ f i) → tab g (suc n) ≡ insert_at s (g s) (tab f n)
unfolding tab insert_at
tab_insert f g n zero h lo hi = ap (λ l. g zero ∷ l) (tab_same (λ i. g (suc i)) f n (λ i l. hi i zero-le l))
tab_insert f g zero (suc s) h lo hi = absurd (not-suc-le-zero h)
tab_insert f g (suc n) (suc s) h lo hi = λ k. lo zero (suc-le-suc zero-le) k
    ∷ tab_insert (λ i. f (suc i)) (λ i. g (suc i)) n s (le_of_suc-le-suc h) (λ i l. lo (suc i) (suc-le-suc l)) (λ i l m. hi (suc i) (suc-le-suc l) (suc-le-suc m)) k

pub total_same : (f g : ℕ → ℕ) (n : ℕ) → ((i : ℕ) → i < n → f i ≡ g i) → total f n ≡ total g n
unfolding total
total_same f g zero h = refl
total_same f g (suc n) h = λ k. h zero (suc-le-suc zero-le) k + total_same (λ i. f (suc i)) (λ i. g (suc i)) n (λ i l. h (suc i) (suc-le-suc l)) k

pub total_insert : (f g : ℕ → ℕ) (n s : ℕ) → s ≤ n → ((i : ℕ) → i < s → g i ≡ f i) → ((i : ℕ) → s ≤ i → i < n → g (suc i) ≡ f i) → total g (suc n) ≡ g s + total f n
unfolding total
total_insert f g n zero h lo hi = ap (λ l. g zero + l) (total_same (λ i. g (suc i)) f n (λ i l. hi i zero-le l))
total_insert f g zero (suc s) h lo hi = absurd (not-suc-le-zero h)
total_insert f g (suc n) (suc s) h lo hi =
    let ih : total (λ i. g (suc i)) (suc n) ≡ g (suc s) + total (λ i. f (suc i)) n =
    total_insert (λ i. f (suc i)) (λ i. g (suc i)) n s (le_of_suc-le-suc h) (λ i l. lo (suc i) (suc-le-suc l)) (λ i l m. hi (suc i) (suc-le-suc l) (suc-le-suc m)) in
    let e : g zero ≡ f zero = lo zero (suc-le-suc zero-le) in
    omega arith

-- g is f without what stands at s
pub tab_remove {ℓ} : {A : Type ℓ} (f g : ℕ → A) (n s : ℕ) → s ≤ n → ((i : ℕ) → i < s → g i ≡ f i) → ((i : ℕ) → s ≤ i → i < n → g i ≡ f (suc i)) → tab g n ≡ remove_at s (tab f (suc n))
unfolding tab remove_at
tab_remove f g n zero h lo hi = tab_same g (λ i. f (suc i)) n (λ i l. hi i zero-le l)
tab_remove f g zero (suc s) h lo hi = absurd (not-suc-le-zero h)
tab_remove f g (suc n) (suc s) h lo hi = λ k. lo zero (suc-le-suc zero-le) k
    ∷ tab_remove (λ i. f (suc i)) (λ i. g (suc i)) n s (le_of_suc-le-suc h) (λ i l. lo (suc i) (suc-le-suc l)) (λ i l m. hi (suc i) (suc-le-suc l) (suc-le-suc m)) k

-- g is f with another at s
pub tab_set {ℓ} : {A : Type ℓ} (f g : ℕ → A) (n s : ℕ) → s < n → ((i : ℕ) → i < n → (i ≡ s → ⊥) → g i ≡ f i) → tab g n ≡ set (tab f n) s (g s)
unfolding tab
tab_set f g zero s h o = absurd (not-suc-le-zero h)
tab_set f g (suc n) zero h o = ap (λ l. g zero ∷ l) (tab_same (λ i. g (suc i)) (λ i. f (suc i)) n (λ i l. o (suc i) (suc-le-suc l) (λ e. omega (arith, e))))
tab_set f g (suc n) (suc s) h o = λ k. o zero (suc-le-suc zero-le) (λ e. omega (arith, e)) k
    ∷ tab_set (λ i. f (suc i)) (λ i. g (suc i)) n s (le_of_suc-le-suc h) (λ i l e. o (suc i) (suc-le-suc l) (λ x. e (omega (arith, x)))) k

pub tab_map {ℓ κ} : {A : Type ℓ} {B : Type κ} (h : A → B) (f : ℕ → A) (n : ℕ) → map h (tab f n) ≡ tab (λ i. h (f i)) n
unfolding tab
tab_map h f zero = refl
tab_map h f (suc n) = ap (λ l. h (f zero) ∷ l) (tab_map h (λ i. f (suc i)) n)
