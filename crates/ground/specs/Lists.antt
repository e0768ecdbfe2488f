-- Bytes and parts of a list of bytes; tables and totals. Assumes nothing.
use Rattle.std.specs.Prelude.{ℕ, zero, suc, ◌+◌, List, [], ◌∷◌, ◌++◌, get_or, take, drop}

-- the byte at k, 0 past the end
abbrev pub byte : List ℕ → ℕ → ℕ
byte p k = get_or p k 0

-- n bytes from k
unfoldable pub part : List ℕ → ℕ → ℕ → List ℕ
part p k n = take n (drop k p)

-- ys in the place of the n bytes from k
unfoldable pub splice : List ℕ → ℕ → ℕ → List ℕ → List ℕ
splice p k n ys = take k p ++ (ys ++ drop n (drop k p))

-- x put in at s
unfoldable pub insert_at {ℓ} : {A : Type ℓ} → ℕ → A → List A → List A
insert_at s x l = take s l ++ (x ∷ drop s l)

-- l without what stands at s
unfoldable pub remove_at {ℓ} : {A : Type ℓ} → ℕ → List A → List A
remove_at s l = take s l ++ drop (suc s) l

-- f 0, f 1, .. f (n - 1)
unfoldable pub tab {ℓ} : {A : Type ℓ} → (ℕ → A) → ℕ → List A
tab f zero = []
tab f (suc n) = f zero ∷ tab (λ i. f (suc i)) n

-- f 0 + .. + f (n - 1)
unfoldable pub total : (ℕ → ℕ) → ℕ → ℕ
total f zero = zero
total f (suc n) = f zero + total (λ i. f (suc i)) n
