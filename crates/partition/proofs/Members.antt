-- Members of lists. Rows with no code twice are settled by their members up to order.
-- A list that repeats nothing is no longer than one that has all its members.
-- Assumes nothing.
use mathlib.Core.Path.{◌≡◌, refl, sym, ap, ◌∙◌, subst}
use mathlib.Core.Logic.{◌⊎◌, inl, inr, ◌≢◌}
use mathlib.Core.List.Memᴰ
use mathlib.Core.List.{List, [], ◌∷◌, ◌++◌, Memᴰ}
use Prim.Native.Nat.{ℕ, suc, ◌+◌, ◌≤◌, zero-le}
use native.Mathlib.Omega.{arith}
use lib.ListN.{length, length-append}
use Rattle.partition.specs.Partition.{Row, Prefix, Reordered, empty, front, chain, after, Ascending}
use Rattle.partition.specs.Listing.{Once}
use Rattle.partition.proofs.Order.{asc_first, first_lt_after}
use Rattle.partition.proofs.Reorders.{to_front, turned}
use Rattle.partition.proofs.Sorted.{same_map}
pub use Rattle.partition.proofs.Reorders.{mem_reordered}
pub use Rattle.partition.proofs.Maps.{absent, missing}
pub use Rattle.partition.proofs.Sorted.{in_order_reordered}

-- ---- lists that repeat nothing

module _ {A : Type 0} where
  abbrev pub Distinct : List A → Type 0
  Distinct [] = Unit {0}
  Distinct (x ∷ xs) = (Memᴰ x xs → ⊥) × Distinct xs

  -- a list around one of its members
  pub around : {x : A} (l : List A) → Memᴰ x l → (a : List A) × (b : List A) × (l ≡ a ++ x ∷ b)
  around [] m = absurd (Memᴰ.not-nil m)
  around {x} (y ∷ l) m = go (Memᴰ.cases_cons m) (around l)
    where
      go : (x ≡ y) ⊎ Memᴰ x l → (Memᴰ x l → (a : List A) × (b : List A) × (l ≡ a ++ x ∷ b)) → (a : List A) × (b : List A) × (y ∷ l ≡ a ++ x ∷ b)
      go (inl e) rest = ([], l, ap (λ z. z ∷ l) (sym e))
      go (inr t) rest = let w = rest t in (y ∷ w.0, w.1, ap (λ z. y ∷ z) w.2)

  -- another member than that one is before or behind it
  pub beside : {x y : A} (a b : List A) → Memᴰ y (a ++ x ∷ b) → (y ≡ x → ⊥) → Memᴰ y (a ++ b)
  beside {x} {y} a b m n = go (Memᴰ.append_cases a m)
    where
      past : (y ≡ x) ⊎ Memᴰ y b → Memᴰ y (a ++ b)
      past (inl e) = absurd (n e)
      past (inr t) = Memᴰ.append_right a t

      go : Memᴰ y a ⊎ Memᴰ y (x ∷ b) → Memᴰ y (a ++ b)
      go (inl t) = Memᴰ.append_left b t
      go (inr t) = past (Memᴰ.cases_cons t)

  pub no_longer : (s t : List A) → Distinct s → ((x : A) → Memᴰ x s → Memᴰ x t) → length s ≤ length t
  no_longer [] t d f = zero-le
  no_longer (x ∷ s) t d f =
      let w = around t (f x (Memᴰ.head refl)) in
      let e : length t ≡ length w.0 + suc (length w.1) = ap length w.2 ∙ length-append w.0 (x ∷ w.1) in
      let i : length s ≤ length (w.0 ++ w.1) =
      no_longer s (w.0 ++ w.1) d.1
      (λ y m. beside w.0 w.1 (subst (λ l. Memᴰ y l) w.2 (f y (Memᴰ.tail m))) (λ q. d.0 (Memᴰ.cast (sym q) m))) in
      omega (arith, length-append w.0 w.1)

  pub distinct_append : (s t : List A) → Distinct s → Distinct t → ((x : A) → Memᴰ x s → Memᴰ x t → ⊥) → Distinct (s ++ t)
  distinct_append [] t d e f = e
  distinct_append (x ∷ s) t d e f = (λ m. go (Memᴰ.append_cases s m), distinct_append s t d.1 e (λ y m n. f y (Memᴰ.tail m) n))
    where
      go : Memᴰ x s ⊎ Memᴰ x t → ⊥
      go (inl m) = d.0 m
      go (inr m) = f x (Memᴰ.head refl) m

pub asc_distinct : (d lo hi : ℕ) (l : List Prefix) → Ascending d lo hi l → Distinct l
asc_distinct d lo hi [] a = tt
asc_distinct d lo hi (p ∷ ps) a =
    ((λ m. omega (arith, asc_first d (after d p) hi ps a.1 p m, first_lt_after d p)), asc_distinct d (after d p) hi ps a.1)

-- ---- rows with no code twice

pub once_append : (s t : List Row) → Once s → Once t → ((r q : Row) → Memᴰ r s → Memᴰ q t → r.code ≢ q.code) → Once (s ++ t)
once_append [] t o p f = p
once_append (r ∷ s) t o p f = (
  missing (s ++ t) r.code (λ q m. other q (Memᴰ.append_cases s m)),
  once_append s t o.1 p (λ a b m n. f a b (Memᴰ.tail m) n),
)
  where
    other : (q : Row) → Memᴰ q s ⊎ Memᴰ q t → r.code ≢ q.code
    other q (inl m) = absent s r.code o.0 q m
    other q (inr m) = f r q (Memᴰ.head refl) m

pub once_ext : (s t : List Row) → Once s → Once t → ((r : Row) → Memᴰ r s → Memᴰ r t) → ((r : Row) → Memᴰ r t → Memᴰ r s) → Reordered s t
once_ext [] [] o p f g = empty
once_ext [] (q ∷ t) o p f g = absurd (Memᴰ.not-nil (g q (Memᴰ.head refl)))
once_ext (x ∷ s) t o p f g =
    subst (λ l. Reordered (x ∷ s) l) (sym w.2) (chain (front x (once_ext s rest o.1 only.1 into back)) (turned (to_front w.0 x w.1)))
  where
    w : (a : List Row) × (b : List Row) × (t ≡ a ++ x ∷ b)
    w = around t (f x (Memᴰ.head refl))

    rest : List Row
    rest = w.0 ++ w.1

    only : Once (x ∷ rest)
    only = (same_map (to_front w.0 x w.1) (subst Once w.2 p)).0

    into : (r : Row) → Memᴰ r s → Memᴰ r rest
    into r m = beside w.0 w.1 (subst (λ l. Memᴰ r l) w.2 (f r (Memᴰ.tail m))) (λ e. absent s x.code o.0 r m (ap (λ y. y.code) (sym e)))

    back : (r : Row) → Memᴰ r rest → Memᴰ r s
    back r m = go (Memᴰ.cases_cons (g r (subst (λ l. Memᴰ r l) (sym w.2) (mem_reordered (turned (to_front w.0 x w.1)) (Memᴰ.tail m)))))
      where
        go : (r ≡ x) ⊎ Memᴰ r s → Memᴰ r s
        go (inl e) = absurd (absent rest x.code only.0 r m (ap (λ y. y.code) (sym e)))
        go (inr n) = n
