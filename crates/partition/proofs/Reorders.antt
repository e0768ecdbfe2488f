-- The same rows in another order: it can be turned and put together, and keeps members, number and needs. Assumes nothing.
use mathlib.Core.Path.{◌≡◌, refl, sym, ap, ◌∙◌}
use mathlib.Core.Bool.{Bool, true, false}
use mathlib.Core.Logic.{◌⊎◌, inl, inr}
use mathlib.Core.List.Memᴰ
use mathlib.Core.List.{List, [], ◌∷◌, ◌++◌, Memᴰ}
use Prim.Native.Nat.{ℕ, suc, ◌+◌}
use native.Mathlib.Nat.{zero-add, add_assoc, add_left_comm}
use lib.Dec.{eqb}
use lib.ListN.{length}
use Rattle.partition.specs.Bits.{top}
use Rattle.partition.specs.Partition.{Row, need, needs, keep, rows_of, Reordered, empty, front, swap, chain}

pub same_order : (rs : List Row) → Reordered rs rs
same_order [] = empty
same_order (r ∷ rs) = front r (same_order rs)

pub to_front : (s : List Row) (r : Row) (t : List Row) → Reordered (s ++ r ∷ t) (r ∷ s ++ t)
to_front [] r t = same_order (r ∷ t)
to_front (q ∷ s) r t = chain (front q (to_front s r t)) (swap q r (same_order (s ++ t)))

pub turned : {rs qs : List Row} → Reordered rs qs → Reordered qs rs
turned empty = empty
turned (front r p) = front r (turned p)
turned (swap r q p) = swap q r (turned p)
turned (chain p q) = chain (turned q) (turned p)

append_left : {rs qs : List Row} (t : List Row) → Reordered rs qs → Reordered (rs ++ t) (qs ++ t)
append_left t empty = same_order t
append_left t (front r p) = front r (append_left t p)
append_left t (swap r q p) = swap r q (append_left t p)
append_left t (chain p q) = chain (append_left t p) (append_left t q)

append_right : (s : List Row) {rs qs : List Row} → Reordered rs qs → Reordered (s ++ rs) (s ++ qs)
append_right [] p = p
append_right (r ∷ s) p = front r (append_right s p)

pub append_same : {rs qs s t : List Row} → Reordered rs qs → Reordered s t → Reordered (rs ++ s) (qs ++ t)
append_same {qs = qs} {s = s} p q = chain (append_left s p) (append_right qs q)

pub mem_reordered : {rs qs : List Row} → Reordered rs qs → {r : Row} → Memᴰ r rs → Memᴰ r qs
mem_reordered empty m = m
mem_reordered (front {rs = rs} {qs = qs} q p) {r} m = go (Memᴰ.cases_cons m) (λ t. mem_reordered p t)
  where
    go : (r ≡ q) ⊎ Memᴰ r rs → (Memᴰ r rs → Memᴰ r qs) → Memᴰ r (q ∷ qs)
    go (inl e) rest = Memᴰ.head e
    go (inr t) rest = Memᴰ.tail (rest t)
mem_reordered (swap {rs = rs} {qs = qs} a b p) {r} m = go (Memᴰ.cases_cons m) (λ t. mem_reordered p t)
  where
    past : (r ≡ b) ⊎ Memᴰ r rs → (Memᴰ r rs → Memᴰ r qs) → Memᴰ r (b ∷ a ∷ qs)
    past (inl e) rest = Memᴰ.head e
    past (inr t) rest = Memᴰ.tail (Memᴰ.tail (rest t))

    go : (r ≡ a) ⊎ Memᴰ r (b ∷ rs) → (Memᴰ r rs → Memᴰ r qs) → Memᴰ r (b ∷ a ∷ qs)
    go (inl e) rest = Memᴰ.tail (Memᴰ.head e)
    go (inr t) rest = past (Memᴰ.cases_cons t) rest
mem_reordered (chain p q) m = mem_reordered q (mem_reordered p m)

pub length_same : {rs qs : List Row} → Reordered rs qs → length rs ≡ length qs
length_same empty = refl
length_same (front r p) = ap suc (length_same p)
length_same (swap r q p) = ap (λ (n : ℕ). suc (suc n)) (length_same p)
length_same (chain p q) = length_same p ∙ length_same q

pub needs_same : {rs qs : List Row} → Reordered rs qs → needs rs ≡ needs qs
unfolding needs
needs_same empty = refl
needs_same (front r p) = ap (λ (n : ℕ). need r + n) (needs_same p)
needs_same (swap {qs = qs} r q p) = ap (λ (n : ℕ). need r + (need q + n)) (needs_same p) ∙ add_left_comm (need r) (need q) (needs qs)
needs_same (chain p q) = needs_same p ∙ needs_same q

pub needs_append : (s t : List Row) → needs (s ++ t) ≡ needs s + needs t
unfolding needs
needs_append [] t = sym (zero-add (needs t))
needs_append (r ∷ s) t = ap (λ (n : ℕ). need r + n) (needs_append s t) ∙ sym (add_assoc (need r) (needs s) (needs t))

-- the rows of a prefix

keep_front : (t : Bool) (q : Row) {m n : List Row} → Reordered m n → Reordered (keep t q m) (keep t q n)
keep_front true q p = front q p
keep_front false q p = p

keep_swap : (t u : Bool) (r q : Row) {m n : List Row} → Reordered m n → Reordered (keep t r (keep u q m)) (keep u q (keep t r n))
keep_swap true true r q p = swap r q p
keep_swap true false r q p = front r p
keep_swap false true r q p = front q p
keep_swap false false r q p = p

pub rows_same : (h : List ℕ → ℕ) (k v : ℕ) {rs qs : List Row} → Reordered rs qs → Reordered (rows_of h rs k v) (rows_of h qs k v)
unfolding rows_of
rows_same h k v empty = empty
rows_same h k v (front r p) = keep_front (eqb (top k (h r.code)) v) r (rows_same h k v p)
rows_same h k v (swap r q p) = keep_swap (eqb (top k (h r.code)) v) (eqb (top k (h q.code)) v) r q (rows_same h k v p)
rows_same h k v (chain p q) = chain (rows_same h k v p) (rows_same h k v q)
