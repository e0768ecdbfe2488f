-- Laws of the table of starts. Assumes nothing.
use Prim.Native.Nat.{ℕ, zero, suc, ◌+◌, ◌≤◌, ◌<◌}
use mathlib.Core.Path.{◌≡◌, refl, sym, ◌∙◌, ap}
use mathlib.Core.Logic.{inl, inr, ⊎_elim}
use mathlib.Core.List.{List, [], ◌∷◌}
use native.Mathlib.Omega.{arith}
use lib.ListN.{length, set}
use lib.Seq.{get_or-set_same, get_or-set_other}
use Rattle.ground.specs.Lists.{byte}
use Rattle.ground.proofs.Sides.{side, same}
use Rattle.words.specs.Moves.{Cleared}
use Rattle.words.specs.Zeros.{Zero}
use Rattle.page.specs.Page.{off, len}
use Rattle.page_check.specs.Table.{entries, Distinct, Table, Inside}

-- an entry made, one written over and one taken back
pub entries_more : (t : List ℕ) (k v : ℕ) → k < length t → byte t k ≡ 0 → 1 ≤ v → entries (set t k v) ≡ entries t + 1
unfolding entries
entries_more [] k v h z l = absurd (omega arith)
entries_more (zero ∷ t) zero zero h z l = absurd (omega arith)
entries_more (zero ∷ t) zero (suc v) h z l = omega arith
entries_more (suc x ∷ t) zero v h z l = absurd (omega arith)
entries_more (zero ∷ t) (suc k) v h z l = entries_more t k v (omega arith) z l
entries_more (suc x ∷ t) (suc k) v h z l = omega (arith, entries_more t k v (omega arith) z l)

pub entries_over : (t : List ℕ) (k v : ℕ) → 1 ≤ byte t k → 1 ≤ v → entries (set t k v) ≡ entries t
unfolding entries
entries_over [] k v h l = refl
entries_over (zero ∷ t) zero v h l = absurd (omega arith)
entries_over (suc x ∷ t) zero zero h l = absurd (omega arith)
entries_over (suc x ∷ t) zero (suc v) h l = refl
entries_over (zero ∷ t) (suc k) v h l = entries_over t k v h l
entries_over (suc x ∷ t) (suc k) v h l = omega (arith, entries_over t k v h l)

pub entries_less : (t : List ℕ) (k : ℕ) → 1 ≤ byte t k → entries (set t k 0) + 1 ≡ entries t
unfolding entries
entries_less [] k h = absurd (omega arith)
entries_less (zero ∷ t) zero h = absurd (omega arith)
entries_less (suc x ∷ t) zero h = omega arith
entries_less (zero ∷ t) (suc k) h = entries_less t k h
entries_less (suc x ∷ t) (suc k) h = omega (arith, entries_less t k h)

-- no entry where all is zero
pub entries_none : (t : List ℕ) → Zero t → entries t ≡ 0
unfolding entries
entries_none [] z = refl
entries_none (zero ∷ t) z = entries_none t (λ k. z (suc k))
entries_none (suc x ∷ t) z = absurd (omega (arith, z 0))

pub none_entries : (t : List ℕ) → entries t ≡ 0 → Zero t
unfolding entries
none_entries [] e k = refl
none_entries (zero ∷ t) e zero = refl
none_entries (zero ∷ t) e (suc k) = none_entries t e k
none_entries (suc x ∷ t) e k = absurd (omega arith)

pub table_none : (p t : List ℕ) (f : ℕ) → Zero t → Table p 0 f t
table_none p t f z = record {
  short = λ i h. absurd (omega arith);
  inside = λ i h. absurd (omega arith);
  only = λ k. inl (z k);
  most = omega (arith, entries_none t z);
  starts = λ _ i j h. absurd (omega arith);
  at = λ _ i h. absurd (omega arith);
  full = λ _. entries_none t z;
}

module _ (p t : List ℕ) (n f : ℕ) (b : Table p n f t) where
  -- the entries lie before f
  pub inside_of : Inside f t
  inside_of k h = ⊎_elim (λ z. z) (λ u. absurd (omega (arith, u.2, b.inside u.0 u.1, b.short u.0 u.1))) (b.only k)

  -- the next record's entry
  pub table_more : (q : List ℕ) → 9 ≤ len p n → off p n + len p n ≤ f → f ≤ length t → q ≡ set t (off p n) (len p n) → Table p (n + 1) f q
  table_more q s l g e = record {
    short = λ i h. ⊎_elim (λ x. rw x s) (λ x. b.short i (omega (arith, x))) (same i n);
    inside = λ i h. ⊎_elim (λ x. rw x l) (λ x. b.inside i (omega (arith, x))) (same i n);
    only = λ k. ⊎_elim
        (λ x. inr (n, omega arith, sym x, rw x new))
        (λ x. ⊎_elim (λ y. inl (kept k x ∙ y)) (λ u. inr (u.0, omega (arith, u.1), u.2, kept k x ∙ u.3)) (b.only k))
        (same k (off p n));
    most = ⊎_elim (λ z. omega (arith, more z, b.most)) (λ z. omega (arith, over z, b.most)) (same (byte t (off p n)) 0);
    starts = λ m. let v = vacant m in let o = exact m in λ i j h k x. ⊎_elim
        (λ y. ⊎_elim (λ w. y ∙ sym w) (λ w. absurd (apart v o j (omega (arith, w)) (sym x ∙ ap (off p) y))) (same j n))
        (λ y. ⊎_elim (λ w. absurd (apart v o i (omega (arith, y)) (x ∙ ap (off p) w))) (λ w. b.starts o i j (omega (arith, y)) (omega (arith, w)) x) (same j n))
        (same i n);
    at = λ m i h. ⊎_elim
        (λ x. rw x new)
        (λ x. let r : i < n = omega (arith, x) in kept (off p i) (apart (vacant m) (exact m) i r) ∙ b.at (exact m) i r)
        (same i n);
    full = λ d. let u = b.full (λ i j h k. d i j (omega arith) (omega arith)) in omega (arith, more (free d), u);
  }
    where
      new : byte q (off p n) ≡ len p n
      new = rw e (get_or-set_same t (off p n) (len p n) 0 (omega arith))

      kept : (k : ℕ) → (k ≡ off p n → ⊥) → byte q k ≡ byte t k
      kept k x = rw e (get_or-set_other t (off p n) k (len p n) 0 x)

      more : byte t (off p n) ≡ 0 → entries q ≡ entries t + 1
      more z = rw e (entries_more t (off p n) (len p n) (omega arith) z (omega arith))

      over : (byte t (off p n) ≡ 0 → ⊥) → entries q ≡ entries t
      over z = rw e (entries_over t (off p n) (len p n) (omega arith) (omega arith))

      -- where all have an entry, there was none at the next one's start
      vacant : entries q ≡ n + 1 → byte t (off p n) ≡ 0
      vacant m = ⊎_elim (λ z. z) (λ z. absurd (omega (arith, over z, b.most))) (same (byte t (off p n)) 0)

      exact : entries q ≡ n + 1 → entries t ≡ n
      exact m = omega (arith, more (vacant m))

      apart : byte t (off p n) ≡ 0 → entries t ≡ n → (i : ℕ) → i < n → off p i ≡ off p n → ⊥
      apart v o i h x = omega (arith, b.short i h, b.at o i h, ap (byte t) x)

      free : Distinct p (n + 1) → byte t (off p n) ≡ 0
      free d = ⊎_elim (λ z. z) (λ u. absurd (omega (arith, u.1, d u.0 n (omega (arith, u.1)) (omega arith) u.2))) (b.only (off p n))

-- what lies before f cleared, all is zero
pub cleared : (t q : List ℕ) (f : ℕ) → Inside f t → Cleared t 0 f q → Zero q
cleared t q f h c k = ⊎_elim (λ l. c.new k (omega arith) l) (λ m. c.above k m ∙ h k m) (side k f)
