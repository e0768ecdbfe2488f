-- The sheet's rules over the first i rows. Assumes nothing.
use Prim.Native.Nat.{ℕ, ◌+◌, ◌<◌, ◌≤◌}
use mathlib.Core.Path.{◌≡◌, sym, subst}
use mathlib.Core.Logic.{◌⊎◌, inl, inr}
use mathlib.Core.List.{List}
use native.Mathlib.Nat.{not-suc-le-zero, eq-or-lt_of_le}
use native.Mathlib.Omega.{arith}
use lib.ListN.{length, get_or}
use Rattle.report.specs.Numbers.{Sound}

-- a row before i whose place is at least x
pub record EarlierRow (ps : List ℕ) (i x : ℕ) : Type 0 where
  pub j : ℕ
  pub j_lt : j < i
  pub least : x ≤ get_or {A = ℕ} ps j 0

-- the last place is the greatest
pub record RisingTo (ps ls : List ℕ) (i last : ℕ) : Type 0 where
  pub i_le : i ≤ length ps
  pub rises : (a b : ℕ) → a < b → b < i → get_or {A = ℕ} ps a 0 < get_or {A = ℕ} ps b 0
  pub amount_le : (a : ℕ) → a < i → get_or {A = ℕ} ls a 0 ≤ 2000000000000
  pub below : (a : ℕ) → a < i → get_or {A = ℕ} ps a 0 ≤ last
  pub is : EarlierRow ps i last

-- what holds of i and of all before it
below_next : (P : ℕ → Type 0) (i : ℕ) → P i → ((a : ℕ) → a < i → P a) → (a : ℕ) → a < i + 1 → P a
below_next P i h k a l = go (eq-or-lt_of_le (omega (arith, l)))
  where
    go : (a ≡ i) ⊎ (a < i) → P a
    go (inl e) = subst P (sym e) h
    go (inr m) = k a m

pub rising_none : (ps ls : List ℕ) → length ps ≡ 0 → length ls ≡ length ps → Sound ps ls
rising_none ps ls e m = record {
  ascending = record { rises = λ a b ab bl. absurd (omega (arith, bl, e)) };
  places = record { le = λ a al. absurd (omega (arith, al, e)) };
  amounts = record { le = λ a al. absurd (omega (arith, al, m, e)) };
}

pub rising_start : (ps ls : List ℕ) → 0 < length ps → get_or {A = ℕ} ls 0 0 ≤ 2000000000000 → RisingTo ps ls 1 (get_or {A = ℕ} ps 0 0)
rising_start ps ls l m = record {
  i_le = omega (arith, l);
  rises = λ a b ab b1. absurd (omega (arith, ab, b1));
  amount_le = below_next (λ (a : ℕ). get_or {A = ℕ} ls a 0 ≤ 2000000000000) 0 m (λ a k. absurd (not-suc-le-zero k));
  below = below_next (λ (a : ℕ). get_or {A = ℕ} ps a 0 ≤ get_or {A = ℕ} ps 0 0) 0 (omega arith) (λ a k. absurd (not-suc-le-zero k));
  is = record { j = 0; j_lt = omega arith; least = omega arith };
}

module _ {ps ls : List ℕ} {i last : ℕ} (r : RisingTo ps ls i last) where
  abbrev p : ℕ
  p = get_or {A = ℕ} ps i 0

  pub rising_next : i < length ps → last < p → get_or {A = ℕ} ls i 0 ≤ 2000000000000 → RisingTo ps ls (i + 1) p
  rising_next l o m = record {
    i_le = omega (arith, l);
    rises = λ a b ab bl. below_next (λ (b : ℕ). (a : ℕ) → a < b → get_or {A = ℕ} ps a 0 < get_or {A = ℕ} ps b 0) i
        (λ a al. let d : get_or {A = ℕ} ps a 0 ≤ last = r.below a al in omega (arith, d, o)) (λ b bl a ab. r.rises a b ab bl) b bl a ab;
    amount_le = below_next (λ (a : ℕ). get_or {A = ℕ} ls a 0 ≤ 2000000000000) i m r.amount_le;
    below = below_next (λ (a : ℕ). get_or {A = ℕ} ps a 0 ≤ p) i (omega arith) (λ a al. let d : get_or {A = ℕ} ps a 0 ≤ last = r.below a al in omega (arith, d, o));
    is = record { j = i; j_lt = omega arith; least = omega arith };
  }

  pub falls : i < length ps → p ≤ last → Sound ps ls → ⊥
  falls l h s =
      let e = r.is in
      let d : get_or {A = ℕ} ps e.j 0 < p = s.ascending.rises e.j i e.j_lt l in
      omega (arith, d, e.least, h)

  pub too_high : 9223372036854775808 ≤ last → Sound ps ls → ⊥
  too_high h s =
      let e = r.is in
      let d : get_or {A = ℕ} ps e.j 0 ≤ 9223372036854775807 = s.places.le e.j (omega (arith, e.j_lt, r.i_le)) in
      omega (arith, d, e.least, h)

  pub rising_end : length ls ≡ length ps → length ps ≤ i → last < 9223372036854775808 → Sound ps ls
  rising_end m h o = record {
    ascending = record { rises = λ a b ab bl. r.rises a b ab (omega (arith, bl, h)) };
    places = record { le = λ a al. let d : get_or {A = ℕ} ps a 0 ≤ last = r.below a (omega (arith, al, h)) in omega (arith, d, o) };
    amounts = record { le = λ a al. r.amount_le a (omega (arith, al, h, m)) };
  }
