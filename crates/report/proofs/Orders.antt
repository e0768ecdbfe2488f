-- A place's rank: it is below 2^63 exactly where the place is a row place, and ranks are in the order of page, slot, volume. Assumes nothing.
use Prim.Native.Nat.{ℕ, ◌+◌, ◌*◌, ◌<◌, ◌≤◌}
use mathlib.Core.Path.{◌≡◌, sym, ap, subst, ◌∙◌}
use mathlib.Core.Logic.{inl, inr, ⊎_elim}
use native.Mathlib.Omega.{arith}
use lib.Dec.{lt→ltb, ltb→lt}
use lib.IntN.{ℤ, pos, negsuc}
use lib.Signed.{mag, ◌<ℤ◌, lt_z_yes}
use Rattle.ground.proofs.Sides.{side, same}
use Rattle.page.specs.declared.Place.{Place}
use Rattle.page.proofs.Signs.{whole, positive}
use Rattle.report.specs.Report.{RowPlace, Precedes, by_page, by_slot, by_volume}
use Rattle.report.specs.Numbers.{outside, nat_part, ranked, rank}
use Rattle.report.proofs.Ranks.{pack_a, pack_b, pack_c, pack_in}

-- three natural parts and their rank
pub record Parts (p : Place) : Type 0 where
  pub a : ℕ
  pub b : ℕ
  pub c : ℕ
  pub page_is : p.page ≡ pos a
  pub slot_is : p.slot ≡ pos b
  pub volume_is : p.volume ≡ pos c
  pub slot_low : b < 32768
  pub volume_low : c < 32768
  pub rank_is : rank p ≡ a * 4294967296 + b * 65536 + c
  pub rank_low : rank p ≤ 9223372036854775807

ranked_same : {a b c a' b' c' : ℕ} → a ≡ a' → b ≡ b' → c ≡ c' → ranked a b c ≡ ranked a' b' c'
ranked_same e f g i = ranked (e i) (f i) (g i)

pub parts : (p : Place) → RowPlace p → Parts p
parts p r =
    let x : pos (mag p.page) ≡ p.page = whole p.page (λ n. r.natural (inl n)) in
    let y : pos (mag p.slot) ≡ p.slot = whole p.slot (λ n. r.natural (inr (inl n))) in
    let z : pos (mag p.volume) ≡ p.volume = whole p.volume (λ n. r.natural (inr (inr n))) in
    let i : mag p.page < 2147483648 = r.range.page in
    let j : mag p.slot < 32768 = r.range.slot in
    let k : mag p.volume < 32768 = r.range.volume in
    let e : rank p ≡ mag p.page * 4294967296 + mag p.slot * 65536 + mag p.volume =
    sym (pack_in (mag p.page) (mag p.slot) (mag p.volume) i j k ∙ ranked_same (ap nat_part x) (ap nat_part y) (ap nat_part z)) in
    record { a = mag p.page; b = mag p.slot; c = mag p.volume; page_is = sym x; slot_is = sym y; volume_is = sym z; slot_low = j; volume_low = k; rank_is = e; rank_low = omega (arith, e, i, j, k) }

-- a rank below 2^63 is a row place's
ranked_low : (a b c : ℕ) → ranked a b c ≤ 9223372036854775807 → (a < 2147483648) × (b < 32768) × (c < 32768)
ranked_low a b c l =
    ⊎_elim (λ i. ⊎_elim (λ j. ⊎_elim (λ k. (i, j, k))
    (λ k. let e : outside ≡ ranked a b c = pack_c a b c i j k in absurd (omega (arith, e, l))) (side c 32768))
    (λ j. let e : outside ≡ ranked a b c = pack_b a b c i j in absurd (omega (arith, e, l))) (side b 32768))
    (λ i. let e : outside ≡ ranked a b c = pack_a a b c i in absurd (omega (arith, e, l))) (side a 2147483648)

nat_low : (x : ℤ) (m : ℕ) → m ≤ outside → nat_part x < m → (x <ℤ pos 0 → ⊥) × (mag x < m)
nat_low (pos n) m h l = (positive n, l)
nat_low (negsuc n) m h l = let k : outside < m = l in absurd (omega (arith, h, k))

pub low_place : (p : Place) → rank p ≤ 9223372036854775807 → RowPlace p
low_place p l =
    let w = ranked_low (nat_part p.page) (nat_part p.slot) (nat_part p.volume) l in
    let x = nat_low p.page 2147483648 (omega arith) w.0 in
    let y = nat_low p.slot 32768 (omega arith) w.1 in
    let z = nat_low p.volume 32768 (omega arith) w.2 in
    record {
      natural = λ n. ⊎_elim (λ i. x.0 i) (λ m. ⊎_elim (λ i. y.0 i) (λ i. z.0 i) m) n;
      range = record { page = x.1; slot = y.1; volume = z.1 };
    }

-- the order
less : {x y : ℤ} {a b : ℕ} → x ≡ pos a → y ≡ pos b → x <ℤ y → a < b
less {x} {y} {a} {b} e f l = let m : pos a <ℤ pos b = subst (λ z. z <ℤ pos b) e (subst (λ z. x <ℤ z) f l) in ltb→lt a b m.lt

more : {x y : ℤ} {a b : ℕ} → x ≡ pos a → y ≡ pos b → a < b → x <ℤ y
more {x} {y} {a} {b} e f l = let m : pos a <ℤ pos b = lt_z_yes (lt→ltb a b l) in subst (λ z. z <ℤ y) (sym e) (subst (λ z. pos a <ℤ z) (sym f) m)

equal : {x y : ℤ} {a b : ℕ} → x ≡ pos a → y ≡ pos b → x ≡ y → a ≡ b
equal e f g = ap mag (sym e ∙ g ∙ f)

alike : {x y : ℤ} {a b : ℕ} → x ≡ pos a → y ≡ pos b → a ≡ b → x ≡ y
alike e f g = e ∙ ap pos g ∙ sym f

module _ {p q : Place} (P : Parts p) (Q : Parts q) where
  pub precedes_rank : Precedes p q → rank p < rank q
  precedes_rank (by_page l) = let m : P.a < Q.a = less P.page_is Q.page_is l in omega (arith, P.rank_is, Q.rank_is, P.slot_low, P.volume_low, m)
  precedes_rank (by_slot e l) =
      let i : P.a ≡ Q.a = equal P.page_is Q.page_is e in
      let m : P.b < Q.b = less P.slot_is Q.slot_is l in
      omega (arith, P.rank_is, Q.rank_is, P.volume_low, i, m)
  precedes_rank (by_volume e f l) =
      let i : P.a ≡ Q.a = equal P.page_is Q.page_is e in
      let j : P.b ≡ Q.b = equal P.slot_is Q.slot_is f in
      let m : P.c < Q.c = less P.volume_is Q.volume_is l in
      omega (arith, P.rank_is, Q.rank_is, i, j, m)

  pub rank_precedes : rank p < rank q → Precedes p q
  rank_precedes l = ⊎_elim (λ i. by_page (more P.page_is Q.page_is i))
      (λ i. ⊎_elim (λ f. slots f) (λ n. absurd (far n i)) (same P.a Q.a)) (side P.a Q.a)
    where
      far : (P.a ≡ Q.a → ⊥) → Q.a ≤ P.a → ⊥
      far n i = omega (arith, P.rank_is, Q.rank_is, Q.slot_low, Q.volume_low, n, i, l)

      volumes : P.a ≡ Q.a → P.b ≡ Q.b → Precedes p q
      volumes f g = by_volume (alike P.page_is Q.page_is f) (alike P.slot_is Q.slot_is g) (more P.volume_is Q.volume_is (omega (arith, P.rank_is, Q.rank_is, f, g, l)))

      slots : P.a ≡ Q.a → Precedes p q
      slots f = ⊎_elim (λ j. by_slot (alike P.page_is Q.page_is f) (more P.slot_is Q.slot_is j))
          (λ j. ⊎_elim (λ g. volumes f g) (λ n. absurd (omega (arith, P.rank_is, Q.rank_is, Q.volume_low, f, n, j, l))) (same P.b Q.b)) (side P.b Q.b)

  parts_same : rank p ≡ rank q → (P.a ≡ Q.a) × (P.b ≡ Q.b) × (P.c ≡ Q.c)
  parts_same e = (
    omega (arith, P.rank_is, Q.rank_is, P.slot_low, P.volume_low, Q.slot_low, Q.volume_low, e),
    omega (arith, P.rank_is, Q.rank_is, P.slot_low, P.volume_low, Q.slot_low, Q.volume_low, e),
    omega (arith, P.rank_is, Q.rank_is, P.slot_low, P.volume_low, Q.slot_low, Q.volume_low, e),
  )

  -- a rank is of one place
  pub rank_one : rank p ≡ rank q → p ≡ q
  rank_one e = let w = parts_same e in
      λ i. record { page = alike P.page_is Q.page_is w.0 i; slot = alike P.slot_is Q.slot_is w.1 i; volume = alike P.volume_is Q.volume_is w.2 i }
