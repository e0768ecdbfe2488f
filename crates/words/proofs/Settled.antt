-- Two results of one promise are equal: each promise of this crate settles every byte. Assumes nothing.
use mathlib.Core.Path.{◌≡◌, refl, sym, ◌∙◌}
use mathlib.Core.Logic.{⊎_elim}
use mathlib.Core.List.{List}
use Prim.Native.Nat.{ℕ, ◌+◌, ◌-◌, ◌≤◌, ◌<◌}
use native.Mathlib.Omega.{arith}
use lib.Seq.{ext_get_or}
use Rattle.ground.specs.Lists.{byte}
use Rattle.ground.proofs.Sides.{side}
use Rattle.words.specs.Moves.{Frame, Put16, Put32, Wrote, Span}
use Rattle.words.specs.Codes.{Ordered}
use Rattle.words.specs.Zeros.{ZeroRun}
use Rattle.std.specs.declared.cmp.Ordering.{Ordering}
use Rattle.std.specs.declared.cmp.Ordering.TheVariants.{Less, Equal, Greater}
use Rattle.words.proofs.Bytes.{le16_bytes, le32_byte}
use Rattle.words.proofs.Orders.{irrefl, before_trans}

-- what a frame leaves open is the n bytes from k
frame_one : {p q r : List ℕ} {k n : ℕ} → Frame p k n q → Frame p k n r → ((i : ℕ) → i < n → byte q (k + i) ≡ byte r (k + i)) → q ≡ r
frame_one {p} {q} {r} {k} {n} f g e = ext_get_or 0 q r (f.len ∙ sym g.len) (λ i _. ⊎_elim
    (λ lt. f.below i lt ∙ sym (g.below i lt))
    (λ ge. ⊎_elim
    (λ lt. let j : k + (i - k) ≡ i = omega arith in rw (← j) (e (i - k) (omega arith)))
    (λ past. f.above i past ∙ sym (g.above i past))
    (side i (k + n)))
    (side i k))

pub wrote_one : {p q r : List ℕ} {k n : ℕ} {f : ℕ → ℕ} → Wrote p k n f q → Wrote p k n f r → q ≡ r
wrote_one a b = frame_one a.old b.old (λ i h. a.new i h ∙ sym (b.new i h))

pub span_one : {p q r : List ℕ} {a b : ℕ} {g : ℕ → ℕ} → Span p a b g q → Span p a b g r → q ≡ r
span_one {p} {q} {r} {a} {b} v w = ext_get_or 0 q r (v.len ∙ sym w.len) (λ i _. ⊎_elim
    (λ lt. v.below i lt ∙ sym (w.below i lt))
    (λ ge. ⊎_elim (λ lt. v.new i ge lt ∙ sym (w.new i ge lt)) (λ past. v.above i past ∙ sym (w.above i past)) (side i b))
    (side i a))

-- a slice's elements are bytes
module _ {p q r : List ℕ} {k v : ℕ} (hq : (i : ℕ) → byte q i < 256) (hr : (i : ℕ) → byte r i < 256) where
  pub put16_one : Put16 p k v q → Put16 p k v r → q ≡ r
  put16_one a b =
      let e : (byte q k ≡ byte r k) × (byte q (k + 1) ≡ byte r (k + 1)) = le16_bytes q r k hq hr (a.val ∙ sym b.val) in
      frame_one a.old b.old (λ i h. ⊎_elim
      (λ lt. let z : k + i ≡ k = omega arith in rw z e.0)
      (λ ge. let z : i ≡ 1 = omega arith in rw z e.1)
      (side i 1))

  pub put32_one : Put32 p k v q → Put32 p k v r → q ≡ r
  put32_one a b = frame_one a.old b.old (λ i h. le32_byte q r k i hq hr (a.val ∙ sym b.val) h)

pub ordered_one : (s t : List ℕ) (a b : Ordering) → Ordered s t a → Ordered s t b → a ≡ b
ordered_one s t Less Less x y = refl
ordered_one s t Less Equal x y = absurd (irrefl _ (rw y at x))
ordered_one s t Less Greater x y = absurd (irrefl _ (before_trans x y))
ordered_one s t Equal Less x y = absurd (irrefl _ (rw x at y))
ordered_one s t Equal Equal x y = refl
ordered_one s t Equal Greater x y = absurd (irrefl _ (rw x at y))
ordered_one s t Greater Less x y = absurd (irrefl _ (before_trans x y))
ordered_one s t Greater Equal x y = absurd (irrefl _ (rw y at x))
ordered_one s t Greater Greater x y = refl

-- the longer of two runs has a block of zeros where the shorter ends
run_most : {g : List ℕ} {a b c : ℕ} → ZeroRun g a b → ZeroRun g a c → c ≤ b
run_most {g} {a} {b} {c} x y = ⊎_elim
    (λ lt. absurd (x.last (omega (arith, x.from, x.blocks, y.to, y.blocks)) (λ k l h. y.zero k (omega (arith, x.from)) (omega (arith, x.from, x.blocks, y.blocks)))))
    (λ ge. ge)
    (side b c)

pub run_one : {g : List ℕ} {a b c : ℕ} → ZeroRun g a b → ZeroRun g a c → b ≡ c
run_one x y = omega (arith, run_most x y, run_most y x)
