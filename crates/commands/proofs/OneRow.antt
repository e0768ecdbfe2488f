-- A line of a sheet says one thing. Assumes nothing.
use Prim.Native.Nat.{ℕ}
use mathlib.Core.Path.{◌≡◌, refl, sym, ap, ◌∙◌}
use mathlib.Core.Bool.{Bool, true, false}
use mathlib.Core.List.{List, [], ◌∷◌}
use mathlib.Core.Logic.{inl, inr}
use native.Mathlib.Omega.{arith}
use lib.IntN.{ℤ, pos, neg_ℤ}
use lib.ListN.{length}
use Rattle.ground.specs.Lists.{byte}
use Rattle.page.specs.declared.Place.{Place}
use Rattle.commands.specs.Numbers.{value, Integer, signed, marked}
use Rattle.commands.specs.SheetLines.{PassedOver, RowLine, FitsRow, LineSays}
use Rattle.commands.specs.declared.SheetLine.{SheetLine}
use Rattle.commands.specs.declared.SheetLine.TheVariants.{Passed, Amount, Other}

-- one text, one number
integer_one : (z y : ℤ) (w : List ℕ) → Integer z w → Integer y w → z ≡ y
integer_one z y w i j = go i.minus j.minus i.text j.text i.is j.is
  where
    same_size : i.digits ≡ j.digits → i.size ≡ j.size
    same_size e = sym i.sized.is ∙ ap (λ (d : List ℕ). value d (length d)) e ∙ j.sized.is

    go : (a b : Bool) → w ≡ marked a i.digits → w ≡ marked b j.digits → z ≡ signed a i.size → y ≡ signed b j.size → z ≡ y
    go false false e f g h = g ∙ ap pos (same_size (sym e ∙ f)) ∙ sym h
    go true true e f g h =
        let q : 45 ∷ i.digits ≡ 45 ∷ j.digits = sym e ∙ f in
        let r : i.digits ≡ j.digits = cc in
        g ∙ ap (λ (n : ℕ). neg_ℤ (pos n)) (same_size r) ∙ sym h
    go true false e f g h = absurd (let q : byte j.digits 0 ≡ 45 = ap (λ (v : List ℕ). byte v 0) (sym f ∙ e) in omega (arith, (j.sized.each 0 j.sized.some).least))
    go false true e f g h = absurd (let q : byte i.digits 0 ≡ 45 = ap (λ (v : List ℕ). byte v 0) (sym e ∙ f) in omega (arith, (i.sized.each 0 i.sized.some).least))

-- a number does not begin with #
no_remark : (z : ℤ) (w : List ℕ) → Integer z w → byte w 0 ≡ 35 → ⊥
no_remark z w i e = go i.minus i.text
  where
    go : (a : Bool) → w ≡ marked a i.digits → ⊥
    go true f = let q : ◌≡◌ {A = ℕ} 45 35 = sym (ap (λ (v : List ℕ). byte v 0) f) ∙ e in omega (arith, q)
    go false f = let q : byte i.digits 0 ≡ 35 = sym (ap (λ (v : List ℕ). byte v 0) f) ∙ e in omega (arith, (i.sized.each 0 i.sized.some).least)

not_passed : (l : List ℕ) (p : Place) (z : ℤ) → RowLine p z l → PassedOver l → ⊥
not_passed l p z r (inl e) = let q : ◌≡◌ {A = ℕ} 0 4 = ap (λ (v : List (List ℕ)). length v) (sym e ∙ r.words) in omega (arith, q)
not_passed l p z r (inr m) =
    let q : m.word ∷ m.rest ≡ r.page ∷ r.slot ∷ r.volume ∷ r.cents ∷ [] = sym m.words ∙ r.words in
    let e : m.word ≡ r.page = cc in
    no_remark p.page r.page r.writes.0 (ap (λ (v : List ℕ). byte v 0) (sym e) ∙ m.opens)

row_one : (l : List ℕ) (p q : Place) (z y : ℤ) → RowLine p z l → RowLine q y l → Amount p z ≡ Amount q y
row_one l p q z y a b =
    let e : a.page ∷ a.slot ∷ a.volume ∷ a.cents ∷ [] ≡ b.page ∷ b.slot ∷ b.volume ∷ b.cents ∷ [] = sym a.words ∙ b.words in
    let e1 : a.page ≡ b.page = cc in
    let e2 : a.slot ≡ b.slot = cc in
    let e3 : a.volume ≡ b.volume = cc in
    let e4 : a.cents ≡ b.cents = cc in
    let f1 : p.page ≡ q.page = integer_one _ _ b.page (rw e1 at a.writes.0) b.writes.0 in
    let f2 : p.slot ≡ q.slot = integer_one _ _ b.slot (rw e2 at a.writes.1) b.writes.1 in
    let f3 : p.volume ≡ q.volume = integer_one _ _ b.volume (rw e3 at a.writes.2) b.writes.2 in
    let f4 : z ≡ y = integer_one _ _ b.cents (rw e4 at a.writes.3) b.writes.3 in
    λ i. Amount (record { page = f1 i; slot = f2 i; volume = f3 i }) (f4 i)

-- no number is too large for its field
abbrev pub FitsLine : SheetLine → Type 0
FitsLine Passed = Unit {0}
FitsLine (Amount p z) = FitsRow p z
FitsLine Other = Unit {0}

-- WHAT A LINE OF A SHEET SAYS IS ONE THING
pub line_one : (l : List ℕ) (x y : SheetLine) → FitsLine x → FitsLine y → LineSays l x → LineSays l y → x ≡ y
line_one l Passed Passed f g a b = refl
line_one l Passed (Amount p z) f g a b = absurd (not_passed l p z b a)
line_one l Passed Other f g a b = absurd (b.0 a)
line_one l (Amount p z) Passed f g a b = absurd (not_passed l p z a b)
line_one l (Amount p z) (Amount q y) f g a b = row_one l p q z y a b
line_one l (Amount p z) Other f g a b = absurd (b.1 p z f a)
line_one l Other Passed f g a b = absurd (a.0 b)
line_one l Other (Amount q y) f g a b = absurd (a.1 q y g b)
line_one l Other Other f g a b = refl
