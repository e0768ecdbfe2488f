-- Laws of `Says`; none is not some. Assumes nothing.
use mathlib.Core.Path.{◌≡◌, refl, sym, subst}
use mathlib.Core.Bool.{Bool, true, false, true≢false}
use mathlib.Core.Option.{Option, some, none}
use Prim.Native.Nat.{ℕ, ◌≤◌, ◌<◌}
use lib.Dec.{eqb, ltb, leb}
use native.Mathlib.Omega.{arith}
use borrow.Author.Tests.{eqb-true, eqb-false, ltb-true, ltb-false, leb-true, leb-false}
use Rattle.ground.specs.Says.{Says}

pub says_true : {P : Type 0} (r : Bool) → r ≡ true → Says r P → P
says_true {P} r e s = subst (λ (t : Bool). Says t P) e s

pub says_false : {P : Type 0} (r : Bool) → r ≡ false → Says r P → P → ⊥
says_false {P} r e s = subst (λ (t : Bool). Says t P) e s

-- two answers that say the same are one
pub says_one : (P : Type 0) (r t : Bool) → Says r P → Says t P → r ≡ t
says_one P true true a b = refl
says_one P true false a b = absurd (b a)
says_one P false true a b = absurd (a b)
says_one P false false a b = refl

-- what says P says Q, where the two are the same
pub says_same : {P Q : Type 0} (r : Bool) → Says r P → (P → Q) → (Q → P) → Says r Q
says_same true s f g = f s
says_same false s f g = λ q. s (g q)

says_by : {P : Type 0} (a b : ℕ) (t : Bool) → eqb a b ≡ t → (a ≡ b → P) → (P → a ≡ b) → Says t P
says_by a b true e f g = f (eqb-true a b e)
says_by a b false e f g = λ p. eqb-false a b e (g p)

-- a test of two numbers says P, where P is that they are equal
pub says_eqb : {P : Type 0} (a b : ℕ) → (a ≡ b → P) → (P → a ≡ b) → Says (eqb a b) P
says_eqb a b f g = says_by a b (eqb a b) refl f g

pub untrue : {P : Type 0} → false ≡ true → P
untrue e = absurd (true≢false (sym e))

less_by : {P : Type 0} (a b : ℕ) (t : Bool) → ltb a b ≡ t → (a < b → P) → (P → a < b) → Says t P
less_by a b true e f g = f (ltb-true a b e)
less_by a b false e f g = λ p. let h : b ≤ a = ltb-false a b e in omega (arith, g p)

-- where P is that the first is less
pub says_ltb : {P : Type 0} (a b : ℕ) → (a < b → P) → (P → a < b) → Says (ltb a b) P
says_ltb a b f g = less_by a b (ltb a b) refl f g

most_by : {P : Type 0} (a b : ℕ) (t : Bool) → leb a b ≡ t → (a ≤ b → P) → (P → a ≤ b) → Says t P
most_by a b true e f g = f (leb-true a b e)
most_by a b false e f g = λ p. let h : b < a = leb-false a b e in omega (arith, g p)

-- where P is that the first is at most the second
pub says_leb : {P : Type 0} (a b : ℕ) → (a ≤ b → P) → (P → a ≤ b) → Says (leb a b) P
says_leb a b f g = most_by a b (leb a b) refl f g

pub none_some : {A : Type 0} {o : Option A} {x : A} → o ≡ none → o ≡ some x → ⊥
none_some e f = let n : ◌≡◌ {A = ℕ} 0 1 = cc in omega arith
