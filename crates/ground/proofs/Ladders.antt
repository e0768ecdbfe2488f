-- Two results of one ladder are equal, where each of its rungs and ends settles its own. Assumes nothing.
use mathlib.Core.Path.{◌≡◌, subst}
use mathlib.Core.Logic.{inl, inr}
use Rattle.ground.specs.Ladder.{Ladder, rung, given, ends, Answers}

abbrev pub Sure : {A : Type 0} → Ladder A → Type 0
Sure (rung {X} P f l) = ((x y : X) → P x → P y → x ≡ y) × ((x : X) → P x → Sure (f x)) × Sure l
Sure (given P l) = P → Sure l
Sure {A} (ends P) = (a b : A) → P a → P b → a ≡ b

pub one : {A : Type 0} (l : Ladder A) → Sure l → (a b : A) → Answers l a → Answers l b → a ≡ b
one (rung P f l) s a b (inl p) (inl q) =
    one (f p.0) (s.1 p.0 p.1.0) a b p.1.1 (subst (λ x. Answers (f x) b) (s.0 q.0 p.0 q.1.0 p.1.0) q.1.1)
one (rung P f l) s a b (inl p) (inr q) = absurd (q.0 p.0 p.1.0)
one (rung P f l) s a b (inr p) (inl q) = absurd (p.0 q.0 q.1.0)
one (rung P f l) s a b (inr p) (inr q) = one l s.2 a b p.1 q.1
one (given P l) s a b p q = one l (s p.0) a b p.1 q.1
one (ends P) s a b p q = s a b p q

-- what holds of each end, with the rungs that lead to it, holds of each result
abbrev pub Each : {A : Type 0} → (A → Type 0) → Ladder A → Type 0
Each Q (rung {X} P f l) = ((x : X) → P x → Each Q (f x)) × (((x : X) → P x → ⊥) → Each Q l)
Each Q (given P l) = P → Each Q l
Each {A} Q (ends P) = (a : A) → P a → Q a

pub each : {A : Type 0} (Q : A → Type 0) (l : Ladder A) → Each Q l → (a : A) → Answers l a → Q a
each Q (rung P f l) e a (inl p) = each Q (f p.0) (e.0 p.0 p.1.0) a p.1.1
each Q (rung P f l) e a (inr p) = each Q l (e.1 p.0) a p.1
each Q (given P l) e a p = each Q l (e p.0) a p.1
each Q (ends P) e a p = e a p
