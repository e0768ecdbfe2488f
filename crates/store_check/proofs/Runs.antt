-- Runs of numbers, and a test of each element of a run. Assumes nothing.
use Rattle.std.proofs.Common.{◌≡◌, refl, ℕ, ◌+◌, ◌-◌, ◌≤◌, ◌<◌, Bool, true, false, List, length, get_or, take, drop, sym, ap, subst, ◌∙◌, arith, ◌↔◌, IsTrue, EachIndex}
use Rattle.std.proofs.lemmas.List.{get_or-take, get_or-drop, length-take-le, length-drop}
use Rattle.ground.specs.Says.{Says}
use Rattle.ground.proofs.Tests.{untrue}

-- P holds from a up to b
abbrev pub Run : (ℕ → Type 0) → ℕ → ℕ → Type 0
Run P a b = (i : ℕ) → a ≤ i → i < b → P i

says_is : {P Q : Type 0} (r : Bool) → IsTrue r ↔ P → (P → Q) → (Q → P) → Says r Q
says_is true h f g = f (h.0 refl)
says_is false h f g = λ q. untrue (h.1 (g q))

-- the elements from a up to b, tested one by one
pub run_tested : (P : ℕ → Type 0) (xs : List ℕ) (a b : ℕ) (r : Bool) → a ≤ b → b ≤ length xs → IsTrue r ↔ EachIndex (take (b - a) (drop a xs)) (λ k. P (get_or (take (b - a) (drop a xs)) k 0)) → Says r (Run (λ i. P (get_or xs i 0)) a b)
run_tested P xs a b r up within h =
    says_is {P = EachIndex (take (b - a) (drop a xs)) (λ k. P (get_or (take (b - a) (drop a xs)) k 0))} {Q = Run (λ i. P (get_or xs i 0)) a b} r h
    (λ e i l m. let q : a + (i - a) ≡ i = omega arith in subst P (at (i - a) (omega arith) ∙ ap (λ k. get_or xs k 0) q) (e (i - a) (omega (arith, long))))
    (λ e i l. subst P (sym (at i (omega (arith, long)))) (e (a + i) (omega arith) (omega (arith, long))))
  where
    long : length (take (b - a) (drop a xs)) ≡ b - a
    long = length-take-le (b - a) (drop a xs) (omega (arith, length-drop a xs))

    at : (i : ℕ) → i < b - a → get_or (take (b - a) (drop a xs)) i 0 ≡ get_or xs (a + i) 0
    at i l = get_or-take (b - a) (drop a xs) i 0 l ∙ get_or-drop a xs i 0
