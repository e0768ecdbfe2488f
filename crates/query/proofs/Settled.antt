-- What the passes promise settles their answers: two that keep it are equal. Assumes nothing.
use mathlib.Core.Path.{◌≡◌, refl, ap}
use mathlib.Core.List.{List}
use mathlib.Core.Logic.{⊎_elim}
use Prim.Native.Nat.{ℕ}
use Rattle.std.specs.Prelude.{Option, Some, None}
use native.Mathlib.Omega.{arith}
use Rattle.ground.proofs.Sides.{side}
use Rattle.ground.proofs.Tests.{none_some}
use Rattle.page.specs.Page.{row_at}
use Rattle.partition.specs.declared.Shape.{Shape}
use Rattle.store.specs.Pages.{page, as_row}
use Rattle.store.proofs.Accepted.Rules.{broken_one, accepted_whole}
use Rattle.store.proofs.Demands.Settled.{some_one}
use Rattle.store_check.specs.First.{FirstFrom, Judged}
use Rattle.query.specs.Cursors.{Stepped}
use Rattle.query.specs.declared.Cursor.{Cursor}
use Rattle.query.specs.declared.Spot.{Spot}

-- a pass has one first bad page, from wherever it starts
pub first_one : (m n : ℕ) (P : ℕ → Type 0) (p q : ℕ) → FirstFrom m n P p → FirstFrom m n P q → p ≡ q
first_one m n P p q a b = ⊎_elim
    (λ l. absurd (a.bad (omega (arith, b.within)) (b.before p l a.start)))
    (λ g. ⊎_elim (λ l. absurd (b.bad (omega (arith, a.within)) (a.before q l b.start))) (λ h. omega arith) (side q p)) (side p q)

-- the check stops at one page, or at none
pub judged_one : (S : Shape) (h : List ℕ → ℕ) (s : List ℕ) (p q : Option ℕ) → Judged S h s p → Judged S h s q → p ≡ q
judged_one S h s (Some p) (Some q) a b = ap Some (broken_one S h s p q a.1 b.1)
judged_one S h s (Some p) None a b = absurd (accepted_whole S h s b p a.1)
judged_one S h s None (Some q) a b = absurd (accepted_whole S h s a q b.1)
judged_one S h s None None a b = refl

-- a place of the listing has one row, or none: so has a step from before it, wherever its cursor stands
pub stepped_one : (S : Shape) (s : List ℕ) (n : ℕ) (a b : Spot) (c e : Cursor) → Stepped S s n (Some (a, c)) → Stepped S s n (Some (b, e)) → as_row (row_at (page S s a.page) a.slot) ≡ as_row (row_at (page S s b.page) b.slot)
stepped_one S s n a b c e x y = some_one _ _ x.0.1 y.0.1

pub stepped_done : (S : Shape) (s : List ℕ) (n : ℕ) (a : Spot) (c : Cursor) → Stepped S s n (Some (a, c)) → Stepped S s n None → ⊥
stepped_done S s n a c x y = none_some y x.0.1
