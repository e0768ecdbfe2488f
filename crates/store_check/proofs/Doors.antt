-- What a call's two doors say of its table: the length, and the check. Assumes nothing.
use Rattle.std.specs.Prelude.{◌≡◌, List, ℕ, Result, Ok, Err}
use mathlib.Core.Path.{ap, subst, ◌∙◌}
use Rattle.ground.specs.Ladder.{Ladder, Answers}
use Rattle.partition.specs.declared.Shape.{Shape}
use Rattle.partition.specs.Sizes.{shape_of}
use Rattle.store.specs.declared.Done.{Done}
use Rattle.store.specs.declared.Refusal.{Refusal}
use Rattle.store.specs.declared.Refusal.TheVariants.{BadLength, BadPage}
use Rattle.store.specs.Tables.{Out, refused, refused_at, refusal, meaning}
use Rattle.store_check.specs.Said.{SaidShape}

-- x is what the call answers where a door answers Err r; w is the whole result of an answer
module _ {A : Type 0} (w : Out → A) (x : Result Done Refusal) (r : Refusal) (e : x ≡ Err r) where
  refused_so : (q : Refusal) → r ≡ q → w (meaning x) ≡ w (refusal q)
  refused_so q f = ap (λ y. w (meaning y)) e ∙ ap (λ q. w (refusal q)) f

  pub length_refused : r ≡ BadLength → w (meaning x) ≡ w (refused 1)
  length_refused = refused_so BadLength

  pub page_refused : (p : ℕ) → r ≡ BadPage p → w (meaning x) ≡ w (refused_at 2 p)
  page_refused p = refused_so (BadPage p)

-- past the length: what the table at the size z allows, that at the size that the store says allows
pub own_size : {A : Type 0} (s : List ℕ) (z : Shape) → SaidShape s (Ok z) → (T : Shape → Ladder A) (r : A) → Answers (T z) r → Answers (T (shape_of s)) r
own_size s z said T r = subst (λ S. Answers (T S) r) said.0
