-- Two results of one promise are equal: what is read of a page, and row n of it. Assumes nothing.
use mathlib.Core.Path.{◌≡◌, refl, sym, ◌∙◌}
use mathlib.Core.List.{List}
use Prim.Native.Nat.{ℕ}
use Rattle.ground.specs.Ladder.{Answers}
use Rattle.ground.proofs.Ladders.{one}
use Rattle.store.specs.Tables.{Out}
use Rattle.store.proofs.Demands.Settled.{same, some_one}
use Rattle.page_reader.specs.Read.{Reads, whole, nothing, nth_table}

pub reads_settled : {g q r : List ℕ} → Reads g q → Reads g r → q ≡ r
reads_settled (whole s e) (whole t f) = e ∙ sym f
reads_settled (whole s e) (nothing u f) = absurd (u s)
reads_settled (nothing u e) (whole s f) = absurd (u s)
reads_settled (nothing u e) (nothing w f) = e ∙ sym f

pub nth_settled : (g : List ℕ) (n : ℕ) (out : List ℕ) (a b : Out × List ℕ) → Answers (nth_table g n out) a → Answers (nth_table g n out) b → a ≡ b
unfolding nth_table
nth_settled g n out = one (nth_table g n out) ((λ _ _ _ _. refl), (λ _ _. same), (λ _. (some_one, (λ _ _. same), same)))
