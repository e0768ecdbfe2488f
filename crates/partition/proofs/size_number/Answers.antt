use Rattle.std.proofs.Common.{rules, ◌≡◌, ◌≢◌, ◌∙◌, sym}
use Rattle.std.proofs.lemmas.Bool.{eq-eqb, ne_eqb}
use Rattle.partition.specs.declared.Shape.{Shape}
use Rattle.partition.specs.Sizes.{number_of_size, size}
use Rattle.partition.proofs.size_number.Goals as goal

number_1024 : (S : Shape) → size S ≡ 1024 → number_of_size S ≡ 0
unfolding number_of_size
number_1024 S h = simp (eq-eqb _ _ h)

number_other : (S : Shape) → size S ≢ 1024 → number_of_size S ≡ size S
unfolding number_of_size
number_other S h = simp (ne_eqb _ _ h)

pub returns-in-1024 : goal.returns-in-1024
returns-in-1024 c = sym (number_1024 _ (search rules))

pub returns-in_default : goal.returns-in_default
returns-in_default c = c.size.ensures ∙ sym (number_other _ (search rules))
