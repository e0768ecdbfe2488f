use Rattle.std.proofs.Common.{rules, ◌≡◌, ◌≢◌, ◌∙◌, sym, ap, ℕ}
use Rattle.std.proofs.lemmas.Bool.{ne_eqb}
use Rattle.partition.specs.Partition.{S1024}
use Rattle.partition.specs.Sizes.{shape_at, shape_for}
use Rattle.partition.proofs.shape_for.Goals as goal

other : (n : ℕ) → n ≢ 4096 → n ≢ 16384 → shape_for n ≡ S1024
unfolding shape_for
other n f s = simp (ne_eqb _ _ f, ne_eqb _ _ s)

pub returns-in-4096 : goal.returns-in-4096
unfolding shape_at shape_for
returns-in-4096 c = c.shape_at.ensures ∙ ap shape_for (sym c.in-4096.is)

pub returns-in-16384 : goal.returns-in-16384
unfolding shape_at shape_for
returns-in-16384 c = c.shape_at-in-16384.ensures ∙ ap shape_for (sym c.in-16384.is)

pub returns-in_default : goal.returns-in_default
unfolding shape_at
returns-in_default c = c.shape_at-in_default.ensures ∙ sym (other _ (search rules) (search rules))
