-- A page's size tells how deep it may be; of no other size is a page sound.
use Rattle.std.proofs.Common.{◌≡◌, ℕ, ◌≤◌, arith, subst, sym, inl, inr}
use mathlib.Core.Logic.{⊎_elim}
use Rattle.partition.specs.declared.Shape.{Shape}
use Rattle.partition.specs.Sizes.{Sized, shape_for}
use Rattle.partition.proofs.Sizes.{sized_for, twelve}
use Rattle.store.proofs.Accepted.OwnSize.{size_is}
use Rattle.page_reader.proofs.Rows.{sound_by}
use Rattle.page_reader.proofs.sound.sound.Goals as goal

-- the deepest depth of a size is 12 at most
shallow : (z : Shape) (n : ℕ) → z ≡ shape_for n → z.deepest ≤ 12
shallow z n e = twelve z (subst Sized (sym e) (sized_for n))

pub overflow_cast-deepest : goal.overflow_cast-deepest
overflow_cast-deepest c = record { fits = omega (arith, shallow _ _ c.shape_for-deepest.ensures) }

pub keeps-requires : goal.keeps-requires
keeps-requires c = (c.in-1024.is, omega (arith, shallow _ _ c.shape_for-deepest.ensures))

pub keeps-requires-in-4096 : goal.keeps-requires-in-4096
keeps-requires-in-4096 c = (c.in-4096.is, omega (arith, shallow _ _ c.shape_for-deepest.ensures))

pub keeps-requires-in-16384 : goal.keeps-requires-in-16384
keeps-requires-in-16384 c = (c.in-16384.is, omega (arith, shallow _ _ c.shape_for-deepest.ensures))

pub returns-in-1024 : goal.returns-in-1024
returns-in-1024 c = sound_by _ _ _ c.shape_for-deepest.ensures (inl c.in-1024.is) c.keeps.ensures

pub returns-in-4096 : goal.returns-in-4096
returns-in-4096 c = sound_by _ _ _ c.shape_for-deepest.ensures (inr (inl c.in-4096.is)) c.keeps-in-4096.ensures

pub returns-in-16384 : goal.returns-in-16384
returns-in-16384 c = sound_by _ _ _ c.shape_for-deepest.ensures (inr (inr c.in-16384.is)) c.keeps-in-16384.ensures

pub returns-in_default : goal.returns-in_default
returns-in_default c = λ s. ⊎_elim (λ e. omega (arith, e)) (⊎_elim (λ e. omega (arith, e)) (λ e. omega (arith, e))) (size_is _ s.long)
