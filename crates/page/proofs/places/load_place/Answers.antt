-- `page::load_place` meets its contract. Assumes nothing.
use mathlib.Core.Path.{ap, ◌∙◌}
use native.Mathlib.Omega.{arith}
use mir.Syntax.{w16, w32}
use mir.Facts.{to_z_pos}
use lib.IntN.{pos}
use Rattle.page.proofs.Stored.{natural_page, natural_slot, natural_volume}
use Rattle.page.proofs.places.load_place.Goals as goal

pub overflow_cast-result : goal.overflow_cast-result
overflow_cast-result c = omega (arith, c.get32.ensures.0, natural_page c.args.b.now c.requires (λ i. omega (arith, c.type_inv.b i)))

pub overflow_cast-result-2 : goal.overflow_cast-result-2
overflow_cast-result-2 c = omega (arith, c.get16.ensures.0, natural_slot c.args.b.now c.requires (λ i. omega (arith, c.type_inv.b i)))

pub overflow_cast-result-3 : goal.overflow_cast-result-3
overflow_cast-result-3 c = omega (arith, c.get16-2.ensures.0, natural_volume c.args.b.now c.requires (λ i. omega (arith, c.type_inv.b i)))

pub returns : goal.returns
returns c =
    let b = c.args.b.now in
    λ k. record {
      page = (to_z_pos w32 (omega (arith, c.get32.ensures.0, natural_page b c.requires (λ i. omega (arith, c.type_inv.b i)))) ∙ ap pos c.get32.ensures.0) k;
      slot = (to_z_pos w16 (omega (arith, c.get16.ensures.0, natural_slot b c.requires (λ i. omega (arith, c.type_inv.b i)))) ∙ ap pos c.get16.ensures.0) k;
      volume = (to_z_pos w16 (omega (arith, c.get16-2.ensures.0, natural_volume b c.requires (λ i. omega (arith, c.type_inv.b i)))) ∙ ap pos c.get16-2.ensures.0) k;
    }
