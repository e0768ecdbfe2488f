use Rattle.std.proofs.Common.{arith}
use Rattle.page_check.proofs.Firsts.{led_of, led_top}
use Rattle.page_check.proofs.lead_of.Goals as goal

pub returns-then-y-x-lt8 : goal.returns-then-y-x-lt8
returns-then-y-x-lt8 c = led_top _ (λ k. omega (arith, c.type_inv.page k)) _

pub returns : goal.returns
returns c = rw c.be64.ensures (led_of _ (λ k. omega (arith, c.type_inv.page k)) c.args.x c.args.y c.requires (omega (arith, c.if-y-x-lt8.false)))
