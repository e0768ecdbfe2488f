use Rattle.std.proofs.Common.{arith, ap, length}
use Rattle.commands.proofs.Unasked.{no_word}
use Rattle.commands.proofs.lines.bare.Goals as goal

pub returns-in_default-20 : goal.returns-in_default-20
returns-in_default-20 c =
    no_word c.args.line.now c.requires.0 c.requires.1
    (λ e. omega (arith, c.in_default.len_at_least, ap length e)) (λ e. omega (arith, c.in_default.len_at_least, ap length e))
    (λ e. omega (arith, c.in_default.len_at_least, ap length e)) (λ e. omega (arith, c.in_default.len_at_least, ap length e))
