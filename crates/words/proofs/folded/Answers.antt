use Rattle.std.proofs.Common.{rules, ◌↔◌, ◌<◌}
use Rattle.std.specs.Prelude.{IsTrue, All}
use mathlib.Core.Logic.{◌⊎◌}
use Rattle.words.proofs.Folds.{plain_says}
use Rattle.words.proofs.folded.Goals as goal

pub returns : goal.returns
returns c =
    let h : IsTrue c.all.result ↔ All (λ b. (b < 0x41) ⊎ (0x5A < b)) c.args.s.now = search rules in
    plain_says c.args.s.now c.all.result h
