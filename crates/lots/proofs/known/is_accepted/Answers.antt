use Rattle.std.proofs.Common.{sym, subst}
use Rattle.hash.specs.Fnv.{fnv}
use Rattle.store.specs.Accepted.{Accepted}
use Rattle.ground.specs.Says.{Says}
use Rattle.partition.specs.Sizes.{shape_of}
use Rattle.store.proofs.Demands.Unchecked.{check_says}
use Rattle.lots.proofs.known.is_accepted.Goals as goal

pub returns : goal.returns
returns c =
    let s = c.args.s.now in
    subst (λ b. Says b (Accepted (shape_of s) fnv s)) (sym c.is_done.ensures) (check_says (shape_of s) fnv s _ c.check.ensures)
