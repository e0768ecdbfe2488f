use Rattle.std.proofs.Common.{arith, ◌≡◌, subst, ℕ}
use Rattle.code_index.specs.Entries.{MovedOn}
use Rattle.code_index.proofs.move_on.Goals as goal

pub returns : goal.returns
returns c =
    let e : c.loop-j.j ≡ c.args.i = omega arith in
    subst (λ (j : ℕ). MovedOn c.args.x.now j c.args.n c.loop-j.x) e c.loop-j.invariant.moved
