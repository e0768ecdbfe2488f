use Rattle.std.proofs.Common.{arith}
use Rattle.commands.proofs.Adding.{nothing, code_more, code_end}
use Rattle.commands.proofs.answers.add_bytes.Goals as goal

pub loop-b-init : goal.loop-b-init
loop-b-init c = record { most = omega arith; adds = nothing _ c.args.code.now _ }

pub loop-b-preserved : goal.loop-b-preserved
loop-b-preserved c =
    let v = c.loop-b.invariant in
    let t = c.loop-b-test.true in
    record { most = omega (arith, code_end _ _ _ _ _ _ _ _ t v.adds c.add_byte-r.ensures); adds = code_more _ _ _ _ _ _ _ _ t v.adds c.add_byte-r.ensures }
