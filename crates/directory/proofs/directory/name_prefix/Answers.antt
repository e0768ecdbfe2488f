use Rattle.std.proofs.Common.{◌^◌, ◌≤◌, ◌∙◌, arith}
use Rattle.std.proofs.Math.Pow.{pow_mono}
use Rattle.partition.specs.Bits.{top}
use Rattle.partition.proofs.Sizes.{twelve}
use Rattle.directory.proofs.Directories.{prefix_named}
use Rattle.directory.proofs.directory.name_prefix.Goals as goal

pub run_of-requires : goal.run_of-requires
run_of-requires c = (c.requires.1.low, omega (arith, c.requires.1.deep, twelve c.args.z c.requires.0))

pub set_run-requires : goal.set_run-requires
set_run-requires c =
    let e = c.run_of.ensures in
    let es = c.entries.ensures in
    let m : 2 ^ c.args.d ≤ 2 ^ c.args.z.deepest = pow_mono c.requires.1.deep in
    (c.requires.0, record { long = c.requires.1.long; rising = omega (arith, e.2, es); within = omega (arith, e.3, es, c.requires.0.deep); word = c.requires.1.word })

pub returns : goal.returns
returns c =
    let e = c.run_of.ensures in
    let es = c.entries.ensures in
    prefix_named c.args.z c.requires.0 c.args.s.now c.args.d c.args.k (top c.args.k c.args.x) c.args.p c.requires.1.deep c.set_run.new.s c.entries.result.start c.entries.result.end
    (es.0 ∙ e.0) (es.1 ∙ e.1) (omega (arith, e.2, es)) (omega (arith, e.3, es)) c.set_run.ensures
