use Rattle.std.proofs.Common.{ap, ◌∙◌, ◌+◌, arith}
use Rattle.hash.specs.Fnv.{fnv}
use Rattle.page.proofs.Slots.{lies, code_part}
use Rattle.page_check.proofs.hash_pair.Goals as goal

pub returns : goal.returns
returns c =
    let r = c.record_of-r in
    let q = c.record_of-q in (
      c.hash_two.ensures.0 ∙ ap fnv (code_part c.args.page.now c.args.i r.result.off r.result.len r.ensures.0 r.ensures.1 (omega (arith, r.ensures.1, lies c.args.i c.requires.0.rules (omega (arith, c.requires.1))))),
      c.hash_two.ensures.1 ∙ ap fnv (code_part c.args.page.now (c.args.i + 1) q.result.off q.result.len q.ensures.0 q.ensures.1 (omega (arith, q.ensures.1, lies (c.args.i + 1) c.requires.0.rules c.requires.1))),
    )
