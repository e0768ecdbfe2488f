use Rattle.std.proofs.Common.{ap, ◌∙◌, arith}
use Rattle.hash.specs.Fnv.{fnv}
use Rattle.page.proofs.Slots.{lies, code_part}
use Rattle.page_check.proofs.hash_in_place.Goals as goal

pub returns : goal.returns
returns c =
    let r = c.record_of-r in
    c.hash_part.ensures ∙ ap fnv (code_part c.args.page.now c.args.i r.result.off r.result.len r.ensures.0 r.ensures.1 (omega (arith, r.ensures.1, lies c.args.i c.requires.0.rules c.requires.1)))
