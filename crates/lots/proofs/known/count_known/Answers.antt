use Rattle.std.proofs.Common.{◌∙◌}
use Rattle.hash.specs.Fnv.{fnv}
use Rattle.partition.specs.Sizes.{shape_of}
use Rattle.store.proofs.Accepted.Rules.{opened}
use Rattle.store.proofs.Demands.Unchecked.{counts}
use Rattle.lots.proofs.Leaving.{counts_room}
use Rattle.lots.proofs.known.count_known.Goals as goal

pub rows_counted-requires : goal.rows_counted-requires
rows_counted-requires c = counts_room _ (c.requires c.if-not-known.false)

pub returns : goal.returns
returns c =
    let s = c.args.s.now in
    let sound = c.requires c.if-not-known.false in
    counts (shape_of s) fnv s sound _ (c.rows_counted.ensures ∙ (opened (shape_of s) fnv s sound).counts.rows)
