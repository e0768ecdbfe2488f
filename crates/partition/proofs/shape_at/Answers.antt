-- A row of the array is that row of the table: past the end alone would the two read another default.
use Rattle.std.proofs.lemmas.List.{get_or_default}
use Rattle.partition.specs.Sizes.{shape_at, sizes}
use Rattle.partition.specs.Partition.{S1024}
use Rattle.partition.proofs.shape_at.Goals as goal

pub returns : goal.returns
unfolding shape_at
returns c = get_or_default sizes c.args.i _ S1024 c.requires
