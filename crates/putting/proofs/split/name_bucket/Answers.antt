-- No prefix is longer than 12 bits.
use Rattle.std.proofs.Common.{arith}
use Rattle.partition.proofs.Sizes.{twelve}
use Rattle.putting.proofs.split.name_bucket.Goals as goal

pub hash_under-requires : goal.hash_under-requires
hash_under-requires c = let P = c.requires.prefix in (omega (arith, P.deep, twelve c.args.z P.sized), P.bits)
