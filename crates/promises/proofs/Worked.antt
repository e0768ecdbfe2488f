-- The worked cases hold. Assumes nothing.
use Rattle.hash.specs.Fnv.{fnv, fnv_none, fnv_a, fnv_b, fnv_c}
use Rattle.partition.proofs.Cases.{cases_hold, chosen_lt}
use Rattle.promises.specs.Worked.{Worked}

pub worked : Worked
worked = record { cases = cases_hold fnv fnv_none fnv_a fnv_b fnv_c; chosen_32 = chosen_lt }
