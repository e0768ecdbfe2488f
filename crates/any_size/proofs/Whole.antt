-- THE DEMANDS WHERE EACH STORE SAYS ITS OWN PAGE SIZE, for every hash of 32 bits, with nothing left to assume.
use Rattle.any_size.specs.OwnSizes.{AnySize}
use Rattle.any_size.proofs.Calls.{own_first}
use Rattle.any_size.proofs.Histories.{own_second, own_third}

pub any_size : AnySize
any_size h hash = record { first = own_first h hash; second = own_second h hash; third = own_third h hash }
