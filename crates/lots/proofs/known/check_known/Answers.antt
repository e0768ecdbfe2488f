use Rattle.hash.specs.Fnv.{fnv}
use Rattle.store.proofs.Demands.Unchecked.{checks}
use Rattle.lots.proofs.known.check_known.Goals as goal

pub returns : goal.returns
returns c = checks _ fnv _ (c.requires c.if-not-known.false)
