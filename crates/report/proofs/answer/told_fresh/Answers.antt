-- `report::answer::told_fresh`: the first marks of the buffer are clear.
use Rattle.std.proofs.Common.{List, ℕ, length, subst}
use Rattle.hash.specs.Fnv.{fnv}
use Rattle.partition.specs.Listing.{listing}
use Rattle.store.specs.Pages.{rows_held}
use Rattle.report.specs.Report.{limit, reported}
use Rattle.report.specs.Numbers.{ToldBy}
use Rattle.report.proofs.Tells.{take_replicate}
use Rattle.report.proofs.answer.told_fresh.Goals as goal

pub told-requires : goal.told-requires
told-requires c = (c.requires, take_replicate (length c.args.sheet.ranks.now) limit 0 c.requires.sheet.most)

pub returns : goal.returns
returns c =
    subst (λ (cs : List ℕ). ToldBy c.args.sheet.ranks.now c.args.sheet.raised.now (listing c.args.z fnv (rows_held c.args.z c.args.s.now)) cs (reported c.told.result))
    (take_replicate (length c.args.sheet.ranks.now) limit 0 c.requires.sheet.most) c.told.ensures
