-- `report::tally::find`: what a binary search of rising numbers answers.
use Rattle.std.proofs.Common.{sym, subst}
use Rattle.report.specs.Numbers.{Finds}
use Rattle.report.proofs.Searched.{found}
use Rattle.report.proofs.tally.find.Goals as goal

pub returns : goal.returns
returns c = subst (Finds c.args.w c.args.ranks.now) (sym c.ok.ensures.value) (found c.requires c.args.w c.binary_search.result c.binary_search.ensures.position)
