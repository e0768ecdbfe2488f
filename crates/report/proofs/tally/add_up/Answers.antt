-- `report::tally::add_up`: the amounts' sum fits a word.
use Rattle.std.proofs.Common.{◌∙◌}
use Rattle.std.proofs.lemmas.Iterator.{YieldsList-from_slice}
use Rattle.std.proofs.lemmas.Iterator.Consumers.{sum_from_yields_List, fits_from_yields_list}
use Rattle.report.proofs.Counts.{sum_is, sum_fits}
use Rattle.report.proofs.tally.add_up.Goals as goal

pub sum-requires-clause-fits : goal.sum-requires-clause-fits
sum-requires-clause-fits c = fits_from_yields_list c.iter.result 18446744073709551616 (YieldsList-from_slice c.args.raised.now cc) (sum_fits c.args.raised.now c.requires.0 c.requires.1)

pub returns : goal.returns
returns c = sum_from_yields_List c.iter.result c.sum.result c.sum.ensures.ran (YieldsList-from_slice c.args.raised.now cc) ∙ sum_is c.args.raised.now
