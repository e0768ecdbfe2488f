-- `code_index::clear_entries` meets its contract. Assumes nothing.
use borrow.Author.Rules.{rules}
use Rattle.code_index.proofs.Zeroed.{emptied}
use Rattle.code_index.proofs.behind.clear_entries.Statement.{statement}
use Rattle.code_index.proofs.behind.clear_entries.Tie as tie

mul-end : tie.Need-overflow_mul-end
mul-end c = search rules

clear-requires : tie.Need-clear-requires
clear-requires c κs = search rules

same_length : tie.Need-shape_of-x
same_length c = search rules

returns : tie.Need-returns
returns c = let w = c in emptied w.args.x.now w.clear.new.s w.clear.ensures

pub clear_entries_spec : {M : Type 1} → statement M
clear_entries_spec = tie.close (tie.spec mul-end clear-requires same_length returns)
