use Rattle.page_check.proofs.Marks.{Low}
use Rattle.page_check.proofs.both_small.Given as goal

abbrev pub invariant-loop-k : goal.invariant-loop-k
invariant-loop-k l = Low l.page l.tab l.d l.k l.low
