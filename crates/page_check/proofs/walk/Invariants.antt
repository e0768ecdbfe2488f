use Rattle.std.proofs.Common.{◌≡◌, ℕ, ◌-◌, List, length}
use Rattle.page_check.specs.Table.{entries}
use Rattle.page_check.proofs.Walked.{Passed, Walked, Marking, Signed, Gap}
use Rattle.page_check.proofs.walk.Given as goal

-- of the table the entries left are to come; where no two records start at one byte, the last one met ends at end
abbrev pub invariant-loop-pos : goal.invariant-loop-pos
invariant-loop-pos l =
    (length l.tab ≡ length l.initial.tab) × (left : List ℕ) × Passed l.initial.tab l.f left l.pos l.met l.tab
    × (entries l.initial.tab ≡ l.n → (end : ℕ) × Walked l.page l.n l.f l.initial.tab left l.pos end l.met l.acc × Gap l.gap l.pos end × Marking l.page l.n left l.pos l.tab × Signed l.page l.n left l.signs)

abbrev pub decreases-loop-pos : goal.decreases-loop-pos
decreases-loop-pos l = l.f - l.pos
