use Rattle.std.proofs.Common.{◌≡◌, ℕ, ◌+◌, ◌*◌, ◌≤◌, length}
use Rattle.ground.specs.Lists.{total}
use Rattle.page.specs.Page.{slot_need}
use Rattle.page_check.specs.Rules.{prior}
use Rattle.page_check.specs.Leads.{Led}
use Rattle.page_check.proofs.Sweep.{Swept}
use Rattle.page_check.proofs.slots_ok.Given as goal

-- i slots were taken
abbrev pub invariant-loop-k : goal.invariant-loop-k
invariant-loop-k l = (i : ℕ) × (l.k + 4 * i ≡ length l.page) × (i ≤ l.n) × (l.lens + 4 * i ≡ total (slot_need l.page) i + 16384 * i) × (l.lens ≤ 16456 * i) × Swept l.page i l.f l.tab × Led l.page (prior l.page i) l.lead

abbrev pub decreases-loop-k : goal.decreases-loop-k
decreases-loop-k l = l.k
