use Rattle.commands.proofs.Cutting.{nothing_said, remarked, five, four}
use Rattle.commands.proofs.sheet.sheet_line.Goals as goal

pub returns-then-line-a : goal.returns-then-line-a
returns-then-line-a c = nothing_said _ _ c.run_end-a.ensures c.if-line-a.true

pub returns-then-line-a-eq35 : goal.returns-then-line-a-eq35
returns-then-line-a-eq35 c = remarked _ _ c.run_end-a.ensures c.if-line-a.false c.if-line-a-eq35.true

pub returns-then-j-line : goal.returns-then-j-line
returns-then-j-line c =
    five _ _ c.run_end-a.ensures c.if-line-a.false c.if-line-a-eq35.false _ _ _ _ _ _ _ _
    c.run_end-b.ensures c.run_end-c.ensures c.run_end-d.ensures c.run_end-e.ensures c.run_end-f.ensures c.run_end-g.ensures c.run_end-h.ensures c.run_end-j.ensures c.if-j-line.true

pub returns : goal.returns
returns c =
    rw c.unwrap_or.ensures
    (four _ _ c.run_end-a.ensures c.if-line-a.false c.if-line-a-eq35.false _ _ _ _ _ _ _ _
    c.run_end-b.ensures c.run_end-c.ensures c.run_end-d.ensures c.run_end-e.ensures c.run_end-f.ensures c.run_end-g.ensures c.run_end-h.ensures c.run_end-j.ensures c.if-j-line.false _ c.four_words.ensures)
