-- `report::spread`: a turn lays row n, and after the last all rows are laid.
use Rattle.std.proofs.Common.{◌≡◌, ℕ, ◌+◌, ◌<◌, List, length, sym, ap, ◌∙◌}
use native.Mathlib.Nat.{le_antisymm}
use Rattle.report.specs.Numbers.{laid}
use Rattle.report.specs.Report.{sheet_row}
use Rattle.report.proofs.Upto.{upto, upto_next, upto_all}
use Rattle.report.proofs.spread.Goals as goal

pub loop-row-preserved : goal.loop-row-preserved
loop-row-preserved c =
    let xs = c.args.sheet.now in
    let fl : List ℕ = c.args.flat.now in
    let i : ℕ = c.loop-row.row-index in
    let n : c.loop-row.n ≡ i = c.loop-row.invariant.0 in
    let t : i < length c.args.sheet.now = c.loop-row-test.true in
    let e : c.lay-n.result ≡ i + 1 = c.lay-n.ensures.0 ∙ ap (λ (k : ℕ). k + 1) n in (
      e,
      c.lay-n.ensures.1 ∙ ap (λ (w : List ℕ). laid w c.loop-row.n (sheet_row xs i)) c.loop-row.invariant.1 ∙ ap (λ (k : ℕ). laid (upto 0 k xs fl) k (sheet_row xs i)) n
          ∙ sym (upto_next i xs fl t) ∙ ap (λ (k : ℕ). upto 0 k xs fl) (sym e),
    )

pub returns : goal.returns
returns c =
    let end : c.loop-row.n ≡ length c.args.sheet.now = c.loop-row.invariant.0 ∙ le_antisymm c.loop-row.auto.row-index-end c.loop-row-test.false in
    (end, c.loop-row.invariant.1 ∙ ap (λ (k : ℕ). upto 0 k c.args.sheet.now c.args.flat.now) end ∙ upto_all 0 c.args.sheet.now c.args.flat.now)
