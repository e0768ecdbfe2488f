-- `commands::row_part` meets its contract. Assumes nothing.
use Prim.Native.Nat.{ℕ}
use mathlib.Core.List.{List}
use mathlib.Core.Path.{sym, ap}
use native.Mathlib.Omega.{arith}
use lib.Seq.{length-take-le, take_all}
use borrow.Author.Rules.{rules}
use Rattle.commands.specs.Answers.{rowed}
use Rattle.commands.proofs.Adding.{as_text}
use Rattle.commands.proofs.answers.row_part.Statement.{statement}
use Rattle.commands.proofs.answers.row_part.Tie as tie

slice-aggregate-row-text : tie.Need-slice_bounds-row_text-end
slice-aggregate-row-text c = sym (length-take-le _ _ c.if-n-code.true)

row-text-requires : tie.Need-row_text-requires
row-text-requires c κs =
    let i = c in
    omega (arith, length-take-le i.args.n i.args.code.now i.if-n-code.true)

same_length : tie.Need-shape_of-out-then-n-code
same_length c = search rules

returns : tie.Need-returns-then-n-code
returns c =
    let x = c in
    let i = x in
    (x.row_text.ensures.0, omega (arith, x.row_text.ensures.1, length-take-le i.args.n i.args.code.now i.if-n-code.true))

row-text-requires-2 : tie.Need-row_text-requires-2
row-text-requires-2 c κs = search rules

same-length-2 : tie.Need-shape_of-out
same-length-2 c = search rules

returns-2 : tie.Need-returns
returns-2 c =
    let x = c in
    let i = x in
    let s = i in
    (as_text (ap (λ (w : List ℕ). rowed w s.args.p) (sym (take_all s.args.n s.args.code.now (omega (arith, i.if-n-code.false))))) x.row_text-2.ensures.0, omega (arith, x.row_text-2.ensures.1))

pub row_part_spec : {M : Type 1} → statement M
row_part_spec =
    tie.close
    (tie.spec
    slice-aggregate-row-text
    row-text-requires
    same_length
    returns
    row-text-requires-2
    same-length-2
    returns-2)
