-- `commands::refusal_text` meets its contract. Assumes nothing.
use native.Mathlib.Omega.{arith}
use Rattle.commands.proofs.Adding.{as_text, shows_parts, then}
use borrow.Author.Rules.{rules}
use Rattle.commands.proofs.answers.refusal_text.Statement.{statement}
use Rattle.commands.proofs.answers.refusal_text.Tie as tie

add-refusal-requires : tie.Need-add_refusal-n-requires
add-refusal-requires c κs = search rules

add-reason-requires : tie.Need-add_reason-requires
add-reason-requires c κs = omega (arith, c.add_refusal-n.ensures.1, c.add_refusal-n.ensures.0.long)

same_length : tie.Need-shape_of-out
same_length c = search rules

returns : tie.Need-returns
returns c =
    let r = c in
    let a = r in
    (as_text (shows_parts a.args.number a.args.f) (then a.add_refusal-n.ensures.0 r.add_reason.ensures.0), omega (arith, a.add_refusal-n.ensures.1, r.add_reason.ensures.1))

pub refusal_text_spec : {M : Type 1} → statement M
refusal_text_spec = tie.close (tie.spec add-refusal-requires add-reason-requires same_length returns)
