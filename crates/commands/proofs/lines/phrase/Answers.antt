use Rattle.std.proofs.Common.{ℕ, List, ◌∷◌, ◌++◌, ap, subst, Some, None}
use mathlib.Core.Logic.{⊎_elim}
use Rattle.commands.specs.Lines.{Begins}
use Rattle.commands.specs.declared.Verb.{Verb}
use Rattle.commands.proofs.Unasked.{no_number}
use Rattle.commands.proofs.Phrases.{of_line}
use Rattle.commands.proofs.lines.phrase.Goals as goal

pub returns-in_err-mode : goal.returns-in_err-mode
returns-in_err-mode c =
    let u : Begins c.args.word.now None = c.in_err-mode.ensures in
    rw c.from_residual.ensures (no_number c.args.word.now c.args.rest.now c.requires.0 c.requires.1 u.0 u.1 (λ n h d. ⊎_elim u.2 u.3) c.args.code.now)

pub returns-in-Puts : goal.returns-in-Puts
returns-in-Puts c = c.put.ensures _ (subst (λ (v : Verb). Begins c.args.word.now (Some v)) c.in-Puts.is c.in_ok-mode.ensures)

pub returns-in-Formats : goal.returns-in-Formats
returns-in-Formats c =
    of_line _ _ _ _
    (ap (λ (x : List ℕ). x ++ (32 ∷ c.args.rest.now)) (subst (λ (v : Verb). Begins c.args.word.now (Some v)) c.in-Formats.is c.in_ok-mode.ensures))
    (c.format.ensures c.args.code.now)
