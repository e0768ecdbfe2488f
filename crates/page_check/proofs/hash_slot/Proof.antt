-- `page_check::hash_slot` meets its contract. Assumes nothing.
use mathlib.Core.Path.{ap, ◌∙◌}
use borrow.Author.Rules.{rules}
use Rattle.hash.specs.Fnv.{fnv}
use Rattle.page_check.proofs.hash_slot.Statement.{statement}
use Rattle.page_check.proofs.hash_slot.Tie as tie

code-at-requires : tie.Need-code_at-requires
code-at-requires c κs = search rules

hash-requires : tie.Need-hash-requires
hash-requires c κs = search rules

returns : tie.Need-returns
returns c = c.hash.ensures ∙ ap fnv c.code_at.ensures

pub hash_slot_spec : {M : Type 1} → statement M
hash_slot_spec = tie.close (tie.spec code-at-requires hash-requires returns)
