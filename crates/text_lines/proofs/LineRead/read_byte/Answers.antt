use Rattle.std.proofs.Common.{refl, sym, ◌∙◌}
use Rattle.text_lines.proofs.Bytewise.{over_more, blank_more}
use Rattle.text_lines.proofs.LineRead.read_byte.Goals as goal

pub returns-then-self : goal.returns-then-self
returns-then-self c = record { fits = c.requires; more = λ l h. over_more h _ c.if-self.true }

pub returns-then-is_blank : goal.returns-then-is_blank
returns-then-is_blank c = record { fits = c.requires; more = λ l h. blank_more h _ _ c.if-self.false (sym c.is_blank.ensures ∙ c.if-is_blank.true) refl c.if-self.false refl }
