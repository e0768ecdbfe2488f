-- `page::first_byte` meets its contract: the page's rules say where the record lies. Assumes nothing.
use mathlib.Core.Path.{sym}
use Rattle.page.proofs.Slots.{code_first}
use Rattle.page.proofs.read.first_byte.Goals as goal

pub returns : goal.returns
returns c = sym (rw (sym c.extent_of.ensures.0) at (code_first c.args.i c.requires.0 c.requires.1).1)
