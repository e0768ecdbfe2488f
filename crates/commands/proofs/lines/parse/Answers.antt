use Rattle.commands.proofs.lines.parse.Goals as goal

pub returns-in-None : goal.returns-in-None
returns-in-None c = c.bare.ensures _
