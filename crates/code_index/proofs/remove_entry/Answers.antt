use Rattle.code_index.proofs.Moving.{removed}
use Rattle.code_index.proofs.remove_entry.Goals as goal

pub returns : goal.returns
returns c = removed c.args.x.now c.args.n c.args.i c.move_back.new.x c.write_entry.new.x c.requires.0 c.requires.1 c.move_back.ensures c.write_entry.ensures
