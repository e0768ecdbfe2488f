use mir.Syntax.{w16, w32}
use Rattle.commands.proofs.Signs.{part_text}
use Rattle.commands.proofs.Adding.{then, as_text}
use Rattle.commands.proofs.answers.add_place.Goals as goal

pub returns-clause-adds : goal.returns-clause-adds
returns-clause-adds c =
    let p = c.args.p in
    then (as_text (part_text w32 p.page _ (record { sfits = c.struct_told-1.given.0.1 }) tt c.from.ensures) c.add_signed-a.ensures.adds)
    (then c.add-b.ensures
    (then (as_text (part_text w16 p.slot _ (record { sfits = c.struct_told-1.given.1.0.1 }) tt c.from-2.ensures) c.add_signed-c.ensures.adds)
    (then c.add-d.ensures
    (as_text (part_text w16 p.volume _ (record { sfits = c.struct_told-1.given.1.1.0.1 }) tt c.from-3.ensures) c.add_signed.ensures.adds))))
