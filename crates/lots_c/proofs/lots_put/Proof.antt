-- `lots_c::lots_put` meets its contract: the place is made of the three parts given. Assumes nothing.
use borrow.Author.Rules.{rules}
use mathlib.Core.Path.{◌≡◌, subst}
use mir.Syntax.{w16, w32}
use mir.Facts.{to_z-of_z}
use Rattle.ground.specs.Ladder.{Answers}
use Rattle.hash.specs.Fnv.{fnv}
use Rattle.page.specs.declared.Place.{Place}
use Rattle.partition.specs.Sizes.{shape_of}
use Rattle.store.specs.Tables.{put_table, meaning}
use Rattle.lots_c.proofs.lots_put.Statement.{statement}
use Rattle.lots_c.proofs.lots_put.Tie as tie

put-requires : tie.Need-put-requires
put-requires c κs = search rules

new-word-requires : tie.Need-new_word-requires
new-word-requires c κs = search rules

same_length : tie.Need-shape_of-store
same_length c = search rules

returns : tie.Need-returns
returns c =
    let z = c in
    let p = c.put in
    let e : ◌≡◌ {A = Place} _ (record { page = z.args.page; slot = z.args.slot; volume = z.args.volume }) =
    λ i. record {
      page = to_z-of_z {w = w32} {z = z.args.page} z.ranges.page i;
      slot = to_z-of_z {w = w16} {z = z.args.slot} z.ranges.slot i;
      volume = to_z-of_z {w = w16} {z = z.args.volume} z.ranges.volume i;
    } in
    record {
      out = meaning p.result;
      allowed = subst (λ q. Answers (put_table (shape_of z.args.store.now) fnv z.args.store.now z.args.code.now q z.args.mode) (meaning p.result, p.new.s)) e p.ensures;
      is = c.new_word.ensures;
    }

pub lots_put_spec : {M : Type 1} → statement M
lots_put_spec = tie.close (tie.spec put-requires new-word-requires same_length returns)
