-- The place in bytes, then the row.
use Rattle.std.proofs.Common.{sym, subst}
use Rattle.ground.specs.Ladder.{Answers}
use Rattle.hash.specs.Fnv.{fnv}
use Rattle.words.specs.Folds.{fold}
use Rattle.page.proofs.Stored.{stored_natural}
use Rattle.page.specs.Page.{Natural}
use Rattle.store.specs.Tables.{put_by_mode, meaning}
use Rattle.putting.specs.Put.{new_row}
use Rattle.putting.proofs.checked.put_allowed.Goals as goal

-- the place's three numbers are 32, 16 and 16 bits wide
pub put_given-requires : goal.put_given-requires
put_given-requires c =
    let g = c.well_formed.1.1.1.0.1.1 in
    record {
      sized = c.requires.sized;
      accepted = c.requires.accepted;
      good = c.requires.good;
      natural = subst Natural (sym c.store_place.ensures) (stored_natural c.args.place c.requires.natural (record { page = g.0.1; slot = g.1.0.1; volume = g.1.1.0.1 }));
    }

pub returns : goal.returns
returns c =
    let a = c.args in
    let w = c.put_given in
    subst (λ x. Answers (put_by_mode a.z fnv a.s.now a.mode (new_row (fold a.key.now) x)) (meaning w.result, w.new.s)) c.store_place.ensures w.ensures
