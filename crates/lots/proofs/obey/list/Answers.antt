use Rattle.std.proofs.Common.{◌≡◌, true, length, sym, refl, ◌∙◌, subst, true≢false, arith}
use Rattle.hash.specs.Fnv.{fnv}
use Rattle.partition.specs.Listing.{listing}
use Rattle.store.specs.Accepted.{Accepted}
use Rattle.store.specs.Demands.{ok}
use Rattle.store.specs.Pages.{rows_held}
use Rattle.store.proofs.Accepted.Rules.{opened}
use Rattle.store.specs.Tables.{meaning}
use Rattle.lots.specs.Obeys.{TellsNumber}
use Rattle.lots.proofs.Leaving.{checked_accepted, counts_room, numbered}
use Rattle.lots.proofs.obey.list.Goals as goal

pub shape_of-z-requires : goal.shape_of-z-requires
shape_of-z-requires g c =
    let good : ok (meaning c.check_known-a.result) ≡ true = sym c.is_done.ensures ∙ c.if-not-is_done.false in
    numbered _ (checked_accepted _ _ c.check_known-a.ensures good)

pub rows_counted-n-requires : goal.rows_counted-n-requires
rows_counted-n-requires g c =
    let good : ok (meaning c.check_known-a.result) ≡ true = sym c.is_done.ensures ∙ c.if-not-is_done.false in
    counts_room _ (checked_accepted _ _ c.check_known-a.ensures good)

pub list_rows-requires : goal.list_rows-requires
list_rows-requires g c =
    let good : ok (meaning c.check_known-a.result) ≡ true = sym c.is_done.ensures ∙ c.if-not-is_done.false in
    let own : Accepted c.shape_of-z.result fnv c.args.s.now = subst (λ S. Accepted S fnv c.args.s.now) (sym c.shape_of-z.ensures.0) (checked_accepted _ _ c.check_known-a.ensures good) in
    (record { sized = c.shape_of-z.ensures.1; accepted = own; rows = c.rows_counted-n.ensures ∙ (opened _ fnv _ own).counts.rows }, omega (arith, c.buffer-lines.ensures))

pub returns : goal.returns
returns g c =
    let good : ok (meaning c.check_known-a.result) ≡ true = sym c.is_done.ensures ∙ c.if-not-is_done.false in
    record {
      answer = meaning c.check_known-a.result;
      made = (c.check_known-a.ensures, refl);
      refused = λ e. absurd (true≢false (sym good ∙ e));
      rows = λ _. subst (λ S. TellsNumber (length (listing S fnv (rows_held S c.args.s.now))) c.listed.result) c.shape_of-z.ensures.0 (c.listed.ensures _ c.list_rows.ensures);
    }
