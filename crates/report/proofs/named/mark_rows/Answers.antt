-- `report::named::mark_rows`: the two halves of the numbers, as they are lent.
use Rattle.std.proofs.Common.{List, ℕ, length, sym, subst}
use Rattle.hash.specs.Fnv.{fnv}
use Rattle.partition.specs.Listing.{listing}
use Rattle.store.specs.Pages.{rows_held}
use Rattle.report.specs.Numbers.{Ends, SoundSheet, ranks_of}
use Rattle.report.proofs.Tells.{ranks_length, raised_is}
use Rattle.report.proofs.named.mark_rows.Goals as goal

pub tally-requires : goal.tally-requires
tally-requires c =
    let fl = c.args.flat.now in
    let n = length c.args.counts.now in
    let w = c.requires.laid in (
      record { sized = c.requires.sized; accepted = c.requires.accepted; sheet = subst (λ (q : List ℕ). SoundSheet (ranks_of fl n) q) (sym (raised_is fl n w.room w.most)) w.sheet },
      sym (ranks_length fl n w.room w.most),
    )

pub returns : goal.returns
returns c =
    let fl = c.args.flat.now in
    let n = length c.args.counts.now in
    subst (λ (q : List ℕ). Ends (ranks_of fl n) q (listing c.args.z fnv (rows_held c.args.z c.args.s.now)) c.args.counts.now c.tally.result c.tally.new.counts)
    (raised_is fl n c.requires.laid.room c.requires.laid.most) c.tally.ensures
