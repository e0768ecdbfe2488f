-- `directory::recount` meets its contract: each page counted once. Assumes nothing.
use Rattle.std.proofs.Common.{arith}
use Rattle.directory.proofs.Recounts.{all_shallow, counts_room, few_pages, recounted_by}
use Rattle.directory.proofs.directory.recount.Goals as goal

pub tally-tallies-requires : goal.tally-tallies-requires
tally-tallies-requires c =
    let a = c.args in
    let P = c.requires.1 in
    record {
      long = P.long;
      least = omega (arith, P.least);
      most = few_pages a.z c.requires.0 a.s.now a.n P;
      shallow = all_shallow a.z c.requires.0 a.s.now a.n P;
    }

pub write_counts-requires : goal.write_counts-requires
write_counts-requires c = (counts_room c.args.z c.requires.0 c.args.s.now c.args.n c.requires.1, c.tally-tallies.ensures.long)

pub returns : goal.returns
returns c = recounted_by c.args.z c.requires.0 c.args.s.now _ _ c.tally-tallies.ensures c.write_counts.ensures
