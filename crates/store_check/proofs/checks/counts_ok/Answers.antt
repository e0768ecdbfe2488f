-- `store_check::counts_ok` meets its contract. Assumes nothing.
use Rattle.std.proofs.Common.{arith}
use Rattle.ground.proofs.Tests.{says_same}
use Rattle.store_check.proofs.Counting.{all_shallow, room_counts, few_pages, same_true, true_same}
use Rattle.store_check.proofs.checks.counts_ok.Goals as goal

pub tally-requires : goal.tally-requires
tally-requires c =
    let a = c.args in
    let A = c.requires in
    record {
      long = A.long;
      least = omega (arith, A.least);
      most = few_pages a.z a.s.now a.n A;
      shallow = all_shallow a.z a.s.now a.n A;
    }

pub are_counts-requires : goal.are_counts-requires
are_counts-requires c = (room_counts c.args.z c.args.s.now c.args.n c.requires, c.tally.ensures.long)

pub returns : goal.returns
returns c =
    let t = c.tally.ensures in
    says_same c.are_counts.result c.are_counts.ensures (same_true c.args.z c.args.s.now _ t) (true_same c.args.z c.args.s.now _ t)
