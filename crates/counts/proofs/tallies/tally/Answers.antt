-- `counts::tally` meets its contract. Assumes nothing.
use Rattle.std.proofs.Common.{◌≡◌, arith, refl, subst}
use Rattle.store.proofs.Paging.Views.{apart}
use Rattle.store.proofs.Paging.PageTies.{zeros}
use Rattle.store.specs.Pages.{size}
use Rattle.counts.proofs.Adds.{none_yet, all_tallied}
use Rattle.counts.specs.Tallies.{TalliedTo}
use Rattle.counts.proofs.tallies.tally.Goals as goal

pub loop-p-init : goal.loop-p-init
loop-p-init c = none_yet c.args.z c.args.s.now _ refl (zeros 14)

pub tally_page-requires : goal.tally_page-requires
tally_page-requires c = record {
  within = rw c.requires.long (apart (size c.args.z) c.loop-p.p c.args.n (omega arith));
  from = c.loop-p.auto.p;
  few = omega (arith, c.requires.most);
  shallow = c.requires.shallow c.loop-p.p c.loop-p.auto.p (omega arith);
  before = c.loop-p.invariant;
}

pub returns : goal.returns
returns c =
    let e : c.loop-p.p ≡ c.args.n = omega (arith, c.requires.least, c.loop-p.auto.p-end c.requires.least) in
    all_tallied c.args.z c.args.s.now c.args.n c.loop-p.tallies c.requires.long (subst (λ m. TalliedTo c.args.z c.args.s.now m c.loop-p.tallies) e c.loop-p.invariant)
