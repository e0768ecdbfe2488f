-- Where a pass ends the check, and what the passes before it have shown.
use Rattle.std.proofs.Common.{◌≡◌, refl, sym, ap, ◌∙◌, ℕ, ◌^◌, ◌≤◌, List, arith}
use Rattle.hash.specs.Fnv.{fnv}
use Rattle.partition.specs.declared.Shape.{Shape}
use Rattle.partition.proofs.Sizes.{twelve}
use Rattle.store.specs.Demands.{Sized}
use Rattle.store.specs.Pages.{pages, dir_depth}
use Rattle.store.specs.Accepted.{GoodLength, Page0From, Page1}
use Rattle.store.proofs.Accepted.Unique.{within}
use Rattle.store_check.specs.Directory.{Entries, Ranges}
use Rattle.store_check.proofs.Heads.{of_page1, standing}
use Rattle.store_check.proofs.Naming.{room}
use Rattle.store_check.proofs.Parting.{undivided, level}
use Rattle.store_check.proofs.Stops.{bad_up, bad_again, bad_depth, all_sound}
use Rattle.store_check.proofs.checks.judge.Goals as goal

-- past page 0: the directory's m entries are in page 1, as many as its depth asks
module _ (zeros : ℕ) (S : Shape) (sized : Sized S) (s : List ℕ) (good : GoodLength S s) (zeroth : Page0From zeros S s) (d m : ℕ) (deep : d ≡ dir_depth s) (many : m ≡ 2 ^ d) where
  few : m ≤ S.entries
  few = omega (arith, many, room S sized d (omega (arith, deep, zeroth.depth)))

  power : m ≡ 2 ^ dir_depth s
  power = many ∙ ap (λ k. 2 ^ k) deep

  ranged : (dir : List ℕ) → Entries S s dir → Page1 S s → Ranges dir (pages S s) m
  ranged dir e first = of_page1 S s dir (pages S s) m e refl good.least power first

pub two_to-m-requires : goal.two_to-m-requires
two_to-m-requires g c =
    omega (arith, c.get32-d.ensures.0, c.if-not-page0_ok.ensures.depth, twelve c.args.z c.requires.sized)

pub page1_ok-requires : goal.page1_ok-requires
page1_ok-requires g c =
    let r = c.requires in
    let good = r.judgeable.long in
    record {
      room = record {
        sized = r.sized;
        long = omega (arith, within c.args.z c.args.s.now 1 (omega (arith, good.least)));
        few = few c.args.zeros c.args.z r.sized c.args.s.now good c.if-not-page0_ok.ensures _ _ c.get32-d.ensures.0 c.two_to-m.ensures;
        room = r.tables.dir_long;
        none = r.tables.no_dir;
      };
      number = refl;
      least = good.least;
      most = good.most;
      power = power c.args.zeros c.args.z r.sized c.args.s.now good c.if-not-page0_ok.ensures _ _ c.get32-d.ensures.0 c.two_to-m.ensures;
    }

pub tally-requires : goal.tally-requires
tally-requires g c =
    let r = c.requires in
    let good = r.judgeable.long in
    let past = c.if-not-page1_ok.ensures in
    let read : Entries c.args.z c.args.s.now c.page1_ok.new.dir = past.read refl in
    let m = few c.args.zeros c.args.z r.sized c.args.s.now good c.if-not-page0_ok.ensures _ _ c.get32-d.ensures.0 c.two_to-m.ensures in
    let ranges = ranged c.args.zeros c.args.z r.sized c.args.s.now good c.if-not-page0_ok.ensures _ _ c.get32-d.ensures.0 c.two_to-m.ensures _ read past.says in
    record {
      inside = omega (arith, m, read.long);
      few = omega (arith, m, r.sized.whole, r.sized.most);
      below = λ i a h. omega (arith, ranges.below i a (omega (arith, m, read.long)), good.most, r.tables.counts_long);
      none = r.tables.no_counts;
    }

pub returns-in-Some : goal.returns-in-Some
returns-in-Some g c =
    bad_up _ _ fnv _ c.requires.judgeable.long c.if-not-page0_ok.ensures c.if-not-page1_ok.ensures.says c.in-Some.p c.in-Some.ensures.first

pub returns-then-d-eq0 : goal.returns-then-d-eq0
returns-then-d-eq0 g c =
    let stands = c.in_default.ensures.first in
    let all = standing _ _ c.requires.sized _ c.requires.judgeable.long c.if-not-page0_ok.ensures stands in
    let flat : dir_depth c.args.s.now ≡ 0 = sym c.get32-d.ensures.0 ∙ c.if-d-eq0.true in
    all_sound _ _ fnv _ c.requires.judgeable.long c.if-not-page0_ok.ensures c.if-not-page1_ok.ensures.says stands (undivided _ _ _ all flat) (level _ _ all flat)

pub returns-in-Some-first_joinable : goal.returns-in-Some-first_joinable
returns-in-Some-first_joinable g c =
    bad_again _ _ fnv _ c.requires.judgeable.long c.if-not-page0_ok.ensures c.if-not-page1_ok.ensures.says c.in_default.ensures.first c.in-Some-first_joinable.p c.in-Some-first_joinable.ensures

pub returns-then-deepest-d : goal.returns-then-deepest-d
returns-then-deepest-d g c =
    let stands = c.in_default.ensures.first in
    let parted = c.in_default-first_joinable.ensures in
    bad_depth _ _ fnv _ c.requires.judgeable.long c.if-not-page0_ok.ensures c.if-not-page1_ok.ensures.says stands parted (λ e. c.if-deepest-d.true (c.deepest.ensures.0 ∙ sym e ∙ sym c.get32-d.ensures.0))

pub returns : goal.returns
returns g c =
    let stands = c.in_default.ensures.first in
    let parted = c.in_default-first_joinable.ensures in
    all_sound _ _ fnv _ c.requires.judgeable.long c.if-not-page0_ok.ensures c.if-not-page1_ok.ensures.says stands parted (sym c.get32-d.ensures.0 ∙ sym c.if-deepest-d.false ∙ c.deepest.ensures.0)
