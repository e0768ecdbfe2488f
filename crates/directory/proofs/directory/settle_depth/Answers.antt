-- Written anew where the depth is another.
use Rattle.std.proofs.Common.{◌≡◌, sym, subst, arith}
use Rattle.hash.specs.Fnv.{fnv}
use Rattle.store.specs.Pages.{contents, deepest_in}
use Rattle.directory.specs.Directory.{Directable, Directed}
use Rattle.directory.proofs.Laying.{directable, room_counts, told_depth}
use Rattle.directory.proofs.directory.settle_depth.Goals as goal

pub deepest_counted-e-requires : goal.deepest_counted-e-requires
deepest_counted-e-requires c = (room_counts c.args.z c.args.s.now c.args.n c.requires.store, c.requires.limit)

pub write_directory-requires : goal.write_directory-requires
write_directory-requires c =
    let a = c.args in
    let e = told_depth a.z fnv a.s.now a.n a.d a.most c.requires _ c.deepest_counted-e.ensures in
    (c.requires.store.sized, subst (λ d. Directable a.z a.s.now a.n d) (sym e) (directable a.z a.s.now a.n c.requires.store.pages))

pub returns-then-e-d : goal.returns-then-e-d
returns-then-e-d c =
    let a = c.args in
    let e = told_depth a.z fnv a.s.now a.n a.d a.most c.requires _ c.deepest_counted-e.ensures in
    subst (λ d. Directed a.z fnv a.s.now d a.n c.write_directory.new.s) e c.write_directory.ensures

pub returns-else-e-d : goal.returns-else-e-d
returns-else-e-d c =
    let a = c.args in
    let e : deepest_in (contents a.z a.s.now) ≡ a.d = omega (arith, told_depth a.z fnv a.s.now a.n a.d a.most c.requires _ c.deepest_counted-e.ensures, c.if-e-d.false) in
    subst (λ d. Directed a.z fnv a.s.now d a.n a.s.now) (sym e) (c.requires.named e)
