use Rattle.std.proofs.Common.{◌≡◌, sym, ap, subst, ◌∙◌}
use Rattle.partition.specs.Sizes.{Sized, shape_for, shape_of}
use Rattle.partition.proofs.Sizes.{sized_of}
use Rattle.partition.proofs.shape_of.Goals as goal

pub returns : goal.returns
unfolding shape_of
returns c =
    let s = c.args.s.now in
    let e : c.shape_for.result ≡ shape_of s = c.shape_for.ensures ∙ ap shape_for c.get32.ensures.0 in
    (e, subst Sized (sym e) (sized_of s))
