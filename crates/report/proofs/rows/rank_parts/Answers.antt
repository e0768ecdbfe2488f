-- `report::rows::rank_parts`: the joined word is the rank, or shows that a part is none.
use Rattle.std.proofs.Common.{◌<◌, ap, ◌∙◌, w64}
use lib.IntN.{nat_abs}
use mir.Facts.{to_z_pos}
use Rattle.report.proofs.Joined.{joined, low, high, ranked_is}
use Rattle.report.proofs.rows.rank_parts.Goals as goal

pub returns-then-w-lt0 : goal.returns-then-w-lt0
returns-then-w-lt0 c = (ranked_is c.args.a c.args.b c.args.c c.ranges.a c.ranges.b c.ranges.c).none (high (joined c.args.a c.args.b c.args.c) c.if-w-lt0.true)

pub returns : goal.returns
returns c =
    let l : joined c.args.a c.args.b c.args.c < 9223372036854775808 = low (joined c.args.a c.args.b c.args.c) c.if-w-lt0.false in
    ap nat_abs (to_z_pos w64 l) ∙ (ranked_is c.args.a c.args.b c.args.c c.ranges.a c.ranges.b c.ranges.c).some l
