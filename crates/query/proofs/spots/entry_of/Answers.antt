-- The entry lies in page 1.
use Rattle.std.proofs.Common.{◌≡◌, ap, ◌∙◌, arith, ◌<◌}
use Rattle.partition.specs.Bits.{top}
use Rattle.partition.proofs.Sizes.{twelve}
use Rattle.store.specs.Pages.{dir_depth}
use Rattle.query.proofs.Finds.{entry_inside}
use Rattle.query.proofs.spots.entry_of.Goals as goal

pub top_bits-i-requires : goal.top_bits-i-requires
top_bits-i-requires c = omega (arith, c.get32-d.ensures.0, c.requires.deep, twelve c.args.z c.requires.sized)

small : (c : goal.After-size) → c.top_bits-i.result < c.args.z.entries
small c =
    let is : c.top_bits-i.result ≡ top (dir_depth c.args.s.now) c.args.x = c.top_bits-i.ensures ∙ ap (λ d. top d c.args.x) c.get32-d.ensures.0 in
    omega (arith, is, entry_inside c.args.z c.requires.sized (dir_depth c.args.s.now) c.args.x c.requires.deep c.ranges.x.fits)

pub overflow_mul-i : goal.overflow_mul-i
overflow_mul-i c = record { fits = omega (arith, small c, c.requires.sized) }

pub overflow_add-size : goal.overflow_add-size
overflow_add-size c = record { fits = omega (arith, small c, c.requires.sized, c.size.ensures) }

pub get32-requires : goal.get32-requires
get32-requires c = omega (arith, small c, c.requires.sized, c.requires.long, c.size.ensures)
