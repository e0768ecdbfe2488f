-- The chain pages of worked lengths, computed.
use mathlib.Core.Path.{refl}
use Rattle.chains.specs.Chains.{links, pages_of}
use Rattle.chains.specs.Worked.{WorkedLinks}

pub worked_links : WorkedLinks
unfolding links pages_of
worked_links =
    record { short = refl; first = refl; first_full = refl; second = refl; second_full = refl; third = refl; longest = refl; middle = refl; large = refl }
