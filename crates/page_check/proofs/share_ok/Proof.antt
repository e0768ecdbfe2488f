-- `page_check::share_ok` meets its contract. Assumes nothing.
use borrow.Author.Rules.{rules}
use Rattle.ground.proofs.Tests.{says_same}
use Rattle.hash.specs.Fnv.{fnv}
use Rattle.page_check.proofs.Prefixes.{share_all}
use Rattle.page_check.proofs.share_ok.Statement.{statement}
use Rattle.page_check.proofs.share_ok.Tie as tie

hash-slot-requires : tie.Need-hash_slot-requires
hash-slot-requires c κs = search rules

shared-slice-read-alike : tie.Need-bounds-page-1
shared-slice-read-alike c = search rules

alike-requires : tie.Need-alike-requires
alike-requires c κs = search rules

returns : tie.Need-returns
returns c = says_same c.alike.result c.alike.ensures (share_all fnv _) (λ s i h. s 0 i c.requires.0.some h)

pub share_ok_spec : {M : Type 1} → statement M
share_ok_spec = tie.close (tie.spec hash-slot-requires shared-slice-read-alike alike-requires returns)
