use Rattle.std.proofs.Common.{◌≡◌, length}
use Rattle.hash.specs.Fnv.{fnv}
use Rattle.page.specs.Page.{code}
use Rattle.store_check.proofs.Fills.{Filled}
use Rattle.putting.specs.Split.{weight, hashes_in, needs_in}
use Rattle.putting.proofs.weigh.gather.Given as goal

abbrev pub invariant-loop-i : goal.invariant-loop-i
invariant-loop-i l = Filled (λ j x. x ≡ fnv (code l.page j)) (length l.initial.ws) 0 l.i (hashes_in l.ws) × Filled (λ j x. x ≡ weight (code l.page j)) (length l.initial.ws) 0 l.i (needs_in l.ws)
