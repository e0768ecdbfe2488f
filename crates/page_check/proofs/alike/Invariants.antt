use Rattle.hash.specs.Fnv.{fnv}
use Rattle.page.specs.Page.{code}
use Rattle.page_check.proofs.Prefixes.{Ored}
use Rattle.page_check.proofs.alike.Given as goal

abbrev pub invariant-loop-i : goal.invariant-loop-i
invariant-loop-i l = Ored l.k (λ j. fnv (code l.page j)) l.first l.i l.acc
