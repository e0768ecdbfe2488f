-- The code before lies where the word before says.
use Rattle.std.proofs.Common.{◌+◌, ◌-◌, ◌≡◌, ℕ, List, take, drop, subst, arith}
use Rattle.std.specs.declared.cmp.Ordering.{Ordering}
use Rattle.ground.specs.Lists.{part}
use Rattle.words.specs.Codes.{Ordered}
use Rattle.words.proofs.Orders.{lt_says}
use Rattle.page_check.specs.Rules.{Codes, off_of, len_of}
use Rattle.page_check.proofs.rises.Goals as goal

-- what the comparison says of it
said : (p q z : List ℕ) (v : ℕ) (o : Ordering) → Codes p v z → Ordered (take (off_of v + len_of v - (off_of v + 8)) (drop (off_of v + 8) p)) q o → Ordered z q o
unfolding part
said p q z v o C h =
    let n : off_of v + len_of v - (off_of v + 8) ≡ len_of v - 8 = omega (arith, C.long) in
    subst (λ y. Ordered y q o) C.is (rw n at h)

pub returns : goal.returns
unfolding part
returns c = rw c.is_lt.ensures (lt_says _ _ c.compare.result (said _ _ _ _ c.compare.result c.word_before-v.ensures c.compare.ensures))
