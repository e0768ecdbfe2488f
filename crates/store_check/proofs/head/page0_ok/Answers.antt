-- The bytes that are looked at are those behind the offset.
use Rattle.std.proofs.Common.{◌-◌, ◌≤◌, take, drop, length, subst, sym, arith}
use Rattle.ground.proofs.Tests.{says_same}
use Rattle.words.specs.Zeros.{Zero, ZeroFrom}
use Rattle.page_check.proofs.Lent.{lent_zero, zero_lent}
use Rattle.store_check.proofs.head.page0_ok.Goals as goal

pub returns-then-get32-size_number : goal.returns-then-get32-size_number
returns-then-get32-size_number c =
    let s = c.args.s.now in
    let n = c.size-size.result in
    let k = c.args.zeros in
    let m : k ≤ n = omega (arith, c.size-size.ensures, c.requires.sized.least, c.requires.within) in
    let room : n ≤ length s = omega (arith, c.size-size.ensures, c.requires.room) in
    says_same {P = Zero (take (n - k) (drop k s))} c.all_zero.result c.all_zero.ensures
    (λ z. record { number = grind arith; directory = grind arith; entries = grind arith; first = grind arith; depth = grind arith; size_number = grind arith; rest = subst (λ y. ZeroFrom s k y) c.size-size.ensures (lent_zero s k n m room z) })
    (λ g. zero_lent s k n m room (subst (λ y. ZeroFrom s k y) (sym c.size-size.ensures) g.rest))
