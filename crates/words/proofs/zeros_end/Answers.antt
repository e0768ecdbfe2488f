use Rattle.std.proofs.Common.{arith, ◌≡◌, ◌+◌, ◌*◌}
use Rattle.words.proofs.Zeros.{from_on, part_zero, zero_part}
use Rattle.words.proofs.zeros_end.Goals as goal

pub loop-k-preserved : goal.loop-k-preserved
loop-k-preserved c =
    let s = c.args.s.now in
    let a = c.args.a in
    let b = a + 1024 * c.loop-k.k in
    let e : b + 1024 ≡ a + 1024 * (c.loop-k.k + 1) = omega arith in
    rw e at (from_on s a b (b + 1024) c.loop-k.invariant (part_zero s b (b + 1024) c.if-not-no_bit.ensures))

pub returns-then-not-no_bit : goal.returns-then-not-no_bit
returns-then-not-no_bit c =
    let s = c.args.s.now in
    let b = c.args.a + 1024 * c.loop-k.k in
    record {
      from = omega arith;
      to = omega arith;
      blocks = omega arith;
      zero = c.loop-k.invariant;
      last = λ _ z. c.if-not-no_bit.ensures (zero_part s b (b + 1024) z);
    }
