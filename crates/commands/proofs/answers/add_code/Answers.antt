use Rattle.std.proofs.Common.{◌≡◌, ◌+◌, ◌*◌, ◌-◌, ◌/◌, ◌≤◌, arith, length, refl, sym, take}
use native.Mathlib.Nat.{le_refl}
use Rattle.commands.specs.Answers.{Adds}
use Rattle.commands.specs.Codes.{PlainFrom}
use Rattle.commands.proofs.Adding.{as_text, then}
use Rattle.commands.proofs.Blocks.{rest_shown, plain_on, eight_more, last_eight}
use Rattle.commands.proofs.answers.add_code.Goals as goal

pub returns-then-not-eight_plain-clause-adds : goal.returns-then-not-eight_plain-clause-adds
returns-then-not-eight_plain-clause-adds c =
    let v = c.loop-k.invariant in
    as_text (rest_shown c.args.code.now (8 * c.loop-k.k) _ refl (omega (arith, c.loop-k-test.true, c.if-n-lt8.false)) v.plain) (then v.adds c.add_bytes-then-not-eight_plain.ensures.adds)

pub loop-k-preserved : goal.loop-k-preserved
loop-k-preserved c =
    let v = c.loop-k.invariant in
    let code = c.args.code.now in
    let i = 8 * c.loop-k.k in
    let h : i + 8 ≤ length code = omega (arith, c.loop-k-test.true, c.if-n-lt8.false) in
    let e : i + 8 ≡ 8 * (c.loop-k.k + 1) = omega arith in
    let p : PlainFrom code 0 (8 * (c.loop-k.k + 1)) = rw (sym e) (plain_on code 0 i i (i + 8) (le_refl i) v.plain (c.eight_plain.ensures c.if-not-eight_plain.false)) in
    let d : Adds (take (8 * (c.loop-k.k + 1)) code) c.args.out.now c.args.at c.copy_eight.new.out (c.args.at + 8 * (c.loop-k.k + 1)) = rw (sym e) (eight_more code i c.args.at h v.adds c.copy_eight.ensures) in
    record { plain = p; adds = d }

pub returns-then-not-eight_plain-2-clause-adds : goal.returns-then-not-eight_plain-2-clause-adds
returns-then-not-eight_plain-2-clause-adds c =
    let v = c.loop-k.invariant in
    let e : c.loop-k.k ≡ (length c.args.code.now - 1) / 8 = omega (arith, c.loop-k-test.false, c.loop-k.auto.k-end) in
    as_text (rest_shown c.args.code.now (8 * c.loop-k.k) _ refl (omega (arith, c.if-n-lt8.false)) v.plain) (then v.adds (rw e c.add_bytes-then-not-eight_plain-2.ensures.adds))

pub returns-clause-adds : goal.returns-clause-adds
returns-clause-adds c =
    let v = c.loop-k.invariant in
    let code = c.args.code.now in
    last_eight code (8 * c.loop-k.k) (length code - 8) c.args.at (omega (arith, c.if-n-lt8.false)) (omega arith) (omega (arith, c.if-n-lt8.false)) (omega (arith, c.requires)) v.plain (c.eight_plain-2.ensures c.if-not-eight_plain-2.false) v.adds c.copy_eight-2.ensures
