-- A code's entry says its length, and has zeros behind the code and behind the length.
use Rattle.std.proofs.Common.{sym, arith}
use mathlib.Core.Logic.{⊎_elim}
use Rattle.words.proofs.Zeros.{part_zero, zero_part}
use Rattle.code_index.proofs.Lengths.{is_entry, says_length, says_pad, says_zeros}
use Rattle.code_index.proofs.find.entry_length.Goals as goal

pub returns-then-n-eq0 : goal.returns-then-n-eq0
returns-then-n-eq0 c k least most q =
    let l = says_length c.args.e.now c.requires k least most q in
    ⊎_elim (λ z. omega (arith, z, c.from-n.ensures, l, least)) (λ z. omega (arith, z.1, c.from-n.ensures, l, most)) c.then-n-eq0.either

pub returns-then-not-all_zero : goal.returns-then-not-all_zero
returns-then-not-all_zero c k least most q =
    let e = c.args.e.now in
    let r = c.requires in
    c.if-not-all_zero.ensures (zero_part e c.from-n.result 64 (λ j h l. says_pad e r k least most q j (omega (arith, says_length e r k least most q, c.from-n.ensures, h)) l))

pub returns-then-not-all_zero-2 : goal.returns-then-not-all_zero-2
returns-then-not-all_zero-2 c k least most q =
    let e = c.args.e.now in
    c.if-not-all_zero-2.ensures (zero_part e 65 72 (λ j h l. says_zeros e c.requires k least most q j h l))

pub returns : goal.returns
returns c =
    let e = c.args.e.now in
    let n = c.from-n.result in (
      omega arith,
      omega arith,
      is_entry e c.requires n (sym c.from-n.ensures) (omega arith) (part_zero e n 64 c.if-not-all_zero.ensures) (part_zero e 65 72 c.if-not-all_zero-2.ensures),
    )
