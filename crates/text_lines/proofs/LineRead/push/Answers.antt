use Rattle.std.proofs.Common.{arith, refl, ap, ◌+◌}
use lib.ListN.{length-set}
use Rattle.text_lines.proofs.Bytewise.{word_more, word_over}
use Rattle.text_lines.proofs.LineRead.push.Goals as goal

pub returns-then-at-buf : goal.returns-then-at-buf
returns-then-at-buf c =
    let w = c.requires in
    let a = ap (λ n. c.args.self.fill + n) c.gap_before.ensures in
    record {
      fits = simp length-set (omega (arith, c.if-at-buf.true));
      more = λ l h. word_more h _ _ _ w.room w.word a c.if-at-buf.true (omega arith) refl refl;
    }

pub returns : goal.returns
returns c =
    let w = c.requires in
    let a = ap (λ n. c.args.self.fill + n) c.gap_before.ensures in
    record { fits = w.within; more = λ l h. word_over h _ _ _ w.room w.word a c.if-at-buf.false refl refl }
