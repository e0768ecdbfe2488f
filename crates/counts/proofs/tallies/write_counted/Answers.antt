-- `counts::write_counted` meets its contract. Assumes nothing.
use Rattle.std.proofs.Common.{◌≡◌, suc, ◌+◌, ◌*◌, arith, ap, ◌∙◌}
use Rattle.words.specs.Le.{le32}
use Rattle.words.proofs.Bytes.{frame_join, le32_above}
use Rattle.counts.proofs.tallies.write_counted.Goals as goal

pub returns : goal.returns
returns c =
    let w = c.write_counts in
    let r = c.put32 in
    record {
      old = frame_join 24 56 w.ensures.old r.ensures.old (omega arith) (omega arith) (omega arith) (omega arith);
      rows = r.ensures.val;
      buckets = λ k b.
          let e : 28 + 4 * k ≡ 24 + 4 * suc k = omega arith in
          le32_above (28 + 4 * k) r.ensures.old (omega arith) ∙ ap (le32 w.new.s) e ∙ w.ensures.new (suc k) (omega arith);
    }
