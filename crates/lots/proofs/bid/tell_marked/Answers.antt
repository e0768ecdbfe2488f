use Rattle.std.proofs.Common.{◌≡◌, ℕ, length, ap, ◌∙◌, rules}
use Rattle.std.proofs.lemmas.List.{length-replicate}
use Rattle.lots.proofs.Reporting.{marked_as}
use Rattle.lots.proofs.bid.tell_marked.Goals as goal

pub tell_rows-requires : goal.tell_rows-requires
tell_rows-requires g c =
    let w = c.requires.0 in
    let l : length c.args.counts.now ≡ c.args.n = ap length c.requires.1 ∙ length-replicate {A = ℕ} c.args.n 0 in
    record {
      over = w;
      long = search (rules, l);
      are = marked_as c.args.z c.args.s.now c.args.flat.now c.args.n w.sums w.summed c.args.counts.now _ c.mark_rows.result c.requires.1 c.mark_rows.ensures;
    }
