-- The run is all that the prefix calls for.
use Rattle.std.proofs.Common.{◌≡◌, ◌-◌, ◌≤◌, length, arith, rules, ◌∙◌}
use Rattle.ground.proofs.Tests.{says_same, says_eqb}
use Rattle.partition.specs.Bits.{top}
use Rattle.store_check.specs.Directory.{AllAre, Named}
use Rattle.store_check.proofs.Naming.{run_named, named_run}
use Rattle.store_check.proofs.Runs.{run_tested}
use Rattle.store_check.proofs.entry_runs.named.Goals as goal

pub returns-then-counts-p : goal.returns-then-counts-p
returns-then-counts-p c =
    let a = c.args in
    let q = c.requires in
    let r = c.run_of-run in
    let e = r.ensures in
    let es = c.entries.ensures in
    let i = c.entries.result in
    let within : i.end ≤ length a.dir.now = omega (arith, e.3, es, q.inside) in
    says_same {P = AllAre a.dir.now i.start i.end a.p} {Q = Named a.dir.now a.d a.k (top a.k a.x) a.p} c.all.result
    (run_tested (λ i. i ≡ a.p) a.dir.now i.start i.end c.all.result (omega (arith, e.2, es)) within (search rules))
    (λ all. run_named a.dir.now a.d a.p q.from q.beyond _ a.counts.now q.counted q.to q.inside a.k (top a.k a.x) _ _ (es.0 ∙ e.0) (es.1 ∙ e.1) (omega (arith, e.2, es)) (omega (arith, e.3, es)) all (omega (arith, c.if-counts-p.true, es)))
    (λ n. (named_run a.dir.now a.d a.p q.from q.beyond _ a.counts.now q.counted q.to q.inside a.k (top a.k a.x) _ _ (es.0 ∙ e.0) (es.1 ∙ e.1) (omega (arith, e.2, es)) (omega (arith, e.3, es)) n).0)

pub returns-else-counts-p : goal.returns-else-counts-p
returns-else-counts-p c =
    let a = c.args in
    let q = c.requires in
    let r = c.run_of-run in
    let e = r.ensures in
    says_eqb _ (r.result.to - r.result.from) (λ s. absurd (c.if-counts-p.false s))
    (λ n. let s = (named_run a.dir.now a.d a.p q.from q.beyond _ a.counts.now q.counted q.to q.inside a.k (top a.k a.x) _ _ e.0 e.1 e.2 e.3 n).1 in omega (arith, s))
