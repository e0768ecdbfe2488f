use Rattle.std.proofs.Common.{◌≡◌, ◌-◌, true, false, sym, refl, ◌∙◌, subst, true≢false, rules}
use native.Mathlib.Nat.{sub-zero}
use Rattle.store.specs.Demands.{ok}
use Rattle.store.specs.Tables.{meaning}
use Rattle.lots.specs.Sessions.{SessionHolds, Quiet}
use Rattle.lots.proofs.Leaving.{done_loud, formatted_still, unformatted, part_back, still_back, still_front, taken_in}
use Rattle.lots.proofs.input.format.Goals as goal

pub returns-then-is_done : goal.returns-then-is_done
returns-then-is_done g c =
    let a = c.after-y.ensures in
    let f = c.format-a in
    let n = c.length_of-len in
    let d : ok (meaning f.result) ≡ true = sym c.is_done.ensures ∙ c.if-is_done.true in
    let y = formatted_still _ _ (meaning f.result) _ f.ensures d in
    let no : Quiet c.after-y.result → ⊥ = λ q. done_loud (meaning f.result) c.wrote.result c.wrote.ensures (a.leaves q) d in (
      record {
        quiet = λ q. absurd (no q);
        same = λ q. absurd (no q);
        long = λ q. absurd (no q);
        holds = record { within = search rules; known = λ _. still_front _ _ n.result n.ensures.1 y refl };
      },
      record { line = a.read.line; quit = a.read.quit },
      record {
        len = n.result;
        within = n.ensures.1;
        long = n.ensures.0;
        answer = meaning f.result;
        left = f.new.s;
        made = simp sub-zero at f.ensures;
        refused = λ e. absurd (true≢false (sym d ∙ e));
        done = λ _. (still_back _ _ n.result n.ensures.1 y, refl);
      },
    )

pub returns-else-is_done : goal.returns-else-is_done
returns-else-is_done g c =
    let a = c.after-y.ensures in
    let f = c.format-a in
    let n = c.length_of-len in
    let d : ok (meaning f.result) ≡ false = sym c.is_done.ensures ∙ c.if-is_done.false in
    let e = part_back c.args.store.now f.new.s 0 (n.result - 0) (unformatted _ _ (meaning f.result) _ f.ensures d) in (
      taken_in a (λ l. e) (subst (SessionHolds c.args.z) (sym e) c.requires),
      a.read,
      record {
        len = n.result;
        within = n.ensures.1;
        long = n.ensures.0;
        answer = meaning f.result;
        left = f.new.s;
        made = simp sub-zero at f.ensures;
        refused = λ _. (e, a.len);
        done = λ k. absurd (true≢false (sym k ∙ d));
      },
    )
