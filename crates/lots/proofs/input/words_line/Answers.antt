use Rattle.std.proofs.Common.{◌≡◌, sym, ◌∙◌, subst, true≢false}
use Rattle.commands.specs.Texts.{text}
use Rattle.ground.specs.Says.{Says}
use Rattle.lots.proofs.Running.{did_as, to_end}
use Rattle.lots.proofs.input.words_line.Goals as goal

pub returns : goal.returns
returns g c =
    let t = c.turn.ensures in
    let x = c.text_start-a in
    let w = c.args.words.now in
    record {
      kept = t.kept;
      line = t.line;
      passed = λ e. absurd (true≢false (sym e ∙ c.if-over.false));
      quit = λ _ e l f. subst (λ v. Says c.turn.result.quit (v ≡ text "quit")) (to_end w x.result ∙ x.ensures.text l f) (t.quit e);
      did = λ _ l f. did_as (to_end w x.result ∙ x.ensures.text l f) t.did;
    }
