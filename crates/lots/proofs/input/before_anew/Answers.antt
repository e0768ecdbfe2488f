use Rattle.std.proofs.Common.{◌≡◌, ◌-◌, ◌++◌, length, take, drop, sym, refl, ap, ◌∙◌, arith}
use Rattle.std.proofs.lemmas.Bool.Decides.{Decides-eqb}
use Rattle.std.proofs.lemmas.Slice.Eq.{slice_eq-Decides, starts_is}
use Rattle.commands.specs.Texts.{text}
use Rattle.lots.proofs.Running.{anew_cut, to_end}
use Rattle.lots.proofs.input.before_anew.Goals as goal

pub returns-in-Some : goal.returns-in-Some
returns-in-Some c =
    let l = c.args.line.now in
    let w = c.in-Some.words.now in
    let m = c.in-Some.ensures.cases in
    let d = (slice_eq-Decides Decides-eqb (drop (length l - 5) l) (text " anew") _ (sym m.0)).0 refl in
    let n : length w ≡ length l - 5 = omega (arith, m.2) in
    let f = (starts_is Decides-eqb w (text "format ") _ c.starts_with.ensures.value).0 c.if-starts_with.true in
    record {
      within = omega (arith, m.2);
      cut = λ _. record {
        word = ap (λ j. take 7 (take j l)) n ∙ ap (λ v. take 7 v) (sym m.1) ∙ ap (λ v. take 7 v) f;
        ends = anew_cut l (omega (arith, m.2)) (to_end l (length l - 5) ∙ d) ∙ ap (λ j. take j l ++ text " anew") (sym n);
      };
      uncut = λ e. absurd (omega (arith, e, m.2));
    }
