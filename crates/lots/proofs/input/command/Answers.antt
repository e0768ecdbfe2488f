use Rattle.std.proofs.Common.{◌≡◌, ◌-◌, ℕ, length, take, sym, refl, ◌∙◌, subst, inl, rules}
use lib.Dec.{ltb}
use Rattle.lots.specs.declared.Outcome.{Outcome}
use Rattle.lots.specs.declared.Outcome.TheVariants.{Silent, Unknown, Told, Changed, Listed, Format, Stopped}
use Rattle.commands.specs.Texts.{text}
use Rattle.ground.specs.Says.{Says}
use Rattle.lots.specs.Runs.{Done, asked}
use Rattle.lots.specs.Sessions.{Leaves}
use Rattle.lots.proofs.Leaving.{leaves, part_back, still_holds, learnt_holds, learnt_in, then}
use Rattle.lots.proofs.Running.{without, formats_did, obeyed_did}
use Rattle.lots.proofs.input.command.Goals as goal

pub returns-in-Format : goal.returns-in-Format
returns-in-Format g c =
    let f = c.ask_format.ensures in
    let o = c.in-Format.is in
    let b = c.obey-o.ensures in
    let a = c.before_anew-n in
    let l = c.args.line.now in
    record {
      kept = then (record { quiet = λ q. q; same = λ q. part_back _ _ 0 (c.args.z.len - 0) (leaves b (subst Leaves (sym o) tt)); long = λ q. refl; holds = still_holds c.requires.0 b (search rules) }) f.0;
      line = f.1.line;
      quit = λ e. subst (λ q. Says q (l ≡ text "quit")) (sym (f.1.quit ∙ e)) (λ x. c.requires.1 (inl x));
      did = asked c.requires.1 (take a.result l) (ltb a.result (length l)) (without l a.result a.ensures) (formats_did (take a.result l) (ltb a.result (length l)) c.requires.0 b o f.2);
    }

-- an outcome that is no format
done : (o : Outcome) → ((n size : ℕ) → o ≡ Format n size → ⊥) → Done o
done Silent k = tt
done Unknown k = tt
done (Told x) k = tt
done (Changed x) k = tt
done (Listed n) k = tt
done Stopped k = tt
done (Format n size) k = k n size refl

pub returns : goal.returns
returns g c =
    let a = c.after.ensures in
    let k = c.learnt.ensures in
    let b = c.obey-o.ensures in
    let n = c.before_anew-n in
    let l = c.args.line.now in
    record {
      kept = learnt_in k a (λ x. part_back _ _ 0 (c.args.z.len - 0) (leaves b x)) (learnt_holds k c.requires.0 b (search rules));
      line = a.read.line ∙ k.read.line;
      quit = λ e. subst (λ q. Says q (l ≡ text "quit")) (sym (a.read.quit ∙ k.read.quit ∙ e)) (λ x. c.requires.1 (inl x));
      did = asked c.requires.1 (take n.result l) (ltb n.result (length l)) (without l n.result n.ensures) (obeyed_did (take n.result l) (ltb n.result (length l)) c.after.result.len c.requires.0 (search rules) b (done c.obey-o.result c.in_default.not-Format) (a.len ∙ k.len));
    }
