use Rattle.std.proofs.Common.{◌≡◌, true, false, sym, refl, ◌∙◌, subst, inl}
use Rattle.ground.proofs.Tests.{says_true, says_false}
use Rattle.page.specs.Page.{count}
use Rattle.store.specs.Accepted.{Zero}
use Rattle.store.specs.Demands.{ok}
use Rattle.store.specs.Tables.{meaning}
use Rattle.store.proofs.Accepted.Reading.{count_free}
use Rattle.lots.specs.Obeys.{TellsOnly, TellsNumber}
use Rattle.telling.specs.Told.{Shown}
use Rattle.lots.proofs.Inspecting.{refused_two, shown_all}
use Rattle.lots.proofs.obey.list_page.Goals as goal

pub returns-then-all_zero : goal.returns-then-all_zero
returns-then-all_zero g c =
    let z = says_true _ c.if-all_zero.true c.all_zero.ensures in
    record {
      refused = λ n. absurd (n (inl z));
      rows = λ _. subst (λ m. TellsNumber m c.listed.result) (sym (count_free c.args.page.now z)) (c.listed.ensures 0 refl);
    }

pub returns-then-not-is_done : goal.returns-then-not-is_done
returns-then-not-is_done g c =
    let u = says_false _ c.if-all_zero.false c.all_zero.ensures in
    let f : ok (meaning c.first_slot-a.result) ≡ false = sym c.is_done.ensures ∙ c.if-not-is_done.true in
    let two = refused_two c.args.page.now c.requires u _ c.first_slot-a.ensures f in
    record {
      refused = λ _. subst (λ a. TellsOnly a c.told.result) two.1 c.told.ensures;
      rows = λ k. absurd (two.0 k);
    }

pub page_rows-requires : goal.page_rows-requires
page_rows-requires g c =
    let used : Zero c.args.page.now → ⊥ = says_false _ c.if-all_zero.false c.all_zero.ensures in
    let good : ok (meaning c.first_slot-a.result) ≡ true = sym c.is_done.ensures ∙ c.if-not-is_done.false in
    let shown : Shown c.args.page.now (count c.args.page.now) = shown_all c.args.page.now c.requires used _ c.first_slot-a.ensures good in
    subst (Shown c.args.page.now) (sym c.get16.ensures.0) shown

pub returns : goal.returns
returns g c =
    let used : Zero c.args.page.now → ⊥ = says_false _ c.if-all_zero.false c.all_zero.ensures in
    let good : ok (meaning c.first_slot-a.result) ≡ true = sym c.is_done.ensures ∙ c.if-not-is_done.false in
    let shown : Shown c.args.page.now (count c.args.page.now) = shown_all c.args.page.now c.requires used _ c.first_slot-a.ensures good in
    record {
      refused = λ n. absurd (n shown.keeps);
      rows = λ _. subst (λ m. TellsNumber m c.listed-2.result) (c.get16.ensures.0 ∙ shown.rows) (c.listed-2.ensures _ c.page_rows.ensures);
    }
