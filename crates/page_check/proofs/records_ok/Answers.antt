-- The parts of the test, put together; and each of them where it fails.
use Rattle.std.proofs.Common.{◌≡◌, sym, subst, ◌∙◌, ℕ, List, Bool, true, ◌*◌, ◌-◌, ◌<◌, length, arith}
use Rattle.ground.specs.Lists.{byte}
use Rattle.ground.specs.Says.{Says}
use Rattle.ground.proofs.Tests.{says_true, says_false, says_same}
use Rattle.words.specs.Zeros.{ZeroFrom}
use Rattle.page.specs.Page.{count}
use Rattle.page_check.specs.Rules.{SlotsOk}
use Rattle.page_check.specs.Table.{HeadKnown, Laid}
use Rattle.page_check.specs.Marks.{Marked, NoCapital}
use Rattle.page_check.specs.Shared.{PageOk}
use Rattle.page_check.proofs.Whole.{Known, slots_of, laid_from, zeros_of, whole}
use Rattle.page_check.proofs.Marks.{spelled_of, no_capital_of}
use Rattle.page_check.proofs.records_ok.Goals.{then-walk, else-walk, then-slots_ok, else-slots_ok}
use Rattle.page_check.proofs.records_ok.Goals as goal

known : (p t : List ℕ) (n f : ℕ) → HeadKnown p t n f → ((k : ℕ) → byte p k < 256) → SlotsOk p → Known p n f
known p t n f h b s = record { head = h.head; bytes = b; rows = h.rows; front = h.front; slots = s }

sound : (p q t : List ℕ) (n f : ℕ) → HeadKnown p q n f → ((k : ℕ) → byte p k < 256) → SlotsOk p → Laid p n f → ZeroFrom p f (length p - 4 * n) → Marked p n t → (r : Bool) → Says r (NoCapital p t 8 f) → Says r (PageOk p)
sound p q t n f h a s l z m r c =
    let b = whole p n f (known p q n f h a s) l z in
    let k : Marked p (count p) t = subst (λ x. Marked p x t) h.rows m in
    says_same r c (λ o. record { rules = b; folded = spelled_of _ _ b k f (omega (arith, h.front)) o }) (λ e. no_capital_of _ _ b k f (omega (arith, h.front, h.rows, h.head.room)) e.folded)

pub returns-then-zeros-clause-says : goal.returns-then-zeros-clause-says
returns-then-zeros-clause-says c =
    elim c.if-walk.branch [
      | then-walk w ↦ elim c.if-slots_ok.branch [
        | then-slots_ok v ↦
            let walked : v.walk.result ≡ true = sym v.value-is ∙ w.if-walk.true in
            sound c.args.page.now c.args.tab.now c.if-slots_ok.tab c.args.n c.args.f c.requires (λ k. omega (arith, c.type_inv.page k)) (says_true c.slots_ok.result v.if-slots_ok.true c.slots_ok.ensures.says) (says_true v.walk.result walked v.walk.ensures.says)
            (says_true w.zeros.result (sym w.value-is ∙ c.if-zeros.true) w.zeros.ensures) (subst (Marked c.args.page.now c.args.n) (sym v.tab-is) (v.walk.ensures.marked walked)) c.no_capital.result c.no_capital.ensures
        | else-slots_ok v ↦ absurd (cc (v.value-is, w.if-walk.true))
      ]
      | else-walk w ↦ absurd (cc (w.value-is, c.if-zeros.true))
    ]

pub returns-else-zeros-clause-says : goal.returns-else-zeros-clause-says
returns-else-zeros-clause-says c =
    let bytes : (k : ℕ) → byte c.args.page.now k < 256 = λ k. omega (arith, c.type_inv.page k) in
    subst (λ v. Says v (PageOk c.args.page.now)) (sym c.if-zeros.false) (λ b.
    elim c.if-slots_ok.branch [
      | then-slots_ok v ↦ elim c.if-walk.branch [
        | then-walk w ↦ says_false w.zeros.result (sym w.value-is ∙ c.if-zeros.false) w.zeros.ensures (zeros_of _ _ _ (known _ _ _ _ c.requires bytes (says_true c.slots_ok.result v.if-slots_ok.true c.slots_ok.ensures.says)) b.rules)
        | else-walk w ↦ says_false v.walk.result (sym v.value-is ∙ w.if-walk.false) v.walk.ensures.says (laid_from _ _ _ (known _ _ _ _ c.requires bytes (says_true c.slots_ok.result v.if-slots_ok.true c.slots_ok.ensures.says)) b.rules)
      ]
      | else-slots_ok v ↦ says_false c.slots_ok.result v.if-slots_ok.false c.slots_ok.ensures.says (slots_of _ b.rules)
    ])
