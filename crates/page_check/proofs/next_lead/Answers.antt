-- A slot that its first eight bytes tell, and one that is compared.
use Rattle.std.proofs.Common.{◌≡◌, ◌+◌, ◌-◌, arith}
use Rattle.page_check.specs.Rules.{WordOk, off_of, len_of}
use Rattle.page_check.specs.Leads.{Stretch}
use Rattle.page_check.specs.Table.{LeadOver}
use Rattle.page_check.proofs.Firsts.{led_of}
use Rattle.page_check.proofs.Sweep.{told_within}
use Rattle.page_check.proofs.next_lead.Goals as goal

pub returns-in-Some : goal.returns-in-Some
returns-in-Some c =
    let p = c.args.page.now in
    let w = c.args.w in
    let u : LeadOver p c.args.lead w c.in-Some.next = c.in-Some.ensures in
    let e : off_of w + len_of w - (off_of w + 8) ≡ len_of w - 8 = omega (arith, u.eight) in
    let k : WordOk c.args.f w = record { kind_one = u.kind_one; short = omega (arith, u.eight); long = u.long; inside = omega (arith, c.if-f-w.false, u.kind_one) } in
    let t : Stretch p (off_of w + 8) (off_of w + len_of w) = record { order = omega (arith, u.eight); within = omega (arith, k.inside, c.requires.room) } in (
      record { sound = k; rises = rw e at (c.requires.led (off_of w + 8) (off_of w + len_of w) t (omega (arith, u.eight)) (omega (arith, u.over, u.is))) },
      rw u.is (rw e at (led_of p (λ j. omega (arith, c.type_inv.page j)) (off_of w + 8) (off_of w + len_of w) t (omega (arith, u.eight)))),
    )

pub returns-in-None : goal.returns-in-None
returns-in-None c = told_within _ _ _ _ c.requires.room (omega (arith, c.if-f-w.false)) _ c.compared.ensures
