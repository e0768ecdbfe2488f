-- `page_check::page_ok` meets its contract. Assumes nothing.
use native.Mathlib.Omega.{arith}
use borrow.Author.Tests.{not-true, not-false}
use borrow.Author.Rules.{rules}
use Rattle.ground.proofs.Tests.{says_true, says_false}
use Rattle.page_check.specs.Rules.{HeadOk}
use Rattle.page_check.proofs.Table.{cleared}
use Rattle.page_check.proofs.Whole.{head_of}
use Rattle.page_check.proofs.page_ok.Statement.{statement}
use Rattle.page_check.proofs.page_ok.Tie as tie

head : (c : tie.Else-not-head_ok) → HeadOk c.args.page.now
head c = says_true c.head_ok.result (not-false _ c.if-not-head_ok.false-raw) c.head_ok.ensures

head-ok-requires : tie.Need-head_ok-requires
head-ok-requires c κs = search rules

returns : tie.Need-returns-then-not-head_ok
returns c = ((λ b. says_false c.head_ok.result (not-true _ c.if-not-head_ok.true-raw) c.head_ok.ensures (head_of _ b.rules)), c.requires.1)

get16-requires : tie.Need-get16-n-requires
get16-requires c κs = omega (arith, head c)

get16-requires-2 : tie.Need-get16-f-requires
get16-requires-2 c κs = omega (arith, head c.before)

records-ok-requires : tie.Need-records_ok-ok-requires
records-ok-requires c κs =
    let d = c in
    let s = d.requires in
    record { head = head d.before.before.before; rows = d.get16-n.ensures.0; front = d.get16-f.ensures.0; same = s.0; zero = s.1 }

clear-requires : tie.Need-clear-requires
clear-requires c κs = omega (arith, head c.before.before.before.before.before.before.before)

same_length : tie.Need-shape_of-tab
same_length c = search rules

returns-2 : tie.Need-returns
returns-2 c =
    let r = c.records_ok-ok in
    (r.ensures.0, cleared _ _ _ r.ensures.1 c.clear.ensures)

pub page_ok_spec : {M : Type 1} → statement M
page_ok_spec =
    tie.close
    (tie.spec
    head-ok-requires
    returns
    get16-requires
    get16-requires-2
    records-ok-requires
    clear-requires
    same_length
    returns-2)
