-- Refused 3 and 4, then the row by its mode.
use Rattle.ground.proofs.Tests.{says_true, says_false}
use Rattle.hash.specs.Fnv.{fnv}
use Rattle.page.specs.Places.{Negative}
use Rattle.words.specs.Codes.{GoodCode}
use Rattle.store.proofs.Demands.Unchecked.{puts_3, puts_4, puts}
use Rattle.store.specs.Tables.{meaning}
use Rattle.putting.proofs.checked.put_checked.Goals as goal

pub returns-then-not-good_code : goal.returns-then-not-good_code
returns-then-not-good_code c =
    let a = c.args in
    puts_3 a.z fnv a.s.now c.requires.accepted a.key.now a.place a.mode (says_false {P = GoodCode a.key.now} c.good_code.result c.if-not-good_code.true c.good_code.ensures)

pub returns-then-negative : goal.returns-then-negative
returns-then-negative c =
    let a = c.args in
    puts_4 a.z fnv a.s.now c.requires.accepted a.key.now a.place a.mode (says_true {P = GoodCode a.key.now} c.good_code.result c.if-not-good_code.false c.good_code.ensures)
    (says_true {P = Negative a.place} c.negative.result c.if-negative.true c.negative.ensures)

pub put_allowed-requires : goal.put_allowed-requires
put_allowed-requires c = record {
  sized = c.requires.sized;
  accepted = c.requires.accepted;
  good = says_true {P = GoodCode c.args.key.now} c.good_code.result c.if-not-good_code.false c.good_code.ensures;
  natural = says_false {P = Negative c.args.place} c.negative.result c.if-negative.false c.negative.ensures;
}

pub returns : goal.returns
returns c =
    let a = c.args in
    let w = c.put_allowed in
    puts a.z fnv a.s.now c.requires.accepted a.key.now a.place a.mode (meaning w.result, w.new.s) (says_true {P = GoodCode a.key.now} c.good_code.result c.if-not-good_code.false c.good_code.ensures)
    (says_false {P = Negative a.place} c.negative.result c.if-negative.false c.negative.ensures) c.requires.mode w.ensures
