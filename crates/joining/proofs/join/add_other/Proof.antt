-- `removal::add_other` meets its contract: the row is added, or its code is the one left out. Assumes nothing.
use borrow.Author.Tests.{not-true, not-false}
use borrow.Author.Rules.{rules}
use mathlib.Core.List.{List}
use mathlib.Core.Path.{sym, subst}
use Prim.Native.Nat.{ℕ}
use Rattle.ground.proofs.Tests.{says_true, says_false}
use Rattle.joining.specs.Join.{Taking, Gathered}
use Rattle.joining.proofs.Gathers.{cut_same, cut_other, slot_storable, row_in, none_added}
use Rattle.joining.proofs.join.add_other.Statement.{statement}
use Rattle.joining.proofs.join.add_other.Tie as tie

module _ (z : tie.Start) where
  abbrev g : List ℕ
  g = z.args.from.now

  abbrev i : ℕ
  i = z.args.i

has-code-requires : tie.Need-has_code-requires
has-code-requires c κs = search rules

code-at-requires : tie.Need-code_at-requires
code-at-requires c κs = search rules

place-at-requires : tie.Need-place_at-requires
place-at-requires c κs = search rules

gather-row-requires : tie.Need-gather_row-requires
gather-row-requires c κs = let h = c in
    let z = h in
    let other = says_false h.has_code.result (not-true _ c.if-not-has_code.true-raw) h.has_code.ensures in
    rw (c.code_at.ensures, c.place_at.ensures)
    (slot_storable (g z.before.before.before.before.before.before.before.before) (i z.before.before.before.before.before.before.before.before) z.requires.page z.requires.slot, subst (Taking z.args.to.now) (cut_other (row_in (g z.before.before.before.before.before.before.before.before) (i z.before.before.before.before.before.before.before.before)) z.args.key.now other) z.requires.room)

same_length : tie.Need-shape_of-to
same_length c = search rules

returns : tie.Need-returns-then-not-has_code
returns c = let w = c in
    let k = w in
    let h = k in
    let z = h in
    let other = says_false h.has_code.result (not-true _ k.if-not-has_code.true-raw) h.has_code.ensures in
    subst (λ l. Gathered z.args.to.now l w.gather_row.new.to) (sym (cut_other (row_in (g z.before.before.before.before.before.before.before.before.before.before.before) (i z.before.before.before.before.before.before.before.before.before.before.before)) z.args.key.now other))
    (rw (k.code_at.ensures, k.place_at.ensures) at w.gather_row.ensures)

returns-2 : tie.Need-returns-else-not-has_code
returns-2 c = let z = c in
    let same = says_true c.has_code.result (not-false _ c.if-not-has_code.false-raw) c.has_code.ensures in
    subst (λ l. Gathered z.args.to.now l z.args.to.now) (sym (cut_same (row_in (g z.before.before.before.before.before) (i z.before.before.before.before.before)) z.args.key.now same)) (none_added z.requires.room.tight)

pub add_other_spec : {M : Type 1} → statement M
add_other_spec =
    tie.close
    (tie.spec
    has-code-requires
    code-at-requires
    place-at-requires
    gather-row-requires
    same_length
    returns
    returns-2)
