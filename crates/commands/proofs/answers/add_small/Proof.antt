-- `commands::add_small` meets its contract. Assumes nothing.
use mathlib.Core.Path.{sym, ◌∙◌}
use native.Mathlib.Omega.{arith}
use Rattle.commands.proofs.Adding.{as_text, cut, decimal_is, width_two, width_three}
use Rattle.commands.proofs.Small.{digit_text, two, three, width_four, word_long}
use borrow.Author.Rules.{rules}
use Rattle.commands.proofs.answers.add_small.Statement.{statement}
use Rattle.commands.proofs.answers.add_small.Tie as tie

cast-t7 : tie.Need-overflow_cast-text
cast-t7 c = search rules

add-t8 : tie.Need-overflow_add-text
add-t8 c = search rules

slice-aggregate-add : tie.Need-slice_bounds-add-end
slice-aggregate-add c = search rules

add-requires : tie.Need-add-requires
add-requires c κs = search rules

same_length : tie.Need-shape_of-out-then-n-lt10
same_length c = search rules

returns : tie.Need-returns-then-n-lt10
returns c =
    let a = c in
    let i = a in
    (as_text (digit_text _ i.if-n-lt10.true) a.add.ensures, omega (arith, a.add.ensures.next))

four-digits-requires : tie.Need-four_digits-d-requires
four-digits-requires c κs = search rules

add-word-requires : tie.Need-add_word-requires
add-word-requires c κs = search rules

same-length-2 : tie.Need-shape_of-out-then-n-gt999
same-length-2 c = search rules

returns-2 : tie.Need-returns-then-n-gt999
returns-2 c =
    let a = c in
    let i = a in
    let f = i in
    let s = f in
    (as_text (f.four_digits-d.ensures ∙ decimal_is s.args.n 4 (sym (width_four s.args.n (omega (arith, i.if-n-gt999.true)) s.requires.1))) a.add_word.ensures, omega (arith, a.add_word.ensures.next, word_long f.four_digits-d.result))

add-word-requires-2 : tie.Need-add_word-requires-then-n-gt99
add-word-requires-2 c κs = search rules

add-result : tie.Need-overflow_add-result
add-result c = search rules

same-length-3 : tie.Need-shape_of-out-then-n-gt99
same-length-3 c = search rules

returns-3 : tie.Need-returns-then-n-gt99
returns-3 c =
    let a = c in
    let i = a in
    let f = i in
    let s = f in
    (as_text (decimal_is s.args.n 3 (sym (width_three s.args.n (omega (arith, i.if-n-gt99.true)) (omega (arith, i.if-n-gt999.false))))) (cut _ _ (omega (arith, s.requires.0)) (as_text (three s.args.n f.four_digits-d.result f.four_digits-d.ensures) a.add_word-then-n-gt99.ensures)), omega arith)

add-word-requires-3 : tie.Need-add_word-requires-2
add-word-requires-3 c κs = search rules

add-result-2 : tie.Need-overflow_add-result-2
add-result-2 c = search rules

same-length-4 : tie.Need-shape_of-out
same-length-4 c = search rules

returns-4 : tie.Need-returns
returns-4 c =
    let a = c in
    let i = a in
    let f = i in
    let s = f in
    (as_text (decimal_is s.args.n 2 (sym (width_two s.args.n (omega (arith, f.if-n-lt10.false)) (omega (arith, i.if-n-gt99.false))))) (cut _ _ (omega (arith, s.requires.0)) (as_text (two s.args.n f.four_digits-d.result f.four_digits-d.ensures) a.add_word-2.ensures)), omega arith)

pub add_small_spec : {M : Type 1} → statement M
add_small_spec =
    tie.close
    (tie.spec
    cast-t7
    add-t8
    slice-aggregate-add
    add-requires
    same_length
    returns
    four-digits-requires
    add-word-requires
    same-length-2
    returns-2
    add-word-requires-2
    add-result
    same-length-3
    returns-3
    add-word-requires-3
    add-result-2
    same-length-4
    returns-4)
