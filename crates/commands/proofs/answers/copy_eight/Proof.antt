-- `commands::copy_eight` meets its contract. Assumes nothing.
use Rattle.commands.proofs.Adding.{as_text}
use Rattle.commands.proofs.Blocks.{eight}
use borrow.Author.Rules.{rules}
use Rattle.commands.proofs.answers.copy_eight.Statement.{statement}
use Rattle.commands.proofs.answers.copy_eight.Tie as tie

shared-slice-read-t7 : tie.Need-bounds-code-i
shared-slice-read-t7 c = search rules

add-t8 : tie.Need-overflow_add-text
add-t8 c = search rules

shared-slice-read-t10 : tie.Need-bounds-code-i-2
shared-slice-read-t10 c = search rules

add-t11 : tie.Need-overflow_add-text-2
add-t11 c = search rules

shared-slice-read-t13 : tie.Need-bounds-code-i-3
shared-slice-read-t13 c = search rules

add-t14 : tie.Need-overflow_add-text-3
add-t14 c = search rules

shared-slice-read-t16 : tie.Need-bounds-code-i-4
shared-slice-read-t16 c = search rules

add-t17 : tie.Need-overflow_add-text-4
add-t17 c = search rules

shared-slice-read-t19 : tie.Need-bounds-code-i-5
shared-slice-read-t19 c = search rules

add-t20 : tie.Need-overflow_add-text-5
add-t20 c = search rules

shared-slice-read-t22 : tie.Need-bounds-code-i-6
shared-slice-read-t22 c = search rules

add-t23 : tie.Need-overflow_add-text-6
add-t23 c = search rules

shared-slice-read-t25 : tie.Need-bounds-code-i-7
shared-slice-read-t25 c = search rules

add-t26 : tie.Need-overflow_add-text-7
add-t26 c = search rules

shared-slice-read-t28 : tie.Need-bounds-code-i-8
shared-slice-read-t28 c = search rules

slice-aggregate-add : tie.Need-slice_bounds-add-end
slice-aggregate-add c = search rules

add-requires : tie.Need-add-requires
add-requires c κs = search rules

same_length : tie.Need-shape_of-out
same_length c = search rules

returns : tie.Need-returns
returns c =
    let a = c in
    let s = a in
    as_text (eight s.args.code.now s.args.i s.requires.1) a.add.ensures

pub copy_eight_spec : {M : Type 1} → statement M
copy_eight_spec =
    tie.close
    (tie.spec
    shared-slice-read-t7
    add-t8
    shared-slice-read-t10
    add-t11
    shared-slice-read-t13
    add-t14
    shared-slice-read-t16
    add-t17
    shared-slice-read-t19
    add-t20
    shared-slice-read-t22
    add-t23
    shared-slice-read-t25
    add-t26
    shared-slice-read-t28
    slice-aggregate-add
    add-requires
    same_length
    returns)
