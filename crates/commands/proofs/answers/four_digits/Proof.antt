-- `commands::four_digits` meets its contract. Assumes nothing.
use Prim.Native.Nat.{◌+◌, ◌*◌, ◌-◌, ◌/◌, ◌%◌}
use mathlib.Core.Path.{refl}
use Rattle.commands.proofs.Small.{four}
use borrow.Author.Rules.{rules}
use Rattle.commands.proofs.answers.four_digits.Statement.{statement}
use Rattle.commands.proofs.answers.four_digits.Tie as tie

mul-both : tie.Need-overflow_mul-both
mul-both c = search rules

mul-both-2 : tie.Need-overflow_mul-both-2
mul-both-2 c = search rules

sub-both : tie.Need-overflow_sub-both
sub-both c = search rules

mul-x : tie.Need-overflow_mul-x
mul-x c = search rules

mul-tens : tie.Need-overflow_mul-tens
mul-tens c = search rules

add-tens : tie.Need-overflow_add-tens
add-tens c = search rules

mul-result : tie.Need-overflow_mul-result
mul-result c = search rules

add-result : tie.Need-overflow_add-result
add-result c = search rules

mul-result-2 : tie.Need-overflow_mul-result-2
mul-result-2 c = search rules

sub-result : tie.Need-overflow_sub-result
sub-result c = search rules

returns : tie.Need-returns
returns c =
    let n = c.args.n in
    let b = 65536 * n - 6553599 * (n / 100) in
    let x = b * 103 / 1024 in
    let t = x % 16 + x / 65536 % 16 * 65536 in
    four n b x t _ c.requires refl refl refl refl

pub four_digits_spec : {M : Type 1} → statement M
four_digits_spec =
    tie.close
    (tie.spec
    mul-both
    mul-both-2
    sub-both
    mul-x
    mul-tens
    add-tens
    mul-result
    add-result
    mul-result-2
    sub-result
    returns)
