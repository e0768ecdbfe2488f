-- A page is inspected by its own length: refused 1, 8 or 9, else read.
use Rattle.std.proofs.Common.{ap, arith, sym, subst, ◌∙◌}
use Rattle.ground.proofs.Tests.{says_true, says_false}
use Rattle.partition.specs.Sizes.{Sized, size}
use Rattle.partition.proofs.Sizes.{sized_for}
use Rattle.page_reader.proofs.Rows.{inspect_length, inspect_short, inspect_free, inspect_read}
use Rattle.page_reader.proofs.inspect.Goals as goal

pub size-requires : goal.size-requires
size-requires c = omega (arith, (subst Sized (sym c.shape_for-z.ensures) (sized_for _)).most)

pub returns-then-page-size : goal.returns-then-page-size
returns-then-page-size c = inspect_length _ _ _ (λ e. c.if-page-size.true (e ∙ sym (c.size.ensures ∙ ap size c.shape_for-z.ensures)))

pub returns-then-out-lt64 : goal.returns-then-out-lt64
returns-then-out-lt64 c = inspect_short _ _ _ (c.if-page-size.false ∙ c.size.ensures ∙ ap size c.shape_for-z.ensures) c.if-out-lt64.true

pub returns-then-all_zero : goal.returns-then-all_zero
returns-then-all_zero c =
    inspect_free _ _ _ (c.if-page-size.false ∙ c.size.ensures ∙ ap size c.shape_for-z.ensures) c.if-out-lt64.false
    (says_true c.all_zero.result c.if-all_zero.true c.all_zero.ensures)

pub returns : goal.returns
returns c =
    inspect_read _ _ _ (c.if-page-size.false ∙ c.size.ensures ∙ ap size c.shape_for-z.ensures) c.if-out-lt64.false
    (says_false c.all_zero.result c.if-all_zero.false c.all_zero.ensures) _ c.nth.ensures
