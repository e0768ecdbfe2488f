-- The slot's row, or none.
use Rattle.std.proofs.Common.{sym, ap, subst, ◌∙◌}
use Rattle.hash.specs.Fnv.{fnv}
use Rattle.page.proofs.Sums.{slot_code}
use Rattle.page.specs.Page.{row_at}
use Rattle.partition.specs.Bits.{top}
use Rattle.store.specs.Pages.{as_row}
use Rattle.putting.proofs.Appends.{appended_none, rows_yes, rows_no}
use Rattle.putting.specs.Split.{Behind, Appended}
use Rattle.putting.proofs.bucket.append_slot.Goals as goal

pub append-requires : goal.append-requires
append-requires c =
    let a = c.args in
    let R = c.requires in
    let on = sym (c.top_bits.ensures ∙ ap (top a.k) R.hash) in
    let held = rows_yes fnv (as_row (row_at a.from.now a.i)) a.k a.v (on ∙ c.if-top_bits-v.true) in
    rw (c.code_at-code.ensures, c.place_at-place.ensures)
    (record { behind = subst (Behind a.page.now) held R.behind; natural = R.page.places a.i R.slot; good = slot_code a.from.now a.i R.page R.slot })

pub returns-then-top_bits-v : goal.returns-then-top_bits-v
returns-then-top_bits-v c =
    let a = c.args in
    let on = sym (c.top_bits.ensures ∙ ap (top a.k) c.requires.hash) in
    let held = rows_yes fnv (as_row (row_at a.from.now a.i)) a.k a.v (on ∙ c.if-top_bits-v.true) in
    subst (λ l. Appended a.page.now l c.append.new.page) (sym held) (rw (c.code_at-code.ensures, c.place_at-place.ensures) at c.append.ensures)

pub returns-else-top_bits-v : goal.returns-else-top_bits-v
returns-else-top_bits-v c =
    let a = c.args in
    let B = c.requires.behind in
    let on = sym (c.top_bits.ensures ∙ ap (top a.k) c.requires.hash) in
    subst (λ l. Appended a.page.now l a.page.now) (sym (rows_no fnv (as_row (row_at a.from.now a.i)) a.k a.v (λ e. c.if-top_bits-v.false (sym on ∙ e)))) (appended_none a.page.now B.page B.packed)
