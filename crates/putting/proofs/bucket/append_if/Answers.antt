-- Behind the others, or not at all.
use Rattle.std.proofs.Common.{sym, ap, subst, ◌∙◌}
use Rattle.hash.specs.Fnv.{fnv}
use Rattle.partition.specs.Bits.{top}
use Rattle.putting.proofs.Appends.{appended_none, rows_yes, rows_no}
use Rattle.putting.specs.Put.{new_row}
use Rattle.putting.specs.Split.{Behind, Appended}
use Rattle.putting.proofs.bucket.append_if.Goals as goal

pub append-requires : goal.append-requires
append-requires c =
    let a = c.args in
    let R = c.requires in
    let on = sym (c.top_bits.ensures ∙ ap (top a.k) R.hash) in
    let held = rows_yes fnv (new_row a.row.code.now a.row.place.now) a.k a.v (on ∙ c.if-top_bits-v.true) in
    record { behind = subst (Behind a.page.now) held R.behind; natural = R.natural; good = R.good }

pub returns-then-top_bits-v : goal.returns-then-top_bits-v
returns-then-top_bits-v c =
    let a = c.args in
    let on = sym (c.top_bits.ensures ∙ ap (top a.k) c.requires.hash) in
    let held = rows_yes fnv (new_row a.row.code.now a.row.place.now) a.k a.v (on ∙ c.if-top_bits-v.true) in
    subst (λ l. Appended a.page.now l c.append.new.page) (sym held) c.append.ensures

pub returns-else-top_bits-v : goal.returns-else-top_bits-v
returns-else-top_bits-v c =
    let a = c.args in
    let B = c.requires.behind in
    let on = sym (c.top_bits.ensures ∙ ap (top a.k) c.requires.hash) in
    subst (λ l. Appended a.page.now l a.page.now) (sym (rows_no fnv (new_row a.row.code.now a.row.place.now) a.k a.v (λ e. c.if-top_bits-v.false (sym on ∙ e)))) (appended_none a.page.now B.page B.packed)
