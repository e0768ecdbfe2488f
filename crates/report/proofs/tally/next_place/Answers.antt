-- `report::tally::next_place`: one step of the cursor, and the place of the row that it gives.
use Rattle.std.proofs.Common.{◌≡◌, ap, ◌∙◌}
use Rattle.page.specs.Page.{place, row_at}
use Rattle.page.specs.Places.{place_from}
use Rattle.store.specs.Pages.{page, as_row}
use Rattle.report.proofs.tally.next_place.Goals as goal

pub page_at-requires : goal.page_at-requires
page_at-requires c = (c.in_ok-spot.ensures c.requires.place c.requires.at).0.0.within

pub read_place-place-requires : goal.read_place-place-requires
read_place-place-requires c =
    let w = (c.in_ok-spot.ensures c.requires.place c.requires.at).0.0 in
    rw c.page_at.ensures (w.rules.rules, w.slot)

pub returns : goal.returns
returns c n a =
    let g = page c.args.z c.args.s.now c.in_ok-spot.spot.page in
    let i = c.in_ok-spot.spot.slot in
    let w = c.in_ok-spot.ensures n a in
    let e : c.read_place-place.result ≡ place_from (place g i) = c.read_place-place.ensures ∙ ap (λ q. place_from (place q i)) c.page_at.ensures in
    (record { row = as_row (row_at g i); there = w.0.1; is = e }, w.1)
