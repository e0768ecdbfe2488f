-- By where the code stands and the mode.
use Rattle.std.proofs.Common.{◌≡◌, ℕ, List, map, sym, subst, ◌∙◌, arith}
use mathlib.Core.Option.{some, none}
use Rattle.std.specs.Prelude.{Ok, Err}
use Rattle.ground.specs.Ladder.{Answers}
use Rattle.hash.specs.Fnv.{fnv, fnv_lt}
use Rattle.page.specs.Found.{FoundIn}
use Rattle.page.specs.Page.{Slotted, place, rows}
use Rattle.partition.specs.Bits.{top}
use Rattle.partition.specs.declared.Shape.{Shape}
use Rattle.partition.specs.Listing.{place_of}
use Rattle.store.specs.Pages.{page, dir_depth, as_row, rows_held}
use Rattle.store.specs.Tables.{put_accepted, meaning}
use Rattle.store.proofs.Accepted.Reading.{Naming}
use Rattle.store.proofs.Demands.Modes.{is_known, is_absent, let_known, let_new}
use Rattle.store.proofs.Paging.PageTies.{found_at, found_not}
use Rattle.putting.specs.Put.{new_row, Homed}
use Rattle.putting.proofs.Puts.{home_page, home_there, placed}
use Rattle.putting.proofs.putting.put_on.Goals as goal

module _ (S : Shape) (s : List ℕ) (p : ℕ) (key pl : List ℕ) (H : Homed S fnv s p key pl) where
  home : Naming S fnv s (top (dir_depth s) (fnv key)) p
  home = home_page S fnv fnv_lt s p key pl H

  slotted : Slotted (page S s p)
  slotted = home.bytes.rules.rules

  -- the map has what the page has
  on_page : place_of (rows_held S s) key ≡ place_of (map as_row (rows (page S s p))) key
  on_page = placed S fnv H.row.sized fnv_lt s H.row.accepted key p home

  there : (i : ℕ) → FoundIn (page S s p) key (Ok i) → place_of (rows_held S s) key ≡ some (place (page S s p) i)
  there i f = on_page ∙ found_at (page S s p) slotted key i f.0 f.1

  absent : (i : ℕ) → FoundIn (page S s p) key (Err i) → place_of (rows_held S s) key ≡ none
  absent i f = on_page ∙ found_not (page S s p) slotted key i f

pub page_at-bucket-requires : goal.page_at-bucket-requires
page_at-bucket-requires c = home_there c.args.z fnv fnv_lt c.args.s.now c.args.p c.args.row.code.now c.args.row.place.now c.requires

pub find_code-requires : goal.find_code-requires
find_code-requires c = rw c.page_at-bucket.ensures (slotted _ _ _ _ _ c.requires)

pub returns-then-mode-eq1 : goal.returns-then-mode-eq1
returns-then-mode-eq1 c =
    let a = c.args in
    is_known a.z fnv a.s.now a.mode (new_row a.row.code.now a.row.place.now) _ (there _ _ _ _ _ c.requires c.in-Ok.slot (rw c.page_at-bucket.ensures at c.in-Ok.ensures)) c.if-mode-eq1.true

pub replace-requires : goal.replace-requires
replace-requires c =
    let a = c.args in
    let at = rw c.page_at-bucket.ensures at c.in-Ok.ensures in
    record { row = subst (λ x. Homed a.z fnv a.s.now a.p x a.row.place.now) (sym at.1) c.requires; slot = at.0 }

pub returns-else-mode-eq1 : goal.returns-else-mode-eq1
returns-else-mode-eq1 c =
    let a = c.args in
    let w = c.replace in
    let f = rw c.page_at-bucket.ensures at c.in-Ok.ensures in
    let_known a.z fnv a.s.now a.mode (new_row a.row.code.now a.row.place.now) _ (there _ _ _ _ _ c.requires c.in-Ok.slot f) c.if-mode-eq1.false (meaning w.result, w.new.s)
    (subst (λ x. Answers (put_accepted a.z fnv a.s.now (new_row x a.row.place.now)) (meaning w.result, w.new.s)) f.1 w.ensures)

pub returns-then-mode-eq2 : goal.returns-then-mode-eq2
returns-then-mode-eq2 c =
    let a = c.args in
    is_absent a.z fnv a.s.now a.mode (new_row a.row.code.now a.row.place.now) (absent _ _ _ _ _ c.requires c.in-Err.slot (rw c.page_at-bucket.ensures at c.in-Err.ensures)) c.if-mode-eq2.true

pub get16-requires : goal.get16-requires
get16-requires c = rw c.page_at-bucket.ensures (omega (arith, (slotted _ _ _ _ _ c.requires).least))

pub insert_fitting-requires : goal.insert_fitting-requires
insert_fitting-requires c =
    let room = rw c.page_at-bucket.ensures at c.get16.ensures.0 in
    record {
      row = c.requires;
      fits = record {
        page = slotted _ _ _ _ _ c.requires;
        belongs = rw c.page_at-bucket.ensures at c.in-Err.ensures;
        natural = c.requires.row.natural;
        good = c.requires.row.good;
        fits = omega (arith, room, c.if-row-get16.true);
      };
    }

pub returns-then-row-get16 : goal.returns-then-row-get16
returns-then-row-get16 c =
    let a = c.args in
    let w = c.insert_fitting in
    let_new a.z fnv a.s.now a.mode (new_row a.row.code.now a.row.place.now) (absent _ _ _ _ _ c.requires c.in-Err.slot (rw c.page_at-bucket.ensures at c.in-Err.ensures)) c.if-mode-eq2.false (meaning w.result, w.new.s) w.ensures

pub split_lent-requires : goal.split_lent-requires
split_lent-requires c =
    let room = rw c.page_at-bucket.ensures at c.get16.ensures.0 in
    record { row = c.requires; belongs = rw c.page_at-bucket.ensures at c.in-Err.ensures; tight = omega (arith, room, c.if-row-get16.false) }

pub returns-else-row-get16 : goal.returns-else-row-get16
returns-else-row-get16 c =
    let a = c.args in
    let w = c.split_lent in
    let_new a.z fnv a.s.now a.mode (new_row a.row.code.now a.row.place.now) (absent _ _ _ _ _ c.requires c.in-Err.slot (rw c.page_at-bucket.ensures at c.in-Err.ensures)) c.if-mode-eq2.false (meaning w.result, w.new.s) w.ensures
