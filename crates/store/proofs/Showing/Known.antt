-- The page of a known code: the one that is found for its hash, and no other page has the code.
-- Assumes nothing.
use mathlib.Core.Path.{◌≡◌, sym, subst}
use mathlib.Core.List.{List, map, Memᴰ}
use mathlib.Core.Option.{some}
use Prim.Native.Nat.{ℕ}
use Rattle.page.specs.Page.{Record}
use Rattle.partition.specs.Bits.{top}
use Rattle.partition.specs.declared.Shape.{Shape}
use Rattle.partition.specs.Partition.{Row}
use Rattle.partition.specs.Listing.{place_of}
use Rattle.partition.proofs.Maps.{found}
use Rattle.store.specs.Pages.{Page, as_row}
use Rattle.store.specs.Moves.{find, holds}
use Rattle.store.proofs.Showing.Shows.{prefix_on, Holding, Shows}
use Rattle.store.proofs.Showing.Shown.{page_row, some_page, find_only}

module _ (S : Shape) (h : List ℕ → ℕ) (rows : List Row) (gs : List Page) (s : Shows S h rows gs) where
  -- a page that has a row of the code is the one found
  pub only_page : (i k : ℕ) (rs : List Record) → Holding gs i k rs → (q : Row) → Memᴰ q (map as_row rs) → find (holds h (h q.code)) gs ≡ i
  only_page i k rs e q m = find_only S h rows gs s (h q.code) i k rs e (sym ((page_row S h rows k rs (s.page i k rs e) q).0 m).1)

  pub record Known (c old : List ℕ) : Type 0 where
    pub depth : ℕ
    pub records : List Record
    pub there : Holding gs (find (holds h (h c)) gs) depth records
    pub begins : prefix_on h depth records ≡ top depth (h c)
    pub has : Memᴰ (record { code = c; place = old }) (map as_row records)

  pub known : (c old : List ℕ) → place_of rows c ≡ some old → Known c old
  known c old e =
      let w = some_page S h rows gs s (record { code = c; place = old }) (found c old rows e) in
      record {
        depth = w.1;
        records = w.2;
        there = subst (λ i. Holding gs i w.1 w.2) (sym (only_page w.0 w.1 w.2 w.3 (record { code = c; place = old }) w.4)) w.3;
        begins = sym ((page_row S h rows w.1 w.2 (s.page w.0 w.1 w.2 w.3) (record { code = c; place = old })).0 w.4).1;
        has = w.4;
      }
