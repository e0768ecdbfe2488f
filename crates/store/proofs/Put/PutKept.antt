-- PUT of a new code: a bucket whose depth and rows come out the same keeps its page and its records.
-- Assumes nothing.
use mathlib.Core.Path.{◌≡◌, refl, sym, ap, subst, ◌∙◌}
use mathlib.Core.List.{List, [], ◌∷◌, map, Memᴰ, nil≢cons, head-eq_of_cons-eq}
use mathlib.Core.Option.{none}
use Prim.Native.Nat.{ℕ, ◌^◌, ◌≤◌, ◌<◌}
use native.Mathlib.Decide.{ℕ_discrete}
use lib.ListN.{length}
use Rattle.page.specs.Page.{Record}
use Rattle.partition.specs.Bits.{top}
use Rattle.partition.specs.declared.Shape.{Shape}
use Rattle.partition.specs.Partition.{Row, needs, rows_of, buckets}
use Rattle.partition.specs.Listing.{place_of}
use Rattle.partition.proofs.Members.{absent}
use Rattle.store.specs.Pages.{Page, as_row}
use Rattle.store.specs.Moves.{put_new}
use Rattle.store.proofs.Showing.Shows.{prefix_on, Holding, Shows}
use Rattle.store.proofs.Showing.Shown.{page_row}
use Rattle.store.proofs.Showing.Rooms.{bucket_one}
use Rattle.store.proofs.Put.PutShows.{puts}

-- from the pages gs to the pages hs a bucket whose depth and rows come out the same keeps its page and its records
abbrev pub Kept : List Page → List Page → Type 0
Kept gs hs = (p q k : ℕ) (rs qs : List Record) → Holding gs p k rs → Holding hs q k qs → map as_row rs ≡ map as_row qs → (p ≡ q) × (rs ≡ qs)

-- pages with the same rows have the same prefix
pub same_prefix : (h : List ℕ → ℕ) (k : ℕ) (rs qs : List Record) → map as_row rs ≡ map as_row qs → prefix_on h k rs ≡ prefix_on h k qs
same_prefix h k [] [] e = refl
same_prefix h k [] (q ∷ qs) e = absurd (nil≢cons e)
same_prefix h k (r ∷ rs) [] e = absurd (nil≢cons (sym e))
same_prefix h k (r ∷ rs) (q ∷ qs) e = ap (λ y. top k (h y.code)) (head-eq_of_cons-eq e)

pub put_kept : (S : Shape) (h : List ℕ → ℕ) → ((c : List ℕ) → h c < 2 ^ 32) → (rows : List Row) (r : Row) (gs : List Page) → Shows S h rows gs → place_of rows r.code ≡ none
    → needs (rows_of h (r ∷ rows) S.deepest (top S.deepest (h r.code))) ≤ S.capacity → length (buckets S h (r ∷ rows)) ≤ length gs
    → Kept gs (put_new S h gs r)
put_kept S h small rows r gs s new six seven p q k rs qs a b e = go (ℕ_discrete (prefix_on h k rs) (top k (h r.code)))
  where
    made : Rattle.store.proofs.Put.PutShows.Puts S h small rows r gs (put_new S h gs r)
    made = puts S h small rows r gs s new six seven

    v : prefix_on h k rs ≡ prefix_on h k qs
    v = same_prefix h k rs qs e

    go : Dec (prefix_on h k rs ≡ top k (h r.code)) → (p ≡ q) × (rs ≡ qs)
    go (yes t) =
        let m : Memᴰ r (map as_row qs) = (page_row S h (r ∷ rows) k qs (made.part.page q k qs b).0 r).1 (mathlib.Core.List.Memᴰ.head refl, sym t ∙ v) in
        absurd (absent rows r.code new r ((page_row S h rows k rs (s.page p k rs a) r).0 (subst (λ l. Memᴰ r l) (sym e) m)).0 refl)
    go (no n) =
        let c : Holding (put_new S h gs r) p k rs = made.keeps p k rs a n in
        let z : p ≡ q = made.part.apart p q k rs qs c b v in
        (z, (bucket_one (sym c ∙ subst (λ i. Holding (put_new S h gs r) i k qs) (sym z) b)).1)
