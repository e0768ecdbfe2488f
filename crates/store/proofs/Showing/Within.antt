-- The pages of a prefix that is no longer than that of the hash's bucket: those at or below it. They have its rows.
-- Assumes nothing.
use mathlib.Core.Path.{◌≡◌, refl, sym, ap, ap₂, subst, ◌∙◌}
use mathlib.Core.Bool.{Bool, true, false, true≢false}
use mathlib.Core.List.Memᴰ
use mathlib.Core.List.{List, [], ◌∷◌, ◌++◌, map, flat_map}
use mathlib.Core.Logic.{◌⊎◌, inl, inr, ◌↔◌}
use Prim.Native.Nat.{ℕ, suc, ◌/◌, ◌^◌, ◌≤◌, ◌<◌}
use native.Mathlib.Omega.{arith}
use lib.ListN.{get_or}
use Rattle.ground.proofs.Sides.{side}
use Rattle.page.specs.Page.{Record}
use Rattle.partition.specs.Bits.{top}
use Rattle.partition.specs.declared.Shape.{Shape}
use Rattle.partition.specs.Partition.{Row, rows_of, IsBucket}
use Rattle.partition.proofs.Bits.{top_step}
use Rattle.partition.proofs.Laws.{share_fewer, no_overlap}
use Rattle.partition.proofs.Pages.{rows_append, rows_every, rows_none}
use Rattle.partition.proofs.Path.{path_cut, path_under}
use Rattle.partition.proofs.Tree.{Under}
use Rattle.store.specs.Pages.{Page, free, bucket, as_row, rows_on, rows_in}
use Rattle.store.specs.Moves.{pick, within}
use Rattle.store.proofs.Showing.Shows.{first_code, prefix_on, OnPage, Holding, Shows}
use Rattle.store.proofs.Showing.Shown.{page_row, within_on}

-- the pages that pass a test, the others cleared
abbrev pub only : (Page → Bool) → List Page → List Page
only f gs = map (λ g. pick (f g) g free) gs

-- rows page by page
rows_only : (h : List ℕ → ℕ) (j v : ℕ) (f : Page → Bool) (gs : List Page)
    → ((i : ℕ) → rows_of h (rows_on (get_or gs i free)) j v ≡ rows_on (pick (f (get_or gs i free)) (get_or gs i free) free)) → rows_of h (rows_in gs) j v ≡ rows_in (only f gs)
unfolding rows_in flat_map rows_of
rows_only h j v f [] e = refl
rows_only h j v f (g ∷ gs) e = rows_append h (rows_on g) (rows_in gs) j v ∙ ap₂ (λ a b. a ++ b) (e 0) (rows_only h j v f gs (λ i. e (suc i)))

module _ (S : Shape) (h : List ℕ → ℕ) where
  -- no other bucket holds the hash of one
  pub one_depth : (rows : List Row) (x j k : ℕ) → IsBucket S h rows k (top k x) → j ≤ k → (i : ℕ) → IsBucket S h rows i (top i x) → j ≤ i
  one_depth rows x j k b l i c = let e = no_overlap S h rows i (top i x) k (top k x) x c b refl refl in omega (arith, e.0)

  module _ (rows : List Row) (gs : List Page) (s : Shows S h rows gs) (x j : ℕ) (deep : (k : ℕ) → IsBucket S h rows k (top k x) → j ≤ k) where
    abbrev v : ℕ
    v = top j x

    -- a page with a row of the prefix is as deep, and all its rows have the prefix
    reaches : (i k : ℕ) (rs : List Record) → Holding gs i k rs → (y : ℕ) → top k y ≡ prefix_on h k rs → top j y ≡ v → j ≤ k
    reaches i k rs e y p z = go (side k j)
      where
        go : (k < j) ⊎ (j ≤ k) → j ≤ k
        go (inr l) = l
        go (inl l) = deep k (subst (λ n. IsBucket S h rows k n) (sym p ∙ share_fewer y x k j (omega arith) z) (s.page i k rs e).is)

    -- the pages of the prefix are those at or below it
    pub within_under : (i k : ℕ) (rs : List Record) → Holding gs i k rs → (within h j v (bucket k rs) ≡ true) ↔ Under j v k (prefix_on h k rs)
    within_under i k rs e = (there, back)
      where
        o : OnPage S h rows k rs
        o = s.page i k rs e

        y : ℕ
        y = h (first_code rs)

        there : within h j v (bucket k rs) ≡ true → Under j v k (prefix_on h k rs)
        there t =
            let z : top j y ≡ v = (within_on h j v k rs o.some).0 t in
            subst (λ n. Under j n k (top k y)) z (path_under (λ n. top n y) (top_step y) j k (reaches i k rs e y refl z))

        back : Under j v k (prefix_on h k rs) → within h j v (bucket k rs) ≡ true
        back u = (within_on h j v k rs o.some).1 (sym (path_cut (λ n. top n y) (top_step y) u.more j) ∙ ap (λ n. top n y / 2 ^ u.more) (sym u.deep) ∙ u.cut)

    page_within : (i : ℕ) → rows_of h (rows_on (get_or gs i free)) j v ≡ rows_on (pick (within h j v (get_or gs i free)) (get_or gs i free) free)
    page_within i = go (get_or gs i free) refl
      where
        one : (k : ℕ) (rs : List Record) → Holding gs i k rs → (b : Bool) → within h j v (bucket k rs) ≡ b → rows_of h (map as_row rs) j v ≡ rows_on (pick b (bucket k rs) free)
        one k rs e true t =
            let z : prefix_on h j rs ≡ v = (within_on h j v k rs (s.page i k rs e).some).0 t in
            rows_every h (map as_row rs) j v (λ q m. share_fewer (h q.code) (h (first_code rs)) j k (reaches i k rs e (h (first_code rs)) refl z) ((page_row S h rows k rs (s.page i k rs e) q).0 m).1 ∙ z)
        one k rs e false t = rows_none h (map as_row rs) j v (λ q m y.
            let p : top k (h q.code) ≡ prefix_on h k rs = ((page_row S h rows k rs (s.page i k rs e) q).0 m).1 in
            let z : prefix_on h j rs ≡ v = sym (share_fewer (h q.code) (h (first_code rs)) j k (reaches i k rs e (h q.code) p y) p) ∙ y in
            true≢false (sym ((within_on h j v k rs (s.page i k rs e).some).1 z) ∙ t))

        go : (g : Page) → get_or gs i free ≡ g → rows_of h (rows_on g) j v ≡ rows_on (pick (within h j v g) g free)
        go free e = rows_every h [] j v (λ q m. absurd (Memᴰ.not-nil m))
        go (bucket k rs) e = one k rs e (within h j v (bucket k rs)) refl

    -- the rows of the prefix, page by page
    pub rows_within : rows_of h (rows_in gs) j v ≡ rows_in (only (within h j v) gs)
    rows_within = rows_only h j v (within h j v) gs page_within
