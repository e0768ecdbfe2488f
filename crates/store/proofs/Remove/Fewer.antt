-- One row fewer, on pages: j is the depth of the shallowest prefix of the row's hash whose other rows fit. All pages of that prefix are cleared but one, which
-- takes the rows left, if there are any; the pages then show the rows without it.
-- Assumes nothing.
use mathlib.Core.Path.{◌≡◌, refl, sym, ap, subst, subst₂, ◌∙◌}
use mathlib.Core.Bool.{Bool, true, false, true≢false}
use mathlib.Core.List.{List, ◌∷◌, map, Memᴰ}
use mathlib.Core.Logic.{◌⊎◌, inl, inr, ◌≢◌, ◌↔◌}
use Prim.Native.Nat.{ℕ, ◌^◌, ◌≤◌, ◌<◌}
use native.Mathlib.Decide.{ℕ_discrete}
use native.Mathlib.Nat.{add-zero, div-one}
use native.Mathlib.Omega.{arith}
use lib.ListN.{get_or}
use Rattle.ground.proofs.Sides.{side}
use Rattle.page.specs.Page.{Record}
use Rattle.partition.specs.Bits.{top}
use Rattle.partition.specs.declared.Shape.{Shape}
use Rattle.partition.specs.Partition.{Row, needs, rows_of, IsBucket}
use Rattle.partition.specs.Listing.{in_order}
use Rattle.partition.proofs.Bits.{top_step}
use Rattle.partition.proofs.Frame.{dec_under}
use Rattle.partition.proofs.Laws.{Shallowest, outside, inside}
use Rattle.partition.proofs.Members.{absent}
use Rattle.partition.proofs.Path.{fit_above}
use Rattle.partition.proofs.Rows.{load, load_mono, load_on, to_load}
use Rattle.partition.proofs.Store.{fine_drop, outside_rows}
use Rattle.partition.proofs.Tree.{Under}
use Rattle.store.specs.Pages.{Page, free, bucket, as_row}
use Rattle.store.specs.Moves.{pick, within}
use Rattle.store.proofs.Showing.Shows.{prefix_on, OnPage, Holding, Shows}
use Rattle.store.proofs.Showing.Shown.{free_not, page_row, shows_of, paged}
use Rattle.store.proofs.Showing.Rooms.{bucket_one}
use Rattle.store.proofs.Put.PutKept.{Kept, same_prefix}
use Rattle.store.proofs.Showing.Within.{within_under}

not_true : (b : Bool) → (b ≡ true → ⊥) → b ≡ false
not_true true n = absurd (n refl)
not_true false n = refl

module _ (S : Shape) (h : List ℕ → ℕ) where
  module _ (small : (c : List ℕ) → h c < 2 ^ 32) (r : Row) (W : List Row) (gs : List Page) (s : Shows S h (r ∷ W) gs) (j : ℕ) (f : Shallowest S h W (h r.code) j) where
    abbrev x : ℕ
    x = h r.code

    -- a bucket that holds the row's hash is at least so deep
    pub at_least : (k : ℕ) → IsBucket S h (r ∷ W) k (top k x) → j ≤ k
    at_least k b = go (side k j)
      where
        go : (k < j) ⊎ (j ≤ k) → j ≤ k
        go (inr l) = l
        go (inl l) = absurd (omega (arith, fit_above (λ i. top i x) (top_step x) S.capacity (load h W) (load_mono h W) j k f l, load_on h r W k, b.fit))

    below : (i k : ℕ) (rs : List Record) → Holding gs i k rs → (within h j (top j x) (bucket k rs) ≡ true) ↔ Under j (top j x) k (prefix_on h k rs)
    below = within_under S h (r ∷ W) gs s x j at_least

    -- the one page that the prefix has then
    pub data Left : Page → Type 0 where
      cleared : needs (rows_of h W j (top j x)) ≡ 0 → Left free
      filled : (rs : List Record) → OnPage S h W j rs → prefix_on h j rs ≡ top j x → Left (bucket j rs)

    -- the pages afterwards: page m, the lowest of the prefix, is that one, of the others those of the prefix are free
    pub record Fewer (m : ℕ) (hs : List Page) : Type 0 where
      pub was : within h j (top j x) (get_or gs m free) ≡ true
      pub lowest : (i : ℕ) → within h j (top j x) (get_or gs i free) ≡ true → m ≤ i
      pub left : Left (get_or hs m free)
      pub others : (i : ℕ) → i ≢ m → get_or hs i free ≡ pick (within h j (top j x) (get_or gs i free)) free (get_or gs i free)

    module _ (m : ℕ) (hs : List Page) (w : Fewer m hs) where
      -- a page then
      data Now (i k : ℕ) (rs : List Record) : Type 0 where
        the_one : i ≡ m → k ≡ j → OnPage S h W k rs → prefix_on h k rs ≡ top j x → Now i k rs
        same : i ≢ m → Holding gs i k rs → (Under j (top j x) k (prefix_on h k rs) → ⊥) → Now i k rs

      now : (i k : ℕ) (rs : List Record) → Holding hs i k rs → Now i k rs
      now i k rs e = go (ℕ_discrete i m)
        where
          one : (g : Page) → Left g → g ≡ bucket k rs → i ≡ m → Now i k rs
          one free (cleared z) y q = absurd (free_not y)
          one (bucket _ qs) (filled _ o p) y q =
              let a : j ≡ k = cc in
              let b : qs ≡ rs = cc in
              the_one q (sym a) (subst (λ n. OnPage S h W n rs) a (subst (OnPage S h W j) b o)) (ap (λ n. prefix_on h n rs) (sym a) ∙ ap (prefix_on h j) (sym b) ∙ p)

          other : (b : Bool) → within h j (top j x) (get_or gs i free) ≡ b → pick b free (get_or gs i free) ≡ bucket k rs → i ≢ m → Now i k rs
          other true t y n = absurd (free_not y)
          other false t y n = same n y (λ u. true≢false (sym (sym t ∙ ap (within h j (top j x)) y ∙ (below i k rs y).1 u)))

          go : Dec (i ≡ m) → Now i k rs
          go (yes q) = one (get_or hs m free) w.left (subst (λ n. Holding hs n k rs) q e) q
          go (no n) = other (within h j (top j x) (get_or gs i free)) refl (sym (w.others i n) ∙ e) n

      self : Under j (top j x) j (top j x)
      self = record { more = 0; deep = sym (add-zero j); cut = div-one (top j x) }

      -- what is outside the prefix stays a page
      stays : (k : ℕ) (rs : List Record) → (Under j (top j x) k (prefix_on h k rs) → ⊥) → OnPage S h (r ∷ W) k rs → OnPage S h W k rs
      stays k rs n o = record {
        some = o.some;
        is = (outside S h r W j f k (prefix_on h k rs) n).1 o.is;
        ordered = o.ordered ∙ ap in_order (outside_rows S h small r W j f k (prefix_on h k rs) n o.is);
      }

      page : (i k : ℕ) (rs : List Record) → Now i k rs → OnPage S h W k rs
      page i k rs (the_one _ _ o _) = o
      page i k rs (same _ e n) = stays k rs n (s.page i k rs e)

      apart : (i i' k : ℕ) (rs qs : List Record) → prefix_on h k rs ≡ prefix_on h k qs → Now i k rs → Now i' k qs → i ≡ i'
      apart i i' k rs qs e (the_one a _ _ _) (the_one b _ _ _) = a ∙ sym b
      apart i i' k rs qs e (the_one _ a _ p) (same _ _ n) = absurd (n (subst (λ d. Under j (top j x) d (prefix_on h k qs)) (sym a) (subst (λ v. Under j (top j x) j v) (sym p ∙ e) self)))
      apart i i' k rs qs e (same _ _ n) (the_one _ a _ p) = absurd (n (subst (λ d. Under j (top j x) d (prefix_on h k rs)) (sym a) (subst (λ v. Under j (top j x) j v) (sym p ∙ sym e) self)))
      apart i i' k rs qs e (same _ a _) (same _ b _) = s.apart i i' k rs qs a b e

      all : (k v : ℕ) → IsBucket S h W k v → (i : ℕ) × (rs : List Record) × Holding hs i k rs × (prefix_on h k rs ≡ v)
      all k v b = go (dec_under j (top j x) k v)
        where
          here : (k ≡ j) × (v ≡ top j x) → (g : Page) → get_or hs m free ≡ g → Left g → (i : ℕ) × (rs : List Record) × Holding hs i k rs × (prefix_on h k rs ≡ v)
          here q free e (cleared z) = absurd (omega (arith, z, subst₂ (λ d n. 0 < load h W d n) q.0 q.1 (to_load S h W k v b).pos))
          here q (bucket _ rs) e (filled _ o p) = (m, rs, subst (λ d. Holding hs m d rs) (sym q.0) e, ap (λ d. prefix_on h d rs) q.0 ∙ p ∙ sym q.1)

          go : Dec (Under j (top j x) k v) → (i : ℕ) × (rs : List Record) × Holding hs i k rs × (prefix_on h k rs ≡ v)
          go (yes u) = here (inside S h r W j f k v u b) (get_or hs m free) refl w.left
          go (no n) =
              let t = paged S h (r ∷ W) gs s k v ((outside S h r W j f k v n).0 b) in
              let out : within h j (top j x) (bucket k t.1) ≡ true → ⊥ = λ y. n (subst (Under j (top j x) k) t.3 ((below t.0 k t.1 t.2).0 y)) in
              let far : t.0 ≢ m = λ q. out (ap (within h j (top j x)) (sym t.2) ∙ ap (λ d. within h j (top j x) (get_or gs d free)) q ∙ w.was) in
              (t.0, t.1, w.others t.0 far ∙ ap (λ g. pick (within h j (top j x) g) free g) t.2 ∙ ap (λ y. pick y free (bucket k t.1)) (not_true (within h j (top j x) (bucket k t.1)) out), t.3)

      pub fewer_shows : Shows S h W hs
      fewer_shows = shows_of S h W hs s.once.1 (fine_drop S h r W s.fine) record {
        page = λ i k rs e. (page i k rs (now i k rs e), tt);
        apart = λ i i' k rs qs a b e. apart i i' k rs qs e (now i k rs a) (now i' k qs b);
        all = λ k v b _. all k v b;
      }

      -- a bucket whose depth and rows come out the same keeps its page and its records
      pub fewer_kept : Kept gs hs
      fewer_kept p q k rs qs a b e = go (now q k qs b)
        where
          v : prefix_on h k rs ≡ prefix_on h k qs
          v = same_prefix h k rs qs e

          go : Now q k qs → (p ≡ q) × (rs ≡ qs)
          go (same _ c _) = let z : p ≡ q = s.apart p q k rs qs a c v in (z, (bucket_one (sym a ∙ subst (λ i. Holding gs i k qs) (sym z) c)).1)
          go (the_one _ d o t) =
              let u : top k x ≡ prefix_on h k rs = ap (λ i. top i x) d ∙ sym t ∙ sym v in
              let l : Memᴰ r (map as_row rs) = (page_row S h (r ∷ W) k rs (s.page p k rs a) r).1 (mathlib.Core.List.Memᴰ.head refl, u) in
              absurd (absent W r.code s.once.0 r ((page_row S h W k qs o r).0 (subst (λ y. Memᴰ r y) e l)).0 refl)
