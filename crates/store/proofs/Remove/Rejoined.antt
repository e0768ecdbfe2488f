-- The pages of a remove, on lists of pages: what is left of the code's prefix is on the lowest of its pages, and the others are free.
-- Assumes nothing.
use mathlib.Core.Path.{◌≡◌, refl, sym, ap, ap₂, subst, subst₂, ◌∙◌}
use mathlib.Core.Bool.{Bool, true, false, true≢false}
use mathlib.Core.List.{List, ◌∷◌}
use mathlib.Core.Logic.{◌≢◌}
use mathlib.Core.Option.{some}
use Prim.Native.Nat.{ℕ, ◌-◌, ◌/◌, ◌^◌, ◌≤◌, ◌<◌}
use native.Mathlib.Decide.{ℕ_discrete}
use native.Mathlib.Omega.{arith}
use lib.ListN.{get_or}
use Rattle.page.specs.Page.{Record}
use Rattle.partition.specs.Bits.{top}
use Rattle.partition.specs.declared.Shape.{Shape}
use Rattle.partition.specs.Partition.{Row, Prefix}
use Rattle.partition.specs.Listing.{place_of}
use Rattle.partition.proofs.Laws.{Shallowest}
use Rattle.partition.proofs.Tree.{Under, pfx}
use Rattle.store.specs.Pages.{Page, free, bucket}
use Rattle.store.specs.Moves.{pick, find, within, holds, removed}
use Rattle.store.specs.Choice.{Of, Begins}
use Rattle.store.proofs.Showing.Shows.{prefix_on, Holding, Shows}
use Rattle.store.proofs.Showing.Shown.{free_not, find_only}
use Rattle.store.proofs.Showing.Rooms.{bucket_one}
use Rattle.store.proofs.Showing.Within.{within_under}
use Rattle.store.proofs.Remove.Fewer.{at_least, Left, cleared, filled, Fewer}
use Rattle.store.proofs.Remove.RemoveShows.{its_within, front, depth, made}
use Rattle.store.proofs.Put.Chosen.{Has}

-- what a remove of the code c makes of the pages gs
pub record Rejoined (h : List ℕ → ℕ) (c : List ℕ) (gs hs : List Page) : Type 0 where
  pub joined : (i : ℕ) (x : Prefix) → Has h hs i x → Of h c x
      → ((y : Prefix) × Has h gs i y × Begins x y) × ((k : ℕ) (y : Prefix) → Has h gs k y → Begins x y → (i ≤ k) × (k ≢ i → get_or hs k free ≡ free))
  pub emptied : ((i : ℕ) (x : Prefix) → Has h hs i x → Of h c x → ⊥) → (i : ℕ) (x : Prefix) → Has h gs i x → Of h c x → get_or hs i free ≡ free

module _ (S : Shape) (h : List ℕ → ℕ) (small : (c : List ℕ) → h c < 2 ^ 32) (r : Row) (W : List Row) (gs : List Page) (s : Shows S h (r ∷ W) gs)
    (j : ℕ) (f : Shallowest S h W (h r.code) j) (m : ℕ) (hs : List Page) (w : Fewer S h small r W gs s j f m hs) where
  abbrev x : ℕ
  x = h r.code

  abbrev here : ℕ
  here = find (holds h x) gs

  abbrev in_prefix : Page → Bool
  in_prefix g = within h j (top j x) g

  was_here : (i : ℕ) (p : Prefix) → Has h gs i p → Of h r.code p → here ≡ i
  was_here i p u o = find_only S h (r ∷ W) gs s x i p.bits u.0 u.1 (u.2 ∙ sym o)

  gone : (i : ℕ) → i ≢ m → in_prefix (get_or gs i free) ≡ true → get_or hs i free ≡ free
  gone i n t = w.others i n ∙ ap (λ b. pick b free (get_or gs i free)) t

  its : in_prefix (get_or gs here free) ≡ true
  its = its_within S h small r W gs s j f

  -- the page that has a prefix of the hash then
  is_m : (i : ℕ) (p : Prefix) → Has h hs i p → Of h r.code p → i ≡ m
  is_m i p u o = go (ℕ_discrete i m)
    where
      other : i ≢ m → (b : Bool) → in_prefix (get_or gs i free) ≡ b → ⊥
      other n true t = free_not (sym (gone i n t) ∙ u.1)
      other n false t =
          let q = was_here i p (u.0, sym (w.others i n ∙ ap (λ b. pick b free (get_or gs i free)) t) ∙ u.1, u.2) o in
          true≢false (sym its ∙ ap (λ k. in_prefix (get_or gs k free)) q ∙ t)

      go : Dec (i ≡ m) → i ≡ m
      go (yes q) = q
      go (no n) = absurd (other n (in_prefix (get_or gs i free)) refl)

  its_prefix : (p : Prefix) → Has h hs m p → p ≡ pfx j (top j x)
  its_prefix p u = go (get_or hs m free) w.left u.1
    where
      go : (g : Page) → Left S h small r W gs s j f g → g ≡ bucket p.bits u.0 → p ≡ pfx j (top j x)
      go free (cleared z) e = absurd (free_not e)
      go (bucket _ rs) (filled _ o q) e =
          let b = bucket_one e in
          ap₂ pfx (sym b.0) (sym u.2 ∙ ap₂ (λ n l. prefix_on h n l) (sym b.0) (sym b.1) ∙ q)

  below : (i k : ℕ) (rs : List Record) → Holding gs i k rs → (in_prefix (bucket k rs) ≡ true → Under j (top j x) k (prefix_on h k rs)) × (Under j (top j x) k (prefix_on h k rs) → in_prefix (bucket k rs) ≡ true)
  below i k rs e = within_under S h (r ∷ W) gs s x j (at_least S h small r W gs s j f) i k rs e

  -- m was of the prefix
  was_in : (y : Prefix) × Has h gs m y × Begins (pfx j (top j x)) y
  was_in = go (get_or gs m free) refl w.was
    where
      go : (g : Page) → get_or gs m free ≡ g → in_prefix g ≡ true → (y : Prefix) × Has h gs m y × Begins (pfx j (top j x)) y
      go free e t = absurd (true≢false (sym t))
      go (bucket k rs) e t =
          let u = (below m k rs e).0 t in
          let q : k - j ≡ u.more = omega (arith, u.deep) in
          (pfx k (prefix_on h k rs), (rs, e, refl), record { longer = omega (arith, u.deep); same = ap (λ n. prefix_on h k rs / 2 ^ n) q ∙ u.cut })

  of_prefix : (k : ℕ) (y : Prefix) → Has h gs k y → Begins (pfx j (top j x)) y → in_prefix (get_or gs k free) ≡ true
  of_prefix k y v b = ap in_prefix v.1 ∙ (below k y.bits v.0 v.1).1 (record {
    more = y.bits - j;
    deep = omega (arith, b.longer);
    cut = ap (λ n. n / 2 ^ (y.bits - j)) v.2 ∙ b.same;
  })

  pub rejoins : Rejoined h r.code gs hs
  rejoins = record {
    joined = λ i p u o. let q = is_m i p u o in
        subst₂ (λ n a. ((y : Prefix) × Has h gs n y × Begins a y) × ((k : ℕ) (y : Prefix) → Has h gs k y → Begins a y → (n ≤ k) × (k ≢ n → get_or hs k free ≡ free))) (sym q)
        (sym (its_prefix p (subst (λ n. Has h hs n p) q u)))
        (was_in, λ k y v b. (w.lowest k (of_prefix k y v b), λ n. gone k n (of_prefix k y v b)));
    emptied = λ no_one i p u o. subst (λ n. get_or hs n free ≡ free) (was_here i p u o) (no_page no_one (ℕ_discrete here m));
  }
    where
      left : ((i : ℕ) (p : Prefix) → Has h hs i p → Of h r.code p → ⊥) → (g : Page) → get_or hs m free ≡ g → Left S h small r W gs s j f g → get_or hs m free ≡ free
      left no_one free e (cleared z) = e
      left no_one (bucket _ rs) e (filled _ o q) = absurd (no_one m (pfx j (top j x)) (rs, e, q) refl)

      no_page : ((i : ℕ) (p : Prefix) → Has h hs i p → Of h r.code p → ⊥) → Dec (here ≡ m) → get_or hs here free ≡ free
      no_page no_one (yes q) = ap (λ n. get_or hs n free) q ∙ left no_one (get_or hs m free) refl w.left
      no_page no_one (no n) = gone here n its

pub rejoined : (S : Shape) (h : List ℕ → ℕ) (small : (c : List ℕ) → h c < 2 ^ 32) (rows : List Row) (gs : List Page) (c old : List ℕ) → Shows S h rows gs → place_of rows c ≡ some old
    → Rejoined h c gs (removed S h gs c)
rejoined S h small rows gs c old s e =
    let d = depth S h small rows gs c old s e in
    let t = made S h small rows gs c old s e in
    rejoins S h small (record { code = c; place = old }) _ gs (front S h small rows gs c old s e) d.0 d.2 t.0 (removed S h gs c) t.1
