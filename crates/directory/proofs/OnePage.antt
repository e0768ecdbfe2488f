-- One bucket page written anew, its depth and prefix as they were: page 0 and the directory stay right. Over any page size. Assumes nothing.
use mathlib.Core.Path.{◌≡◌, sym, ap, subst, subst₂, ◌∙◌}
use mathlib.Core.List.{List, [], ◌∷◌}
use mathlib.Core.Logic.{◌⊎◌, inl, inr, ◌≢◌}
use Prim.Native.Nat.{ℕ, zero, suc, ◌+◌, ◌-◌, ◌*◌, ◌%◌, ◌≤◌, ◌<◌, max}
use native.Mathlib.Omega.{arith}
use native.Mathlib.Nat.{mul-le-mul_right}
use native.Mathlib.Decide.{ℕ_discrete}
use lib.ListN.{length, set}
use Rattle.ground.specs.Lists.{byte}
use Rattle.page.specs.Page.{Record, BucketPage, depth, rows}
use Rattle.partition.specs.declared.Shape.{Shape}
use Rattle.store.specs.Pages.{size, pages, page, dir_depth, entry_at, Page, bucket, read, depth_on, deepest_in, set_page}
use Rattle.store.specs.Accepted.{Calls}
use Rattle.store.specs.Demands.{Sized}
use Rattle.store.proofs.Showing.Shows.{prefix_on, Holding}
use Rattle.store.proofs.Showing.Shown.{free_not, within_pages}
use Rattle.store.proofs.Showing.Rooms.{bucket_one, held_set, set_holds, set_other as other_holds}
use Rattle.store.proofs.Accepted.Unique.{read_used}
use Rattle.store.proofs.Accepted.Named.{Entry, nothing, names}
use Rattle.store.proofs.Accepted.Accepting.{Whole, Laid, head_kept}
use Rattle.store.proofs.Paging.Views.{set_long, set_pages, set_same, set_other, set_below, set_depth, set_entry, set_contents}

-- a page of the same depth leaves the largest depth
pub deepest_set : (gs : List Page) (i k : ℕ) (rs qs : List Record) → Holding gs i k rs → deepest_in (set gs i (bucket k qs)) ≡ deepest_in gs
unfolding deepest_in
deepest_set [] i k rs qs e = absurd (free_not e)
deepest_set (g ∷ gs) zero k rs qs e = ap (λ x. max (depth_on x) (deepest_in gs)) (sym e)
deepest_set (g ∷ gs) (suc i) k rs qs e = ap (max (depth_on g)) (deepest_set gs i k rs qs e)

module _ (S : Shape) (h : List ℕ → ℕ) (sized : Sized S) (s : List ℕ) (gs : List Page) (L : Laid S h s gs) (p k : ℕ) (rs : List Record) (two : 2 ≤ p) (to : p < pages S s)
    (g : Holding gs (p - 2) k rs) (q : List ℕ) (Q : BucketPage q) (long : length q ≡ size S) (deep : depth q ≡ k) (begins : prefix_on h k (rows q) ≡ prefix_on h k rs) where
  abbrev t : List ℕ
  t = set_page S s p q

  abbrev fs : List Page
  fs = set gs (p - 2) (bucket k (rows q))

  there : p - 2 < length gs
  there = within_pages gs (p - 2) k rs g

  -- the prefix of a page as it is held now
  its : (l : ℕ) (qs : List Record) → bucket k (rows q) ≡ bucket l qs → (l ≡ k) × (prefix_on h l qs ≡ prefix_on h k rs)
  its l qs e = let w = bucket_one e in (sym w.0, ap (λ m. prefix_on h m qs) (sym w.0) ∙ ap (prefix_on h k) (sym w.1) ∙ begins)

  entry_set : (d n e : ℕ) → 4 * e + 4 ≤ size S → Entry S h s gs d n e → Entry S h t fs d n e
  entry_set d n e z (nothing x f) = nothing (set_entry S s p q to long two e z ∙ x) (λ i l qs b y c. go i l qs b c (held_set gs (p - 2) (bucket k (rows q)) there i l qs y))
    where
      go : (i l : ℕ) (qs : List Record) → i < n → Calls d l (prefix_on h l qs) e → ((i ≡ p - 2) × (bucket k (rows q) ≡ bucket l qs)) ⊎ ((i ≢ p - 2) × Holding gs i l qs) → ⊥
      go i l qs b c (inl x) = let w = its l qs x.1 in f (p - 2) k rs (subst (λ m. m < n) x.0 b) g (subst₂ (λ m v. Calls d m v e) w.0 w.1 c)
      go i l qs b c (inr x) = f i l qs b x.1 c
  entry_set d n e z (names i l qs b m x c) = go (ℕ_discrete i (p - 2))
    where
      m' : entry_at S t e ≡ i + 2
      m' = set_entry S s p q to long two e z ∙ m

      go : Dec (i ≡ p - 2) → Entry S h t fs d n e
      go (no ne) = names i l qs b m' (other_holds gs (p - 2) (bucket k (rows q)) i l qs ne x) c
      go (yes w) =
          let y = bucket_one (sym (subst (λ j. Holding gs j l qs) w x) ∙ g) in
          let v : prefix_on h l qs ≡ prefix_on h k (rows q) = ap (λ j. prefix_on h j qs) y.0 ∙ ap (prefix_on h k) y.1 ∙ sym begins in
          names (p - 2) k (rows q) (subst (λ j. j < n) w b) (m' ∙ ap (λ j. j + 2) w) (set_holds gs (p - 2) k (rows q) there) (subst₂ (λ j u. Calls d j u e) y.0 v c)

  pub laid_set : Laid S h t fs
  laid_set = record {
    long = record { whole = ap (λ n. n % size S) lens ∙ L.long.whole; least = subst (λ n. 3 ≤ n) (sym many) L.long.least; most = subst (λ n. n ≤ S.entries + 2) (sym many) L.long.most };
    head = head_kept S sized s t lens (λ i l. below i (omega (arith, least))) (λ i a l. below i (omega (arith, least))) L.head;
    deep = same_depth ∙ L.deep ∙ sym (deepest_set gs (p - 2) k rs (rows q) g);
    each = λ x a b. each x a b (ℕ_discrete x p);
    holds = set_contents S s p q to long two ∙ (λ i. set (L.holds i) (p - 2) (read_now i));
    entry = λ e l. subst₂ (λ d n. Entry S h t fs d n e) (sym same_depth) (ap (λ n. n - 2) (sym many)) (entry_set (dir_depth s) (pages S s - 2) e (omega (arith, sized.whole)) (L.entry e l));
  }
    where
      lens : length t ≡ length s
      lens = set_long S s p q to long

      many : pages S t ≡ pages S s
      many = set_pages S s p q to long

      least : 2 * size S ≤ p * size S
      least = mul-le-mul_right (size S) two

      below : (i : ℕ) → i < p * size S → byte t i ≡ byte s i
      below i l = set_below S s p q to long i l

      same_depth : dir_depth t ≡ dir_depth s
      same_depth = set_depth S s p q to long two (omega (arith, sized.least))

      read_now : read q ≡ bucket k (rows q)
      read_now = read_used q Q ∙ ap (λ m. bucket m (rows q)) deep

      each : (x : ℕ) → 2 ≤ x → x < pages S t → Dec (x ≡ p) → Whole (page S t x)
      each x a b (yes e) = inr (subst BucketPage (sym (ap (page S t) e ∙ set_same S s p q to long)) Q)
      each x a b (no n) = subst Whole (sym (set_other S s p q to long x n)) (L.each x a (subst (λ m. x < m) many b))
