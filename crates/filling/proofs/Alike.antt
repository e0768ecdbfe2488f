-- Two stores that differ in the counts of page 0 only: each rule that does not speak of these bytes holds of both or of neither. Over any page size. Assumes nothing.
use mathlib.Core.Path.{◌≡◌, refl, sym, ap, subst, subst₂, ◌∙◌}
use mathlib.Core.List.{List, [], ◌∷◌, ◌++◌}
use mathlib.Core.Logic.{◌⊎◌, inl, inr, ◌↔◌}
use Prim.Native.Nat.{ℕ, zero, suc, ◌+◌, ◌-◌, ◌*◌, ◌/◌, ◌^◌, ◌≤◌, ◌<◌}
use native.Mathlib.Omega.{arith}
use Rattle.ground.specs.Lists.{byte, tab}
use Rattle.words.specs.Moves.{Frame}
use Rattle.words.proofs.Bytes.{le32_below, le32_above}
use Rattle.page.specs.Page.{depth, code}
use Rattle.partition.specs.Bits.{top}
use Rattle.partition.specs.declared.Shape.{Shape}
use Rattle.partition.specs.Partition.{rows_of, needs}
use Rattle.store.specs.Pages.{size, pages, page, dir_depth, entry_at, contents, rows_in, deepest_in}
use Rattle.store.specs.Accepted.{Zero, Bucket, Page1, Calls, Stands, unused, used, Parted, Deepest, Rule, rule, upward, in_turn, Every, Stops}
use Rattle.store.specs.Demands.{Sized}
use Rattle.store.proofs.Accepted.Rules.{stops_not}
use Rattle.store.proofs.Accepted.Accepting.{page_kept, contents_kept}

-- ---- lists of rules

-- two rules of one page that hold together
pub record Same (r q : Rule) : Type 0 where
  pub at : r.at ≡ q.at
  pub to : r.holds → q.holds
  pub from : q.holds → r.holds

-- rules in pairs, and behind them, in the second list, rules that hold
abbrev pub Like : List Rule → List Rule → Type 0
Like [] m = Every m
Like (r ∷ l) [] = ⊥
Like (r ∷ l) (q ∷ m) = Same r q × Like l m

pub stops_to : (l m : List Rule) (p : ℕ) → Like l m → Stops l p → Stops m p
stops_to [] m p k a = absurd a
stops_to (r ∷ l) [] p k a = absurd k
stops_to (r ∷ l) (q ∷ m) p k (inl a) = inl ((λ x. a.0 (k.0.from x)), a.1 ∙ k.0.at)
stops_to (r ∷ l) (q ∷ m) p k (inr a) = inr (k.0.to a.0, stops_to l m p k.1 a.1)

pub stops_from : (l m : List Rule) (p : ℕ) → Like l m → Stops m p → Stops l p
stops_from [] m p k a = absurd (stops_not m p k a)
stops_from (r ∷ l) [] p k a = absurd k
stops_from (r ∷ l) (q ∷ m) p k (inl a) = inl ((λ x. a.0 (k.0.to x)), a.1 ∙ sym k.0.at)
stops_from (r ∷ l) (q ∷ m) p k (inr a) = inr (k.0.from a.0, stops_from l m p k.1 a.1)

pub every_to : (l m : List Rule) → Like l m → Every l → Every m
every_to [] m k e = k
every_to (r ∷ l) [] k e = absurd k
every_to (r ∷ l) (q ∷ m) k e = (k.0.to e.0, every_to l m k.1 e.1)

pub every_from : (l m : List Rule) → Like l m → Every m → Every l
every_from [] m k e = tt
every_from (r ∷ l) [] k e = absurd k
every_from (r ∷ l) (q ∷ m) k e = (k.0.from e.0, every_from l m k.1 e.1)

like_tab : (f g : ℕ → Rule) (n : ℕ) (l m : List Rule) → ((i : ℕ) → i < n → Same (f i) (g i)) → Like l m → Like (tab f n ++ l) (tab g n ++ m)
unfolding tab
like_tab f g zero l m h k = k
like_tab f g (suc n) l m h k = (h zero (omega arith), like_tab (λ i. f (suc i)) (λ i. g (suc i)) n l m (λ i b. h (suc i) (omega arith)) k)

like_up : (n o : ℕ) (P Q : ℕ → Type 0) (l m : List Rule) → o ≡ n → ((p : ℕ) → 2 ≤ p → p < n → P p → Q p) → ((p : ℕ) → 2 ≤ p → p < n → Q p → P p) → Like l m
    → Like (upward n P ++ l) (upward o Q ++ m)
like_up n o P Q l m e f g k = subst (λ x. Like (upward n P ++ l) (upward x Q ++ m)) (sym e)
    (like_tab (λ i. rule (i + 2) (P (i + 2))) (λ i. rule (i + 2) (Q (i + 2))) (n - 2) l m
    (λ i b. record { at = refl; to = f (i + 2) (omega arith) (omega arith); from = g (i + 2) (omega arith) (omega arith) }) k)

-- ---- two stores

-- they have the same directory, pages and number of pages
pub record Alike (S : Shape) (s t : List ℕ) : Type 0 where
  pub many : pages S t ≡ pages S s
  pub deep : dir_depth t ≡ dir_depth s
  pub entry : (i : ℕ) → entry_at S t i ≡ entry_at S s i
  pub paged : (p : ℕ) → 2 ≤ p → p < pages S s → page S t p ≡ page S s p
  pub held : contents S t ≡ contents S s

flip : {S : Shape} {s t : List ℕ} → Alike S s t → Alike S t s
flip E = record {
  many = sym E.many;
  deep = sym E.deep;
  entry = λ i. sym (E.entry i);
  paged = λ p a b. sym (E.paged p a (subst (λ n. p < n) E.many b));
  held = sym E.held;
}

-- so it is where they differ in the counts only
pub but_counts : (S : Shape) → Sized S → (s t : List ℕ) → Frame s 24 56 t → Alike S s t
but_counts S sized s t F = record {
  many = many;
  deep = le32_below 16 F (omega arith);
  entry = λ i. le32_above (size S + 4 * i) F (omega (arith, sized.least));
  paged = λ p a b. page_kept S s t F.len above p a (subst (λ n. p < n) (sym many) b);
  held = contents_kept S s t F.len above;
}
  where
    many : pages S t ≡ pages S s
    many = ap (λ n. n / size S) F.len

    above : (k : ℕ) → 2 * size S ≤ k → byte t k ≡ byte s k
    above k l = F.above k (omega (arith, sized.least))

module _ (S : Shape) (h : List ℕ → ℕ) (s t : List ℕ) (E : Alike S s t) where
  page1_to : Page1 S s → Page1 S t
  page1_to P = record {
    range = λ i l. subst₂ (λ e n. (e ≡ 0) ⊎ ((2 ≤ e) × (e < n))) (sym (E.entry i)) (sym E.many) (P.range i l);
    beyond = λ i l m. E.entry i ∙ P.beyond i l (subst (λ d. 2 ^ d ≤ i) E.deep m);
  }

  -- the entry x is p exactly where the bucket g calls for it
  abbrev Named : List ℕ → ℕ → ℕ → ℕ → ℕ → Type 0
  Named g d x p i = (x ≡ p) ↔ Calls d (depth g) (top (depth g) (h (code g 0))) i

  stands_to : (p : ℕ) → 2 ≤ p → p < pages S s → Stands S h s p → Stands S h t p
  stands_to p a b (unused z f) = unused (subst Zero (sym (E.paged p a b)) z) (λ i l e. f i l (sym (E.entry i) ∙ e))
  stands_to p a b (used u l f) = used
      (subst (Bucket h) (sym (E.paged p a b)) u)
      (subst₂ (λ g d. depth g ≤ d) (sym (E.paged p a b)) (sym E.deep) l)
      (λ i m. subst (λ g. Named g (dir_depth t) (entry_at S t i) p i) (sym (E.paged p a b)) (subst₂ (λ d x. Named (page S s p) d x p i) (sym E.deep) (sym (E.entry i)) (f i m)))

  parted_to : (p : ℕ) → 2 ≤ p → p < pages S s → Parted S h s p → Parted S h t p
  parted_to p a b P =
      subst₂ (λ g gs. (j : ℕ) → depth g ≡ suc j → S.capacity < needs (rows_of h (rows_in gs) j (top j (h (code g 0))))) (sym (E.paged p a b)) (sym E.held) P

  deepest_to : Deepest S s → Deepest S t
  deepest_to d = E.deep ∙ d ∙ ap deepest_in (sym E.held)

-- ALL RULES BUT THAT OF PAGE 0'S BYTES HOLD OF BOTH OR OF NEITHER
module _ (S : Shape) (h : List ℕ → ℕ) (s t : List ℕ) (E : Alike S s t) where
  there : {p : ℕ} → p < pages S s → p < pages S t
  there {p} b = subst (λ n. p < n) (sym E.many) b

  pub turn_like : (P Q : Type 0) → (P → Q) → (Q → P) → (m : List Rule) → Every m → Like (in_turn S h s P []) (in_turn S h t Q m)
  turn_like P Q f g m e = (
    record { at = refl; to = f; from = g },
    (
      record { at = refl; to = page1_to S h s t E; from = page1_to S h t s (flip E) },
      like_up (pages S s) (pages S t) (Stands S h s) (Stands S h t) _ _ E.many (stands_to S h s t E) (λ p a b. stands_to S h t s (flip E) p a (there b))
          (like_up (pages S s) (pages S t) (Parted S h s) (Parted S h t) _ _ E.many (parted_to S h s t E) (λ p a b. parted_to S h t s (flip E) p a (there b))
          (record { at = refl; to = deepest_to S h s t E; from = deepest_to S h t s (flip E) }, e)),
    ),
  )
